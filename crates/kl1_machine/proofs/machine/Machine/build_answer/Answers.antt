use Rattle.kl1_machine.proofs.Words.{[], length, ap, ◌∙◌, arith, names_of, with_names, CellName, Held, built, goal_variables, goal_row_below}
use Rattle.kl1_store.specs.Held.{AreIn}
use Rattle.kl1_match.proofs.GoalCells.{told_inside, told_variables}
use Rattle.kl1_machine.proofs.Sincing.{still, since_store, since_counts}
use Rattle.kl1_machine.proofs.Answering.{IsBuilt, built_answer}
use Rattle.kl1_machine.proofs.machine.Machine.build_answer.Goals as goal

pub put_goal-cell-requires-clause-named : goal.put_goal-cell-requires-clause-named
put_goal-cell-requires-clause-named c = rw c.requires.can.numbers_are c.row-row.ensures.named

pub put_goal-cell-requires-clause-below : goal.put_goal-cell-requires-clause-below
put_goal-cell-requires-clause-below c =
    let h = c.args.self.now.store.held in
    let v = c.in_ok-put_told_variables.ensures in
    let cells = goal_variables c.put_told_variables.new.scratch in
    let count = (told_variables built h c.put_told_variables.new.store.held c.args.answer.now.told.now cells c.put_told_variables.ensures.formed c.requires.can.told v.bindings v.variables).length_is in
    let same = ap length c.in_ok-reserve_goal.ensures.scratch in
    let own = c.requires.can.count in
    goal_row_below (with_names [] (names_of c.args.answer.now.code.now)) c.row-row.result.now c.args.answer.now.code.now _ c.row-row.ensures (omega (arith, count, same, own))

pub put_goal-cell-requires-clause-variables : goal.put_goal-cell-requires-clause-variables
put_goal-cell-requires-clause-variables c =
    let h = c.args.self.now.store.held in
    let v = c.in_ok-put_told_variables.ensures in
    let r = c.in_ok-reserve_goal.ensures in
    let cells = goal_variables c.put_told_variables.new.scratch in
    let inside : AreIn c.put_told_variables.new.store.held cells = told_inside built h c.put_told_variables.new.store.held c.args.answer.now.told.now cells c.requires.can.told v.held v.variables in
    rw (r.scratch, r.same) inside

pub returns-clause-ok : goal.returns-clause-ok
returns-clause-ok c =
    let one = c.put_told_variables.new.store.held in
    let k = c.put_goal-cell.new.store in
    let cells = goal_variables c.put_told_variables.new.scratch in
    let row = c.row-row.result.now in
    let x = c.put_goal-cell.result in
    let v = c.in_ok-put_told_variables.ensures in
    let r = c.in_ok-reserve_goal.ensures in
    let b = c.put_goal-cell.ensures in
    let is : IsBuilt c.args.numbers.now c.args.answer.now row c.args.self.now one k cells x =
    record {
      machine = c.requires.machine;
      can = c.requires.can;
      formed = c.put_told_variables.ensures.formed;
      row_is = c.row-row.ensures;
      one_is = v.held;
      first = v.grown;
      cells_are = v.variables;
      more = rw r.same at b.grown;
      bindings = b.bindings ∙ ap (λ (z : Held CellName). z.bindings) r.same;
      builds = rw (r.scratch, r.same) at b.goal;
      hooks = b.hooks ∙ r.hooks ∙ v.hooks;
    } in
    built_answer c.args.numbers.now c.args.answer.now row c.args.self.now one k cells x is

-- ---- what stays

pub returns-clause-since : goal.returns-clause-since
returns-clause-since c b s =
    let m = c.args.self.now in
    let k = c.put_goal-cell.new.store in
    let g = returns-clause-ok c in
    since_counts b (record m { store = k }) _ _ m.counts.reports (since_store b m k (record { grown = g.grown; hooks = g.hooks }) s)

pub returns-in_err-put_told_variables-clause-since : goal.returns-in_err-put_told_variables-clause-since
returns-in_err-put_told_variables-clause-since c b s =
    let v = c.put_told_variables.ensures in
    still c.from_residual.result b _ (since_store b c.args.self.now c.put_told_variables.new.store (record { grown = v.grown; hooks = v.hooks }) s)

pub returns-in_err-reserve_goal-clause-since : goal.returns-in_err-reserve_goal-clause-since
returns-in_err-reserve_goal-clause-since c b s =
    let m = c.args.self.now in
    let v = c.in_ok-put_told_variables.ensures in
    still c.from_residual-in_err-reserve_goal.result b _ (since_store b m c.reserve_goal.new.store (record { grown = rw c.reserve_goal.ensures.same v.grown; hooks = c.reserve_goal.ensures.hooks ∙ v.hooks }) s)
