use Rattle.kl1_machine.proofs.Words.{[], length, ap, ◌∙◌, arith, names_of, with_names, CellName, Held, with_variables, goal_variables, goal_row_below}
use Rattle.kl1_machine.proofs.Sincing.{still, since_store, since_counts}
use Rattle.kl1_machine.proofs.Starting.{IsPut, built_goal}
use Rattle.kl1_machine.proofs.machine.Machine.build_goal.Goals as goal

pub put_goal_variables-requires : goal.put_goal_variables-requires
put_goal_variables-requires c = record { some = c.requires.machine.inside.some }

pub put_goal-cell-requires-clause-named : goal.put_goal-cell-requires-clause-named
put_goal-cell-requires-clause-named c = rw c.requires.numbers c.row-row.ensures.named

pub put_goal-cell-requires-clause-below : goal.put_goal-cell-requires-clause-below
put_goal-cell-requires-clause-below c =
    let count = c.in_ok-put_goal_variables.ensures.variables.next.length_is in
    let same = ap length c.in_ok-reserve_goal.ensures.scratch in
    let own = c.requires.variables in
    goal_row_below (with_names [] (names_of c.args.code.now)) c.row-row.result.now c.args.code.now _ c.row-row.ensures (omega (arith, count, same, own))

pub returns-clause-ok : goal.returns-clause-ok
returns-clause-ok c =
    let h = c.args.self.now.store.held in
    let one = c.put_goal_variables.new.store.held in
    let k = c.put_goal-cell.new.store in
    let cells = goal_variables c.put_goal_variables.new.scratch in
    let row = c.row-row.result.now in
    let x = c.put_goal-cell.result in
    let v = c.in_ok-put_goal_variables.ensures in
    let r = c.in_ok-reserve_goal.ensures in
    let b = c.put_goal-cell.ensures in
    let put : IsPut c.args.code.now c.args.numbers.now row c.args.self.now one k cells x =
    record {
      machine = c.requires.machine;
      numbered = c.requires.numbered;
      row_is = c.row-row.ensures;
      one_is = v.held ∙ ap (with_variables h) c.requires.variables;
      first = v.grown;
      variables = rw c.requires.variables at v.variables;
      more = rw r.same at b.grown;
      bindings = b.bindings ∙ ap (λ (z : Held CellName). z.bindings) r.same;
      builds = rw (r.scratch, r.same) at b.goal;
      hooks = b.hooks ∙ r.hooks ∙ v.hooks;
    } in
    built_goal _ _ _ c.args.self.now _ k _ x put _ _

-- ---- what stays

pub returns-clause-since : goal.returns-clause-since
returns-clause-since c b s =
    let m = c.args.self.now in
    let k = c.put_goal-cell.new.store in
    let g = returns-clause-ok c in
    since_counts b (record m { store = k }) _ _ m.counts.reports (since_store b m k (record { grown = g.grown; hooks = g.hooks }) s)

pub returns-in_err-put_goal_variables-clause-since : goal.returns-in_err-put_goal_variables-clause-since
returns-in_err-put_goal_variables-clause-since c b s =
    let v = c.put_goal_variables.ensures in
    still c.from_residual.result b _ (since_store b c.args.self.now c.put_goal_variables.new.store (record { grown = v.grown; hooks = v.hooks }) s)

pub returns-in_err-reserve_goal-clause-since : goal.returns-in_err-reserve_goal-clause-since
returns-in_err-reserve_goal-clause-since c b s =
    let m = c.args.self.now in
    let v = c.in_ok-put_goal_variables.ensures in
    still c.from_residual-in_err-reserve_goal.result b _ (since_store b m c.reserve_goal.new.store (record { grown = rw c.reserve_goal.ensures.same v.grown; hooks = c.reserve_goal.ensures.hooks ∙ v.hooks }) s)
