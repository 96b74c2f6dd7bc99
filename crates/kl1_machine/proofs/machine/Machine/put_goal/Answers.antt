use Rattle.kl1_machine.proofs.Words.{arith}
use Rattle.kl1_machine.proofs.Sincing.{still, since_store}
use Rattle.kl1_machine.proofs.Answering.{bound_grows, put_brings}
use Rattle.kl1_machine.proofs.machine.Machine.put_goal.Goals as goal

pub unify_cells-requires-clause-left_in : goal.unify_cells-requires-clause-left_in
unify_cells-requires-clause-left_in c = omega (arith, c.requires.can.unbound.within, c.in_ok-cell.ensures.ok.variables)

pub returns-clause-ok : goal.returns-clause-ok
returns-clause-ok c =
    let u = c.in_ok-_unified.ensures in
    put_brings c.args.numbers.now c.args.answer.now c.args.self.now c.build_answer.new.self c.in_ok-cell.cell c.unify_cells.new.self
    (record { inside = c.requires.machine; can = c.requires.can; builds = c.in_ok-cell.ensures.ok; unified = c.in_ok-_unified._unified; settles = u.ok; only = u.bound })
    u.hooks

-- ---- what stays

pub returns-clause-since : goal.returns-clause-since
returns-clause-since c b s =
    let u = c.in_ok-_unified.ensures in
    since_store b c.build_answer.new.self c.unify_cells.new.self (bound_grows c.build_answer.new.self c.unify_cells.new.self u.bound u.hooks) (c.in_ok-cell.ensures.since b s)

pub returns-in_err-_unified-clause-since : goal.returns-in_err-_unified-clause-since
returns-in_err-_unified-clause-since c b s =
    let u = c.unify_cells.ensures in
    still c.from_residual-in_err-_unified.result b _ (since_store b c.build_answer.new.self c.unify_cells.new.self (bound_grows c.build_answer.new.self c.unify_cells.new.self u.bound u.hooks) (c.in_ok-cell.ensures.since b s))
