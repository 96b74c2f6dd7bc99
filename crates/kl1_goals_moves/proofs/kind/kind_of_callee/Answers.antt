use Rattle.kl1_goals_moves.proofs.Callees.{call_inside}
use Rattle.kl1_goals_moves.proofs.kind.kind_of_callee.Goals as goal

pub returns-in-Calls-clause-inside : goal.returns-in-Calls-clause-inside
returns-in-Calls-clause-inside g c = λ h inside. call_inside h c.args.callee c.in-Calls.call c.kind_of_call.result c.in-Calls.is (c.kind_of_call.ensures.inside h) inside
