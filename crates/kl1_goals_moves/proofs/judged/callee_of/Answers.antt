use Rattle.kl1_goals_moves.proofs.JudgedMoves.{called_named}
use Rattle.kl1_goals_moves.proofs.judged.callee_of.Goals as goal

pub returns-in-Some-clause-called : goal.returns-in-Some-clause-called
returns-in-Some-clause-called g c = λ f name a b e. called_named f c.args.store.now.held c.args.goal c.in-Some.name name a b c.called_in.result c.in-Some.is (c.called_in.ensures.called f) e
