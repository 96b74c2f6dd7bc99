use Rattle.kl1_goals_moves.proofs.JudgedMoves.{called_two}
use Rattle.kl1_goals_moves.proofs.judged.callee_of_whole.Goals as goal

pub returns-in-Some-clause-called : goal.returns-in-Some-clause-called
returns-in-Some-clause-called g c = λ f name a b e. called_two f c.args.store.now.held c.in-Some.left c.in-Some.right a b c.called.result (c.in-Some.ensures.two f name a b e) (c.called.ensures.called f)
