use Rattle.kl1_store.specs.InModules.{qualified_term}
use Rattle.kl1_goals_moves.proofs.JudgedMoves.{call_judged}
use Rattle.kl1_goals_moves.proofs.judged.call_at.Goals as goal

pub returns-in-Calls-clause-call : goal.returns-in-Calls-clause-call
returns-in-Calls-clause-call g c = λ f r k. let h = c.args.store.now.held in call_judged f h (qualified_term f h c.args.goal) c.in-Calls.call k (c.in-Calls.ensures.called f)
