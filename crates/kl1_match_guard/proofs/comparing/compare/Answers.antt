use Rattle.kl1_match_guard.proofs.Outcomes.{known_waits}
use Rattle.kl1_match_guard.proofs.comparing.compare.Goals as goal

pub returns-in-ComesTo-2-clause-waits : goal.returns-in-ComesTo-2-clause-waits
returns-in-ComesTo-2-clause-waits g c = known_waits (g.T.View.IsFree c.args.view.now) c.compare_numbers.result c.compare_numbers.ensures.known
