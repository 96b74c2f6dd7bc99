use Rattle.kl1_match_guard.proofs.OfTwo.{two_at}
use Rattle.kl1_match_guard.proofs.test.test_at.Goals as goal

pub returns-then-count-eq2-clause-inside : goal.returns-then-count-eq2-clause-inside
returns-then-count-eq2-clause-inside g c = two_at (g.T.View.IsAt c.args.view.now) c.argument-left.result c.argument-right.result c.test_of_two.result c.argument-left.ensures.inside c.argument-right.ensures.inside c.test_of_two.ensures.two
