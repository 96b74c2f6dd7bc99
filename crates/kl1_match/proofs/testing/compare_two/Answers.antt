use Rattle.std.proofs.Common.{rules, ◌≡◌}
use Rattle.kl1_model.specs.Guard.{compared}
use Rattle.kl1_match.specs.TestTerms.{tests_of}
use Rattle.kl1_match.proofs.TestSteps.{compared_integers}
use Rattle.kl1_match.proofs.testing.compare_two.Goals as goal

pub returns-in-Integer-form_of : goal.returns-in-Integer-form_of
returns-in-Integer-form_of g c =
    let same : c.holds.result ≡ compared c.args.comparison c.in-Integer.first c.in-Integer-form_of.second = search rules in
    compared_integers g.N.NameValue.built (tests_of c.args.view.now) c.args.comparison c.args.left c.args.right c.in-Integer.first c.in-Integer-form_of.second c.args.awaited.now.items c.holds.result same c.in-Integer.ensures.means c.in-Integer-form_of.ensures.means
