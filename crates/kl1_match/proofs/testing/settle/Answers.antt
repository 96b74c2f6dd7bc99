use Rattle.std.proofs.Common.{subst}
use Rattle.kl1_match_guard.specs.declared.outcome.Outcome.{Outcome}
use Rattle.kl1_match_guard.specs.Outcomes.{IsWaiting}
use Rattle.kl1_match.specs.declared.test_view.TestVariable.{TestVariable}
use Rattle.kl1_match.specs.TestTerms.{tests_of, IsFreeIn}
use Rattle.kl1_match.proofs.TestSteps.{settled_agrees, settled_clashes, settled_own}
use Rattle.kl1_match.proofs.testing.settle.Goals as goal

pub returns-in-Agrees : goal.returns-in-Agrees
returns-in-Agrees g c = settled_agrees g.N.NameValue.built (tests_of c.args.view.now) c.args.outcome c.args.awaited.now.items c.in-Agrees.is

pub returns-in-Clashes : goal.returns-in-Clashes
returns-in-Clashes g c = settled_clashes g.N.NameValue.built (tests_of c.args.view.now) c.args.outcome c.args.awaited.now.items c.in-Clashes.is

pub returns-in-Own : goal.returns-in-Own
returns-in-Own g c =
    let t = tests_of c.args.view.now in
    let P : Outcome TestVariable → Type 0 = λ o. IsWaiting (IsFreeIn t) o in
    settled_own g.N.NameValue.built t c.args.outcome c.in-Waits.variable c.in-Own.field-0 c.args.awaited.now.items c.in-Waits.is c.in-Own.is (subst P c.in-Waits.is c.requires)
