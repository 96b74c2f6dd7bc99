use Rattle.std.proofs.Common.{subst}
use Rattle.kl1_match.specs.declared.passing.Passed.{Passed}
use Rattle.kl1_match.specs.TestTerms.{tests_of}
use Rattle.kl1_match.specs.Passing.{Passes}
use Rattle.kl1_match.proofs.TestSteps.{same_agrees, same_clashes, same_waits}
use Rattle.kl1_match.proofs.testing.may_be_same.Goals as goal

pub returns-in-Same-clause-may : goal.returns-in-Same-clause-may
returns-in-Same-clause-may g c =
    let t = tests_of c.args.view.now in
    let P : Passed → Type 0 = λ v. Passes g.N.NameValue.built t c.args.left c.args.right c.args.awaited.now.items c.compare_terms.new.awaited.items v in
    same_agrees g.N.NameValue.built t c.args.left c.args.right c.args.awaited.now.items c.compare_terms.new.awaited.items (subst P c.in-Same.is c.in_ok-compare_terms.ensures.passes)

pub returns-in-Differs-clause-may : goal.returns-in-Differs-clause-may
returns-in-Differs-clause-may g c =
    let t = tests_of c.args.view.now in
    let P : Passed → Type 0 = λ v. Passes g.N.NameValue.built t c.args.left c.args.right c.args.awaited.now.items c.compare_terms.new.awaited.items v in
    same_clashes g.N.NameValue.built t c.args.left c.args.right c.args.awaited.now.items c.compare_terms.new.awaited.items (subst P c.in-Differs.is c.in_ok-compare_terms.ensures.passes)

pub returns-in-Unknown-clause-may : goal.returns-in-Unknown-clause-may
returns-in-Unknown-clause-may g c =
    let t = tests_of c.args.view.now in
    let P : Passed → Type 0 = λ v. Passes g.N.NameValue.built t c.args.left c.args.right c.args.awaited.now.items c.compare_terms.new.awaited.items v in
    same_waits g.N.NameValue.built t c.args.left c.args.right c.args.awaited.now.items c.compare_terms.new.awaited.items (subst P c.in-Unknown.is c.in_ok-compare_terms.ensures.passes)
