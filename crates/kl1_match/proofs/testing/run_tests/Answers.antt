use Rattle.std.proofs.Common.{Bool, subst}
use Rattle.kl1_match.specs.TestTerms.{tests_of}
use Rattle.kl1_match.specs.Testing.{TestComes}
use Rattle.kl1_match.proofs.TestSteps.{tests_begin, tests_step, tests_clash, tests_end}
use Rattle.kl1_match.proofs.testing.run_tests.Goals as goal

pub loop-place-init : goal.loop-place-init
loop-place-init g c = (c.requires.remembers, tests_begin g.N.NameValue.built (tests_of c.args.view.now) c.args.awaited.now.items)

pub loop-place-preserved : goal.loop-place-preserved
loop-place-preserved g c =
    let t = tests_of c.args.view.now in
    let P : Bool → Type 0 = λ b. TestComes g.N.NameValue.built t c.loop-place.place c.loop-place.awaited.items c.run_test.new.awaited.items b in (
      c.in_ok-run_test.ensures.remembers,
      tests_step g.N.NameValue.built t c.loop-place.place c.behind_term-place.result c.args.awaited.now.items c.loop-place.awaited.items c.run_test.new.awaited.items c.loop-place-test.true c.behind_term-place.ensures.read c.loop-place.invariant.1
          (subst P c.if-not-branch.false c.in_ok-run_test.ensures.comes),
    )

pub returns-then-not-branch-clause-come : goal.returns-then-not-branch-clause-come
returns-then-not-branch-clause-come g c =
    let t = tests_of c.args.view.now in
    let P : Bool → Type 0 = λ b. TestComes g.N.NameValue.built t c.loop-place.place c.loop-place.awaited.items c.run_test.new.awaited.items b in
    tests_clash g.N.NameValue.built t c.loop-place.place c.args.awaited.now.items c.loop-place.awaited.items c.run_test.new.awaited.items c.loop-place-test.true c.loop-place.invariant.1
    (subst P c.if-not-branch.true c.in_ok-run_test.ensures.comes)

pub returns-clause-come : goal.returns-clause-come
returns-clause-come g c = tests_end g.N.NameValue.built (tests_of c.args.view.now) c.loop-place.place c.args.awaited.now.items c.loop-place.awaited.items c.loop-place-test.false c.loop-place.invariant.1
