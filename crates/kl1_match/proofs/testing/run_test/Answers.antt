use Rattle.std.proofs.Common.{ap, sym, ◌∙◌}
use Rattle.std.proofs.lemmas.Result.{IfOk-weaker}
use Rattle.kl1_match.specs.TestTerms.{tests_of}
use Rattle.kl1_match.specs.Testing.{is_variable, FoundAs, TestComes}
use Rattle.kl1_match.proofs.TestSteps.{variable_clashes, test_found, no_test}
use Rattle.kl1_match.proofs.testing.run_test.Goals as goal

pub returns-then-is_variable-clause-comes : goal.returns-then-is_variable-clause-comes
returns-then-is_variable-clause-comes g c =
    variable_clashes g.N.NameValue.built (tests_of c.args.view.now) c.args.place c.args.awaited.now.items (sym (ap is_variable c.instruction_at-instruction.ensures) ∙ (sym c.is_variable.ensures ∙ c.if-is_variable.true))

pub returns-in-Some-clause-comes : goal.returns-in-Some-clause-comes
returns-in-Some-clause-comes g c =
    let t = tests_of c.args.view.now in
    let built = g.N.NameValue.built in
    let before = c.args.awaited.now.items in
    let after = c.may_hold.new.awaited.items in
    IfOk-weaker c.may_hold.result (FoundAs built t c.in-Some.test before after) (TestComes built t c.args.place before after)
    (λ b k. test_found built t c.args.place c.test_at.result c.in-Some.test before after b (sym (ap is_variable c.instruction_at-instruction.ensures) ∙ (sym c.is_variable.ensures ∙ c.if-is_variable.false)) c.in-Some.is c.test_at.ensures.means k) c.may_hold.ensures.may

pub returns-in-None-clause-comes : goal.returns-in-None-clause-comes
returns-in-None-clause-comes g c =
    no_test g.N.NameValue.built (tests_of c.args.view.now) c.args.place c.test_at.result c.args.awaited.now.items (sym (ap is_variable c.instruction_at-instruction.ensures) ∙ (sym c.is_variable.ensures ∙ c.if-is_variable.false)) c.in-None.is c.test_at.ensures.means
