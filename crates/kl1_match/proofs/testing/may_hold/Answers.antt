use Rattle.std.proofs.lemmas.Result.{IfOk-weaker}
use Rattle.kl1_match_guard.specs.declared.test.Test.TheVariants.{Looks, IsSame, IsOther, Compares}
use Rattle.kl1_match.specs.TestTerms.{tests_of}
use Rattle.kl1_match.specs.Testing.{SettledAs, SameAs, OtherAs, ComparedAs, FoundAs}
use Rattle.kl1_match.proofs.TestSteps.{found_holds, found_looks, found_same, found_other, found_compares, test_there}
use Rattle.kl1_match.proofs.testing.may_hold.Goals as goal

pub returns-in-Holds-clause-may : goal.returns-in-Holds-clause-may
returns-in-Holds-clause-may g c = found_holds g.N.NameValue.built (tests_of c.args.view.now) c.args.test c.args.awaited.now.items c.in-Holds.is

pub look_at-requires : goal.look_at-requires
look_at-requires g c = test_there g.N.NameValue.built (tests_of c.args.view.now) c.args.test (Looks c.in-Looks.type_test c.in-Looks.at) c.in-Looks.is c.requires.test

pub returns-in-Looks-clause-may : goal.returns-in-Looks-clause-may
returns-in-Looks-clause-may g c =
    let t = tests_of c.args.view.now in
    let built = g.N.NameValue.built in
    let before = c.args.awaited.now.items in
    let after = c.settle.new.awaited.items in
    IfOk-weaker c.settle.result (SettledAs built t c.look_at.result before after) (FoundAs built t c.args.test before after)
    (λ b k. found_looks built t c.args.test c.in-Looks.type_test c.in-Looks.at c.look_at.result before after b c.in-Looks.is c.look_at.ensures.value k) c.settle.ensures

pub may_be_same-requires-clause-left : goal.may_be_same-requires-clause-left
may_be_same-requires-clause-left g c = (test_there g.N.NameValue.built (tests_of c.args.view.now) c.args.test (IsSame c.in-IsSame.left c.in-IsSame.right) c.in-IsSame.is c.requires.test).0

pub may_be_same-requires-clause-right : goal.may_be_same-requires-clause-right
may_be_same-requires-clause-right g c = (test_there g.N.NameValue.built (tests_of c.args.view.now) c.args.test (IsSame c.in-IsSame.left c.in-IsSame.right) c.in-IsSame.is c.requires.test).1

pub returns-in-IsSame-clause-may : goal.returns-in-IsSame-clause-may
returns-in-IsSame-clause-may g c =
    let t = tests_of c.args.view.now in
    let built = g.N.NameValue.built in
    let before = c.args.awaited.now.items in
    let after = c.may_be_same.new.awaited.items in
    IfOk-weaker c.may_be_same.result (SameAs built t c.in-IsSame.left c.in-IsSame.right before after) (FoundAs built t c.args.test before after)
    (λ b k. found_same built t c.args.test c.in-IsSame.left c.in-IsSame.right before after b c.in-IsSame.is k) c.may_be_same.ensures.may

pub may_differ-requires-clause-left : goal.may_differ-requires-clause-left
may_differ-requires-clause-left g c = (test_there g.N.NameValue.built (tests_of c.args.view.now) c.args.test (IsOther c.in-IsOther.left c.in-IsOther.right) c.in-IsOther.is c.requires.test).0

pub may_differ-requires-clause-right : goal.may_differ-requires-clause-right
may_differ-requires-clause-right g c = (test_there g.N.NameValue.built (tests_of c.args.view.now) c.args.test (IsOther c.in-IsOther.left c.in-IsOther.right) c.in-IsOther.is c.requires.test).1

pub returns-in-IsOther-clause-may : goal.returns-in-IsOther-clause-may
returns-in-IsOther-clause-may g c =
    let t = tests_of c.args.view.now in
    let built = g.N.NameValue.built in
    let before = c.args.awaited.now.items in
    let after = c.may_differ.new.awaited.items in
    IfOk-weaker c.may_differ.result (OtherAs built t c.in-IsOther.left c.in-IsOther.right before after) (FoundAs built t c.args.test before after)
    (λ b k. found_other built t c.args.test c.in-IsOther.left c.in-IsOther.right before after b c.in-IsOther.is k) c.may_differ.ensures.may

pub compare_two-requires-clause-left : goal.compare_two-requires-clause-left
compare_two-requires-clause-left g c = (test_there g.N.NameValue.built (tests_of c.args.view.now) c.args.test (Compares c.in-Compares.comparison c.in-Compares.left c.in-Compares.right) c.in-Compares.is c.requires.test).0

pub compare_two-requires-clause-right : goal.compare_two-requires-clause-right
compare_two-requires-clause-right g c = (test_there g.N.NameValue.built (tests_of c.args.view.now) c.args.test (Compares c.in-Compares.comparison c.in-Compares.left c.in-Compares.right) c.in-Compares.is c.requires.test).1

pub returns-in-Compares-clause-may : goal.returns-in-Compares-clause-may
returns-in-Compares-clause-may g c =
    let t = tests_of c.args.view.now in
    let built = g.N.NameValue.built in
    let before = c.args.awaited.now.items in
    let after = c.compare_two.new.awaited.items in
    IfOk-weaker c.compare_two.result (ComparedAs built t c.in-Compares.comparison c.in-Compares.left c.in-Compares.right before after) (FoundAs built t c.args.test before after)
    (λ b k. found_compares built t c.args.test c.in-Compares.comparison c.in-Compares.left c.in-Compares.right before after b c.in-Compares.is k) c.compare_two.ensures
