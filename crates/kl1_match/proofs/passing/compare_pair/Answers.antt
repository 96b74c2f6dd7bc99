use Rattle.std.proofs.Common.{◌∷◌, []}
use Rattle.std.proofs.lemmas.Result.{IfOk-weaker}
use Rattle.kl1_store.specs.Sameness.{AlikeAs}
use Rattle.kl1_match.specs.TestTerms.{tests_of}
use Rattle.kl1_match.specs.Passing.{PairsCome}
use Rattle.kl1_match.proofs.TermPairs.{pair_compared, no_row_left}
use Rattle.kl1_match.proofs.passing.compare_pair.Goals as goal

pub returns-in-Cell-right-clause-comes : goal.returns-in-Cell-right-clause-comes
returns-in-Cell-right-clause-comes g c =
    let t = tests_of c.args.view.now in
    IfOk-weaker c.may_be_same.result (AlikeAs g.N.NameValue.built t.held c.in-Cell.left c.in-Cell-right.right c.args.awaited.now.items c.may_be_same.new.waits.items)
    (PairsCome g.N.NameValue.built t (c.args.pair ∷ []) c.args.awaited.now.items c.may_be_same.new.waits.items)
    (λ b a. pair_compared g.N.NameValue.built t c.args.pair c.in-Cell.left c.in-Cell-right.right c.args.awaited.now.items c.may_be_same.new.waits.items b c.in-Cell.is c.in-Cell-right.is a) c.may_be_same.ensures.alike

pub returns-in-Row-clause-comes : goal.returns-in-Row-clause-comes
returns-in-Row-clause-comes g c = absurd (no_row_left g.N.NameValue.built (tests_of c.args.view.now) c.args.pair c.in-Row.field-0 c.in-Row.is c.requires.pair)
