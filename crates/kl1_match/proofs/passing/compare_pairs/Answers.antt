use Rattle.std.proofs.Common.{Bool, ◌∷◌, [], subst}
use Rattle.kl1_match.specs.TestTerms.{tests_of}
use Rattle.kl1_match.specs.Passing.{PairsCome}
use Rattle.kl1_match.proofs.TermPairs.{pairs_begin, pairs_step, pairs_clash, pairs_end, pair_inside}
use Rattle.kl1_match.proofs.passing.compare_pairs.Goals as goal

pub loop-rest-init : goal.loop-rest-init
loop-rest-init g c = (c.requires.remembers, pairs_begin g.N.NameValue.built (tests_of c.args.view.now) c.args.pairs.now c.args.awaited.now.items c.requires.pairs)

pub compare_pair-requires-clause-pair : goal.compare_pair-requires-clause-pair
compare_pair-requires-clause-pair g c = pair_inside g.N.NameValue.built (tests_of c.args.view.now) c.first-item.result c.loop-rest.rest.now c.in-len1-up.len_at_least c.first-item.is c.loop-rest.invariant.1.inside

pub loop-rest-preserved : goal.loop-rest-preserved
loop-rest-preserved g c =
    let t = tests_of c.args.view.now in
    let P : Bool → Type 0 = λ b. PairsCome g.N.NameValue.built t (c.first-item.result ∷ []) c.loop-rest.awaited.items c.compare_pair.new.awaited.items b in (
      c.in_ok-compare_pair.ensures.remembers,
      pairs_step g.N.NameValue.built t c.first-item.result c.args.pairs.now c.loop-rest.rest.now c.args.awaited.now.items c.loop-rest.awaited.items c.compare_pair.new.awaited.items c.in-len1-up.len_at_least c.first-item.is c.loop-rest.invariant.1
          (subst P c.if-not-branch.false c.in_ok-compare_pair.ensures.comes),
    )

pub returns-then-not-branch-clause-comes : goal.returns-then-not-branch-clause-comes
returns-then-not-branch-clause-comes g c =
    let t = tests_of c.args.view.now in
    let P : Bool → Type 0 = λ b. PairsCome g.N.NameValue.built t (c.first-item.result ∷ []) c.loop-rest.awaited.items c.compare_pair.new.awaited.items b in
    pairs_clash g.N.NameValue.built t c.first-item.result c.args.pairs.now c.loop-rest.rest.now c.args.awaited.now.items c.loop-rest.awaited.items c.compare_pair.new.awaited.items c.in-len1-up.len_at_least c.first-item.is c.loop-rest.invariant.1
    (subst P c.if-not-branch.true c.in_ok-compare_pair.ensures.comes)

pub returns-clause-comes : goal.returns-clause-comes
returns-clause-comes g c = pairs_end g.N.NameValue.built (tests_of c.args.view.now) c.args.pairs.now c.loop-rest.rest.now c.args.awaited.now.items c.loop-rest.awaited.items c.in_default.len_below c.loop-rest.invariant.1
