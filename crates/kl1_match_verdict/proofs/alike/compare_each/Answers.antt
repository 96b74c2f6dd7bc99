use Rattle.std.proofs.Common.{◌-◌, Bool, length, take, drop, subst}
use Rattle.kl1_match_verdict.specs.Outcomes.{OneComes}
use Rattle.kl1_match_verdict.proofs.EachAlike.{each_begins, each_steps, each_clashes, each_ends, one_inside}
use Rattle.kl1_match_verdict.proofs.Rising.{rising_come}
use Rattle.kl1_match_verdict.proofs.alike.compare_each.Goals as goal

pub loop-rest-init : goal.loop-rest-init
loop-rest-init g c = (c.requires.remembers, each_begins g.N.NameValue.built c.args.store.now.held c.args.places.now c.args.awaited.now.items c.requires.places)

pub compare_one-requires-clause-place : goal.compare_one-requires-clause-place
compare_one-requires-clause-place g c = (one_inside c.args.store.now.held c.first-item.result c.loop-rest.rest.now c.in-len1-up.len_at_least c.first-item.is c.loop-rest.invariant.1.inside).0

pub compare_one-requires-clause-others : goal.compare_one-requires-clause-others
compare_one-requires-clause-others g c = (one_inside c.args.store.now.held c.first-item.result c.loop-rest.rest.now c.in-len1-up.len_at_least c.first-item.is c.loop-rest.invariant.1.inside).1

pub loop-rest-preserved : goal.loop-rest-preserved
loop-rest-preserved g c =
    let P : Bool → Type 0 = λ b. OneComes g.N.NameValue.built c.args.store.now.held c.first-item.result (take (length c.loop-rest.rest.now - 1) (drop 1 c.loop-rest.rest.now)) c.loop-rest.awaited.items c.compare_one.new.awaited.items b in (
      c.in_ok-compare_one.ensures.remembers,
      each_steps g.N.NameValue.built c.args.store.now.held c.first-item.result c.args.places.now c.loop-rest.rest.now c.args.awaited.now.items c.loop-rest.awaited.items c.compare_one.new.awaited.items c.in-len1-up.len_at_least c.first-item.is c.loop-rest.invariant.1
          (subst P c.if-not-branch.false c.in_ok-compare_one.ensures.comes),
    )

pub returns-then-not-branch-clause-comes : goal.returns-then-not-branch-clause-comes
returns-then-not-branch-clause-comes g c =
    let P : Bool → Type 0 = λ b. OneComes g.N.NameValue.built c.args.store.now.held c.first-item.result (take (length c.loop-rest.rest.now - 1) (drop 1 c.loop-rest.rest.now)) c.loop-rest.awaited.items c.compare_one.new.awaited.items b in
    each_clashes g.N.NameValue.built c.args.store.now.held c.first-item.result c.args.places.now c.loop-rest.rest.now c.args.awaited.now.items c.loop-rest.awaited.items c.compare_one.new.awaited.items c.in-len1-up.len_at_least c.first-item.is c.loop-rest.invariant.1
    (subst P c.if-not-branch.true c.in_ok-compare_one.ensures.comes)

pub returns-clause-comes : goal.returns-clause-comes
returns-clause-comes g c = each_ends g.N.NameValue.built c.args.store.now.held c.args.places.now c.loop-rest.rest.now c.args.awaited.now.items c.loop-rest.awaited.items c.in_default.len_below c.loop-rest.invariant.1

pub returns-then-are_rising-clause-comes : goal.returns-then-are_rising-clause-comes
returns-then-are_rising-clause-comes g c = rising_come g.N.NameValue.built c.args.store.now.held c.args.places.now c.args.awaited.now.items (c.are_rising.ensures c.if-are_rising.true)
