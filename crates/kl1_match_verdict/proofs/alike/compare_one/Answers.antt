use Rattle.std.proofs.Common.{Bool, subst}
use Rattle.kl1_match_verdict.specs.Outcomes.{TwoCome}
use Rattle.kl1_match_verdict.proofs.EachAlike.{one_begins, one_steps, one_clashes, one_ends, one_inside}
use Rattle.kl1_match_verdict.proofs.alike.compare_one.Goals as goal

pub loop-rest-init : goal.loop-rest-init
loop-rest-init g c = (c.requires.remembers, one_begins g.N.NameValue.built c.args.store.now.held c.args.place c.args.others.now c.args.awaited.now.items c.requires.others)

pub compare_two-requires-clause-right : goal.compare_two-requires-clause-right
compare_two-requires-clause-right g c = (one_inside c.args.store.now.held c.other-item.result c.loop-rest.rest.now c.in-len1-up.len_at_least c.other-item.is c.loop-rest.invariant.1.inside).0

pub loop-rest-preserved : goal.loop-rest-preserved
loop-rest-preserved g c =
    let P : Bool → Type 0 = λ b. TwoCome g.N.NameValue.built c.args.store.now.held c.args.place c.other-item.result c.loop-rest.awaited.items c.compare_two.new.awaited.items b in (
      c.in_ok-compare_two.ensures.remembers,
      one_steps g.N.NameValue.built c.args.store.now.held c.args.place c.other-item.result c.args.others.now c.loop-rest.rest.now c.args.awaited.now.items c.loop-rest.awaited.items c.compare_two.new.awaited.items c.in-len1-up.len_at_least c.other-item.is c.loop-rest.invariant.1
          (subst P c.if-not-branch.false c.in_ok-compare_two.ensures.come),
    )

pub returns-then-not-branch-clause-comes : goal.returns-then-not-branch-clause-comes
returns-then-not-branch-clause-comes g c =
    let P : Bool → Type 0 = λ b. TwoCome g.N.NameValue.built c.args.store.now.held c.args.place c.other-item.result c.loop-rest.awaited.items c.compare_two.new.awaited.items b in
    one_clashes g.N.NameValue.built c.args.store.now.held c.args.place c.other-item.result c.args.others.now c.loop-rest.rest.now c.args.awaited.now.items c.loop-rest.awaited.items c.compare_two.new.awaited.items c.in-len1-up.len_at_least c.other-item.is c.loop-rest.invariant.1
    (subst P c.if-not-branch.true c.in_ok-compare_two.ensures.come)

pub returns-clause-comes : goal.returns-clause-comes
returns-clause-comes g c = one_ends g.N.NameValue.built c.args.store.now.held c.args.place c.args.others.now c.loop-rest.rest.now c.args.awaited.now.items c.loop-rest.awaited.items c.in_default.len_below c.loop-rest.invariant.1
