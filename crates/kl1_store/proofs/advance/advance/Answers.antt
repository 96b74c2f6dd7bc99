use Rattle.std.proofs.Common.{◌≡◌, List, [], sym, ap, ◌∙◌, arith, subst}
use Rattle.std.proofs.lemmas.List.{nil_from_length}
use Rattle.kl1_model.specs.Unify.{mgu}
use Rattle.kl1_model.proofs.UnifyRule.{nothing_solved}
use Rattle.kl1_store.specs.declared.merge.Merge.{Merge}
use Rattle.kl1_store.specs.Waiting.{waiting}
use Rattle.kl1_store.specs.Nested.{structure_term}
use Rattle.kl1_store.specs.Merged.{AreMerged}
use Rattle.kl1_store.proofs.Advancing.{pair_popped, closed_at, dropped_at, opened_at, never_at, taken_at, nothing_waits}
use Rattle.kl1_store.proofs.Equalling.{nested_turn, nested_same, nested_opens, nested_closed, expects_taken}
use Rattle.kl1_store.proofs.advance.advance.Goals as goal

pub merged_turn-left-requires-clause-pair : goal.merged_turn-left-requires-clause-pair
merged_turn-left-requires-clause-pair g c = pair_popped c.args.cells.now.held c.loop-frame.frames.items c.pop.new.self.items c.in-Some.frame c.loop-frame.invariant.pairs c.in-Some.ensures.items

pub loop-frame-smaller-then-frame : goal.loop-frame-smaller-then-frame
loop-frame-smaller-then-frame g c = (closed_at g.N.NameValue.built c.args.cells.now.held c.loop-frame.frames.items c.pop.new.self.items c.in-Some.frame c.loop-frame.invariant.pairs c.in-Some.ensures.items c.if-frame.true).less

pub loop-frame-preserved-then-frame : goal.loop-frame-preserved-then-frame
loop-frame-preserved-then-frame g c =
    let r = closed_at g.N.NameValue.built c.args.cells.now.held c.loop-frame.frames.items c.pop.new.self.items c.in-Some.frame c.loop-frame.invariant.pairs c.in-Some.ensures.items c.if-frame.true in
    let pair = pair_popped c.args.cells.now.held c.loop-frame.frames.items c.pop.new.self.items c.in-Some.frame c.loop-frame.invariant.pairs c.in-Some.ensures.items in
    let n = nested_closed c.args.cells.now.held c.loop-frame.frames.items c.pop.new.self.items c.in-Some.frame c.mark.ensures.formed c.loop-frame.invariant.nested c.in-Some.ensures.items pair c.if-frame.true in
    record { nested = n.nested; merged = λ f. c.in_ok-join.ensures (structure_term f c.args.cells.now.held) (c.loop-frame.invariant.merged f) (n.equal f); pairs = r.pairs; same = λ f reads. c.loop-frame.invariant.same f reads ∙ r.same f reads }

pub loop-frame-smaller-in-Same : goal.loop-frame-smaller-in-Same
loop-frame-smaller-in-Same g c = (dropped_at g.N.NameValue.built c.args.cells.now.held c.loop-frame.frames.items c.pop.new.self.items c.push.new.self.items c.in-Some.frame c.onward.result c.merged_turn-left.result.left c.merged_turn-left.result.right c.loop-frame.invariant.pairs c.in-Some.ensures.items c.in_ok-push.ensures.items c.onward.ensures c.merged_turn-left.ensures.turn c.in-Same.ensures).less

pub loop-frame-preserved-in-Same : goal.loop-frame-preserved-in-Same
loop-frame-preserved-in-Same g c =
    let r = dropped_at g.N.NameValue.built c.args.cells.now.held c.loop-frame.frames.items c.pop.new.self.items c.push.new.self.items c.in-Some.frame c.onward.result c.merged_turn-left.result.left c.merged_turn-left.result.right c.loop-frame.invariant.pairs c.in-Some.ensures.items c.in_ok-push.ensures.items c.onward.ensures c.merged_turn-left.ensures.turn c.in-Same.ensures in
    let M : List Merge → Type 0 = λ l. AreMerged c.args.cells.now.held l in
    record { nested = nested_same c.args.cells.now.held c.push.new.self.items c.merged_turn-left.result.left c.merged_turn-left.result.right (nested_turn c.args.cells.now.held c.loop-frame.frames.items c.pop.new.self.items c.push.new.self.items c.in-Some.frame c.onward.result c.merged_turn-left.result.left c.merged_turn-left.result.right c.loop-frame.invariant.nested c.in-Some.ensures.items c.in_ok-push.ensures.items c.onward.ensures c.merged_turn-left.ensures.turn) c.in-Same.ensures; merged = (subst M (sym c.merged_turn-left.ensures.merges) c.loop-frame.invariant.merged); pairs = r.pairs; same = λ f reads. c.loop-frame.invariant.same f reads ∙ r.same f reads }

pub loop-frame-smaller : goal.loop-frame-smaller
loop-frame-smaller g c = (opened_at g.N.NameValue.built c.args.cells.now.held c.loop-frame.frames.items c.pop.new.self.items c.push.new.self.items c.push-in-Open.new.self.items c.in-Some.frame c.onward.result c.in-Open.inner c.merged_turn-left.result.left c.merged_turn-left.result.right c.loop-frame.invariant.pairs c.in-Some.ensures.items c.in_ok-push.ensures.items c.onward.ensures c.in_ok-push-in-Open.ensures.items c.merged_turn-left.ensures.turn c.in-Open.ensures).less

pub loop-frame-preserved : goal.loop-frame-preserved
loop-frame-preserved g c =
    let r = opened_at g.N.NameValue.built c.args.cells.now.held c.loop-frame.frames.items c.pop.new.self.items c.push.new.self.items c.push-in-Open.new.self.items c.in-Some.frame c.onward.result c.in-Open.inner c.merged_turn-left.result.left c.merged_turn-left.result.right c.loop-frame.invariant.pairs c.in-Some.ensures.items c.in_ok-push.ensures.items c.onward.ensures c.in_ok-push-in-Open.ensures.items c.merged_turn-left.ensures.turn c.in-Open.ensures in
    let M : List Merge → Type 0 = λ l. AreMerged c.args.cells.now.held l in
    record { nested = nested_opens c.args.cells.now.held c.push.new.self.items c.push-in-Open.new.self.items c.in-Open.inner c.merged_turn-left.result.left c.merged_turn-left.result.right (nested_turn c.args.cells.now.held c.loop-frame.frames.items c.pop.new.self.items c.push.new.self.items c.in-Some.frame c.onward.result c.merged_turn-left.result.left c.merged_turn-left.result.right c.loop-frame.invariant.nested c.in-Some.ensures.items c.in_ok-push.ensures.items c.onward.ensures c.merged_turn-left.ensures.turn) c.in-Open.ensures c.in_ok-push-in-Open.ensures.items; merged = (subst M (sym c.merged_turn-left.ensures.merges) c.loop-frame.invariant.merged); pairs = r.pairs; same = λ f reads. c.loop-frame.invariant.same f reads ∙ r.same f reads }

pub returns-in-Clash-clause-next : goal.returns-in-Clash-clause-next
returns-in-Clash-clause-next g c = λ f reads.
    c.loop-frame.invariant.same f reads
    ∙ never_at g.N.NameValue.built c.args.cells.now.held c.loop-frame.frames.items c.pop.new.self.items c.in-Some.frame c.merged_turn-left.result.left c.merged_turn-left.result.right c.in-Some.ensures.items c.merged_turn-left.ensures.turn c.in-Clash.ensures f reads

pub returns-in-Bind-clause-next : goal.returns-in-Bind-clause-next
returns-in-Bind-clause-next g c =
    let r = taken_at g.N.NameValue.built c.args.cells.now.held c.loop-frame.frames.items c.pop.new.self.items c.push.new.self.items c.in-Some.frame c.onward.result c.merged_turn-left.result.left c.merged_turn-left.result.right c.in-Bind.variable c.in-Bind.value c.loop-frame.invariant.pairs c.in-Some.ensures.items c.in_ok-push.ensures.items c.onward.ensures c.merged_turn-left.ensures.turn c.in-Bind.ensures in
    (c.in-Bind.ensures.can, r.0, λ f reads. c.loop-frame.invariant.same f reads ∙ r.1 f reads)

pub returns-clause-next : goal.returns-clause-next
returns-clause-next g c = λ f reads.
    let e : c.loop-frame.frames.items ≡ [] = nil_from_length c.loop-frame.frames.items (omega (arith, c.loop-frame.frames.ok.0, c.in_default.ensures.cases.0)) in
    c.loop-frame.invariant.same f reads ∙ ap (λ l. mgu (waiting f c.args.cells.now.held [] l)) e ∙ ap mgu (nothing_waits f c.args.cells.now.held) ∙ nothing_solved

pub returns-in-Clash-clause-merged : goal.returns-in-Clash-clause-merged
returns-in-Clash-clause-merged g c =
    let M : List Merge → Type 0 = λ l. AreMerged c.args.cells.now.held l in
    (subst M (sym c.merged_turn-left.ensures.merges) c.loop-frame.invariant.merged)

pub returns-in-Bind-clause-merged : goal.returns-in-Bind-clause-merged
returns-in-Bind-clause-merged g c =
    let M : List Merge → Type 0 = λ l. AreMerged c.args.cells.now.held l in
    (subst M (sym c.merged_turn-left.ensures.merges) c.loop-frame.invariant.merged)

pub returns-in-Bind-clause-expects : goal.returns-in-Bind-clause-expects
returns-in-Bind-clause-expects g c =
    expects_taken c.args.cells.now.held c.push.new.self.items c.merged_turn-left.result.left c.merged_turn-left.result.right c.in-Bind.variable c.in-Bind.value (nested_turn c.args.cells.now.held c.loop-frame.frames.items c.pop.new.self.items c.push.new.self.items c.in-Some.frame c.onward.result c.merged_turn-left.result.left c.merged_turn-left.result.right c.loop-frame.invariant.nested c.in-Some.ensures.items c.in_ok-push.ensures.items c.onward.ensures c.merged_turn-left.ensures.turn) c.in-Bind.ensures
