use Rattle.std.proofs.Common.{◌≡◌, Bool, [], arith, subst}
use Rattle.std.proofs.lemmas.List.{nil_from_length}
use Rattle.kl1_store.specs.Compares.{ComparesAs}
use Rattle.kl1_store.proofs.Advancing.{pair_popped, onward_pushed}
use Rattle.kl1_store.proofs.Comparing.{left_start, left_looks, left_skips, left_closes, left_end, left_clash, first_clash, pair_clashes}
use Rattle.kl1_store.proofs.compare.compare.Goals as goal

pub returns-then-not-branch-clause-compared : goal.returns-then-not-branch-clause-compared
returns-then-not-branch-clause-compared g c =
    let P : Bool → Type 0 = λ b. ComparesAs g.N.NameValue.built c.args.cells.now.held c.walk-first.result c.walk-second.result c.clear.new.self.items c.compare_sides.new.frames.items c.args.waits.now.items c.compare_sides.new.waits.items b in
    first_clash g.N.NameValue.built c.args.cells.now.held c.args.left c.args.right c.walk-first.result c.walk-second.result c.walk-first.ensures.means c.walk-second.ensures.means (subst P c.if-not-branch.true c.in_ok-compare_sides.ensures.compares)

pub loop-frame-init : goal.loop-frame-init
loop-frame-init g c =
    let P : Bool → Type 0 = λ b. ComparesAs g.N.NameValue.built c.args.cells.now.held c.walk-first.result c.walk-second.result c.clear.new.self.items c.compare_sides.new.frames.items c.args.waits.now.items c.compare_sides.new.waits.items b in (
      λ unbound. c.in_ok-compare_sides.ensures.unbound unbound,
      left_start g.N.NameValue.built c.args.cells.now.held c.args.left c.args.right c.walk-first.result c.walk-second.result c.clear.new.self.items c.compare_sides.new.frames.items c.new-pairs.result.keys c.args.waits.now.items c.compare_sides.new.waits.items
          c.clear.ensures.items c.new-pairs.ensures.empty c.walk-first.ensures.means c.walk-second.ensures.means (subst P c.if-not-branch.false c.in_ok-compare_sides.ensures.compares),
    )

pub loop-frame-smaller-then-frame : goal.loop-frame-smaller-then-frame
loop-frame-smaller-then-frame g c = (left_closes g.N.NameValue.built c.args.cells.now.held c.args.left c.args.right c.args.waits.now.items c.loop-frame.waits.items c.loop-frame.pairs.keys c.put_down.new.pairs.keys c.loop-frame.frames.items c.pop.new.self.items c.in-Some.frame c.mark.ensures.formed c.loop-frame.invariant.1 c.in-Some.ensures.items c.if-frame.true c.in_ok-put_down.ensures).1

pub loop-frame-preserved-then-frame : goal.loop-frame-preserved-then-frame
loop-frame-preserved-then-frame g c =
    (c.loop-frame.invariant.0, (left_closes g.N.NameValue.built c.args.cells.now.held c.args.left c.args.right c.args.waits.now.items c.loop-frame.waits.items c.loop-frame.pairs.keys c.put_down.new.pairs.keys c.loop-frame.frames.items c.pop.new.self.items c.in-Some.frame c.mark.ensures.formed c.loop-frame.invariant.1 c.in-Some.ensures.items c.if-frame.true c.in_ok-put_down.ensures).0)

pub turn-requires : goal.turn-requires
turn-requires g c = record { pair = pair_popped c.args.cells.now.held c.loop-frame.frames.items c.pop.new.self.items c.in-Some.frame c.loop-frame.invariant.1.pairs c.in-Some.ensures.items; more = c.if-frame.false }

pub compare_sides-requires-in-Some-clause-pairs : goal.compare_sides-requires-in-Some-clause-pairs
compare_sides-requires-in-Some-clause-pairs g c =
    onward_pushed c.args.cells.now.held c.loop-frame.frames.items c.pop.new.self.items c.push.new.self.items c.in-Some.frame c.onward.result c.loop-frame.invariant.1.pairs c.in-Some.ensures.items c.in_ok-push.ensures.items c.onward.ensures c.if-frame.false

pub loop-frame-smaller-then-is_known : goal.loop-frame-smaller-then-is_known
loop-frame-smaller-then-is_known g c = (left_skips g.N.NameValue.built c.args.cells.now.held c.args.left c.args.right c.args.waits.now.items c.loop-frame.waits.items c.loop-frame.pairs.keys c.loop-frame.frames.items c.pop.new.self.items c.push.new.self.items c.in-Some.frame c.onward.result c.turn.result.left c.turn.result.right c.loop-frame.invariant.1 c.in-Some.ensures.items c.in_ok-push.ensures.items c.onward.ensures c.turn.ensures c.if-frame.false (c.is_known.ensures c.if-is_known.true)).1

pub loop-frame-preserved-then-is_known : goal.loop-frame-preserved-then-is_known
loop-frame-preserved-then-is_known g c =
    (c.loop-frame.invariant.0, (left_skips g.N.NameValue.built c.args.cells.now.held c.args.left c.args.right c.args.waits.now.items c.loop-frame.waits.items c.loop-frame.pairs.keys c.loop-frame.frames.items c.pop.new.self.items c.push.new.self.items c.in-Some.frame c.onward.result c.turn.result.left c.turn.result.right c.loop-frame.invariant.1 c.in-Some.ensures.items c.in_ok-push.ensures.items c.onward.ensures c.turn.ensures c.if-frame.false (c.is_known.ensures c.if-is_known.true)).0)

pub returns-then-not-branch-2-clause-compared : goal.returns-then-not-branch-2-clause-compared
returns-then-not-branch-2-clause-compared g c =
    let P : Bool → Type 0 = λ b. ComparesAs g.N.NameValue.built c.args.cells.now.held c.turn.result.left c.turn.result.right c.push.new.self.items c.compare_sides-in-Some.new.frames.items c.loop-frame.waits.items c.compare_sides-in-Some.new.waits.items b in
    left_clash g.N.NameValue.built c.args.cells.now.held c.args.left c.args.right c.args.waits.now.items c.loop-frame.waits.items c.loop-frame.pairs.keys c.loop-frame.frames.items c.loop-frame.invariant.1
    (pair_clashes g.N.NameValue.built c.args.cells.now.held c.loop-frame.frames.items c.pop.new.self.items c.in-Some.frame c.turn.result.left c.turn.result.right c.in-Some.ensures.items c.turn.ensures (subst P c.if-not-branch-2.true c.in_ok-compare_sides-2.ensures.compares))

pub loop-frame-smaller : goal.loop-frame-smaller
loop-frame-smaller g c =
    let P : Bool → Type 0 = λ b. ComparesAs g.N.NameValue.built c.args.cells.now.held c.turn.result.left c.turn.result.right c.push.new.self.items c.compare_sides-in-Some.new.frames.items c.loop-frame.waits.items c.compare_sides-in-Some.new.waits.items b in
    (left_looks g.N.NameValue.built c.args.cells.now.held c.args.left c.args.right c.args.waits.now.items c.loop-frame.waits.items c.compare_sides-in-Some.new.waits.items c.loop-frame.pairs.keys c.loop-frame.frames.items c.pop.new.self.items c.push.new.self.items c.compare_sides-in-Some.new.frames.items c.in-Some.frame c.onward.result c.turn.result.left c.turn.result.right
    c.loop-frame.invariant.1 c.in-Some.ensures.items c.in_ok-push.ensures.items c.onward.ensures c.turn.ensures (subst P c.if-not-branch-2.false c.in_ok-compare_sides-2.ensures.compares)).1

pub loop-frame-preserved : goal.loop-frame-preserved
loop-frame-preserved g c =
    let P : Bool → Type 0 = λ b. ComparesAs g.N.NameValue.built c.args.cells.now.held c.turn.result.left c.turn.result.right c.push.new.self.items c.compare_sides-in-Some.new.frames.items c.loop-frame.waits.items c.compare_sides-in-Some.new.waits.items b in (
      λ unbound. c.in_ok-compare_sides-2.ensures.unbound (c.loop-frame.invariant.0 unbound),
      (left_looks g.N.NameValue.built c.args.cells.now.held c.args.left c.args.right c.args.waits.now.items c.loop-frame.waits.items c.compare_sides-in-Some.new.waits.items c.loop-frame.pairs.keys c.loop-frame.frames.items c.pop.new.self.items c.push.new.self.items c.compare_sides-in-Some.new.frames.items c.in-Some.frame c.onward.result c.turn.result.left c.turn.result.right
          c.loop-frame.invariant.1 c.in-Some.ensures.items c.in_ok-push.ensures.items c.onward.ensures c.turn.ensures (subst P c.if-not-branch-2.false c.in_ok-compare_sides-2.ensures.compares)).0,
    )

pub returns-clause-compared : goal.returns-clause-compared
returns-clause-compared g c =
    let e : c.loop-frame.frames.items ≡ [] = nil_from_length c.loop-frame.frames.items (omega (arith, c.loop-frame.frames.ok.0, c.in_default.ensures.cases.0)) in
    left_end g.N.NameValue.built c.args.cells.now.held c.args.left c.args.right c.args.waits.now.items c.loop-frame.waits.items c.loop-frame.pairs.keys c.loop-frame.frames.items c.loop-frame.invariant.1 e
