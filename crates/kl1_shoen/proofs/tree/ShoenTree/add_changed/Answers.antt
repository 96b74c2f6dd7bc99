use Rattle.std.proofs.Common.{take, sym, arith, subst}
use Rattle.std.proofs.lemmas.List.{take_all}
use Rattle.std.proofs.lemmas.List.Elements.{All-more, All-same, All-weaker}
use Rattle.kl1_shoen.specs.Shifts.{CoversChange}
use Rattle.kl1_shoen.proofs.Shifting.{adds_none, adds_more, change_more}
use Rattle.kl1_shoen.proofs.tree.ShoenTree.add_changed.Goals as goal

pub loop-was-init : goal.loop-was-init
loop-was-init g c = record { adds = adds_none c.args.self.now c.args.out.now.items; covers = λ k d lt. absurd (omega (arith, lt)) }

pub loop-was-preserved : goal.loop-was-preserved
loop-was-preserved g c =
    let t = c.args.self.now in
    let trail = c.args.trail.now in
    let k = c.loop-was.was-index in
    let before = c.loop-was.out.items in
    let after = c.add_change.new.out.items in
    let adds = c.in_ok-add_change.ensures.adds in
    let i = c.loop-was.invariant in
    let x = c.was-item.result in
    record {
      adds = adds_more t c.args.out.now.items before after i.adds adds;
      covers = All-more (CoversChange t after) trail k x (omega (arith, c.loop-was-test.true)) (All-weaker (CoversChange t before) (CoversChange t after) (change_more t before after adds) (take k trail) i.covers)
          (subst (CoversChange t after) c.was-item.is c.in_ok-add_change.ensures.covers);
    }

pub returns-clause-covers : goal.returns-clause-covers
returns-clause-covers g c =
    All-same (CoversChange c.args.self.now c.loop-was.out.items) c.args.trail.now (take c.loop-was.was-index c.args.trail.now) (sym (take_all c.loop-was.was-index c.args.trail.now (omega (arith, c.loop-was-test.false)))) c.loop-was.invariant.covers
