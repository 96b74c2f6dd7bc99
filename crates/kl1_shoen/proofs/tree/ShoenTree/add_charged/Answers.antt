use Rattle.std.proofs.Common.{ℕ, take, sym, arith}
use Rattle.std.proofs.lemmas.List.{take_all}
use Rattle.std.proofs.lemmas.List.Elements.{All-more, All-same, All-weaker}
use Rattle.kl1_shoen_paths.specs.declared.tracked.Was.{Was}
use Rattle.kl1_shoen.specs.Shifts.{CoversCharge}
use Rattle.kl1_shoen.proofs.Shifting.{adds_none, adds_more, charge_more}
use Rattle.kl1_shoen.proofs.tree.ShoenTree.add_charged.Goals as goal

pub loop-was-init : goal.loop-was-init
loop-was-init g c = record { adds = adds_none c.args.self.now c.args.out.now.items; covers = λ k d lt. absurd (omega (arith, lt)) }

pub loop-was-preserved : goal.loop-was-preserved
loop-was-preserved g c =
    let t = c.args.self.now in
    let trail = c.args.trail.now in
    let k = c.loop-was.was-index in
    let before = c.loop-was.out.items in
    let after = c.add_charge.new.out.items in
    let adds = c.in_ok-add_charge.ensures.adds in
    let i = c.loop-was.invariant in
    let none : Was ℕ = record { place = 0; value = 0 } in
    record {
      adds = adds_more t c.args.out.now.items before after i.adds adds;
      covers = All-more (CoversCharge t after) trail k none (omega (arith, c.loop-was-test.true)) (All-weaker (CoversCharge t before) (CoversCharge t after) (charge_more t before after adds) (take k trail) i.covers)
          c.in_ok-add_charge.ensures.covers;
    }

pub returns-clause-covers : goal.returns-clause-covers
returns-clause-covers g c =
    All-same (CoversCharge c.args.self.now c.loop-was.out.items) c.args.trail.now (take c.loop-was.was-index c.args.trail.now) (sym (take_all c.loop-was.was-index c.args.trail.now (omega (arith, c.loop-was-test.false)))) c.loop-was.invariant.covers
