use Rattle.std.proofs.Common.{refl, ap, sym, ◌∙◌, arith}
use Rattle.kl1_shoen_paths.specs.Tracked.{put_back}
use Rattle.kl1_shoen_paths.proofs.Putting.{put_last, put_beyond}
use Rattle.kl1_goals.proofs.Capping.{capped_low}
use Rattle.kl1_goals.proofs.noting.put_slots_back.Goals as goal

pub loop-last-init : goal.loop-last-init
loop-last-init g c = record { slots = refl; ranks = c.requires.ranks ∙ sym (capped_low c.args.slots.now.items c.requires.low) }

pub loop-last-preserved-then-last-len : goal.loop-last-preserved-then-last-len
loop-last-preserved-then-last-len g c =
    let l = c.loop-last in
    record {
      slots = ap (put_back c.pop.new.self.items) c.put_slot_back.ensures.slots ∙ sym (put_last c.pop.new.self.items c.in-Some.last l.slots.items) ∙ ap (λ ws. put_back ws l.slots.items) (sym c.in-Some.ensures.items) ∙ l.invariant.slots;
      ranks = c.put_slot_back.ensures.ranks;
    }

pub loop-last-preserved : goal.loop-last-preserved
loop-last-preserved g c =
    let l = c.loop-last in
    let w = c.in-Some.last in
    record {
      slots = ap (put_back c.pop.new.self.items) (sym (put_beyond l.slots.items w.place w.value (omega (arith, c.if-last-len.false, c.len.ensures, l.slots.ok.0)))) ∙ sym (put_last c.pop.new.self.items w l.slots.items) ∙ ap (λ ws. put_back ws l.slots.items) (sym c.in-Some.ensures.items) ∙ l.invariant.slots;
      ranks = l.invariant.ranks;
    }

pub returns-clause-ranks : goal.returns-clause-ranks
returns-clause-ranks g c = λ low. c.loop-last.invariant.ranks ∙ capped_low c.loop-last.slots.items low
