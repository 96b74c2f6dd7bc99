use Rattle.std.proofs.Common.{◌≡◌, ◌-◌, ◌+◌, ◌<◌, ◌∙◌, refl, sym, ap, length, arith}
use Rattle.kl1_goals.specs.declared.begun.Begun.{Begun}
use Rattle.kl1_goals.specs.Keeping.{places_then}
use Rattle.kl1_goals.specs.Chains.{before_in, before_at}
use Rattle.kl1_goals.proofs.Changing.{field_read}
use Rattle.kl1_goals.proofs.Chaining.{let_first, let_next, let_last, linked_here, settled, changed_set}
use Rattle.kl1_goals.proofs.Shaping.{settled_at, relinked_low, relinked_ranks}
use Rattle.kl1_goals.proofs.noting.let_each_step.Goals as goal

pub loop-link-init : goal.loop-link-init
loop-link-init g c = record {
  done = let_first c.args.shoen c.args.is_enabled c.args.slots.now.items c.args.last c.requires.links c.requires.last;
  ranks = c.requires.ranks;
  was = refl;
  rest = refl;
}

pub held_link-before-requires-clause-within : goal.held_link-before-requires-clause-within
held_link-before-requires-clause-within g c =
    let ss = c.loop-link.slots.items in
    let k = c.loop-link.link - 1 in
    let h = c.loop-link.invariant.done in
    let one : c.loop-link.link ≡ k + 1 = omega (arith, c.loop-link-test.true) in
    let within : k < length ss = omega (arith, one, h.within) in
    omega (arith, within, (h.links k within).back, field_read before_in ss k c.index.result.now within c.index.ensures)

pub let_step-requires-clause-low : goal.let_step-requires-clause-low
let_step-requires-clause-low g c =
    let ss = c.loop-link.slots.items in
    let k = c.loop-link.link - 1 in
    let h = c.loop-link.invariant.done in
    relinked_low c.args.slots.now.items ss k c.held_link-before.result c.index_mut.result.now h.shapes c.requires.low (omega (arith, c.loop-link-test.true, h.within)) c.index_mut.ensures.value

pub let_step-requires-clause-ranks : goal.let_step-requires-clause-ranks
let_step-requires-clause-ranks g c =
    let ss = c.loop-link.slots.items in
    let k = c.loop-link.link - 1 in
    relinked_ranks ss c.loop-link.queue.ranks k c.held_link-before.result c.index_mut.result.now c.loop-link.invariant.ranks (omega (arith, c.loop-link-test.true, c.loop-link.invariant.done.within)) c.index_mut.ensures.value

pub loop-link-smaller : goal.loop-link-smaller
loop-link-smaller g c =
    let ss = c.loop-link.slots.items in
    let k = c.loop-link.link - 1 in
    let h = c.loop-link.invariant.done in
    let one : c.loop-link.link ≡ k + 1 = omega (arith, c.loop-link-test.true) in
    let within : k < length ss = omega (arith, one, h.within) in
    omega (arith, one, (h.links k within).back, field_read before_in ss k c.index.result.now within c.index.ensures, c.held_link-before.ensures.within)

pub loop-link-preserved : goal.loop-link-preserved
loop-link-preserved g c =
    let n = c.args.shoen in
    let b = c.args.is_enabled in
    let old = c.args.slots.now.items in
    let ss = c.loop-link.slots.items in
    let k = c.loop-link.link - 1 in
    let l = c.held_link-before.result in
    let h = c.loop-link.invariant.done in
    let one : c.loop-link.link ≡ k + 1 = omega (arith, c.loop-link-test.true) in
    let within : k < length ss = omega (arith, one, h.within) in
    let read : before_at ss k ≡ c.index.result.now.before = field_read before_in ss k c.index.result.now within c.index.ensures in
    let next = c.held_link-before.ensures.link n k (linked_here n b old ss c.loop-link.link k c.index.result.now.before h one read) in
    let is = settled_at n b ss c.let_step.new.slots.items k l c.index_mut.result.now within c.index_mut.ensures.value c.let_step.ensures.slots in
    record {
      done = let_next n b old ss c.let_step.new.slots.items c.loop-link.link k l h one next is;
      ranks = c.let_step.ensures.ranks;
      was = ap (places_then c.note_slot.new.begun) (is ∙ sym (changed_set (settled n b l) ss k c.index_mut.result.now within (sym c.index_mut.ensures.value))) ∙ c.in_ok-note_slot.ensures.ok (settled n b l c.index_mut.result.now) ∙ c.loop-link.invariant.was;
      rest = c.note_slot.ensures.rest ∙ ap (λ (x : Begun g.row.N.Denot). let z : Begun g.row.N.Denot = record x { slots = c.note_slot.new.begun.slots } in z) c.loop-link.invariant.rest;
    }

pub returns-clause-goals : goal.returns-clause-goals
returns-clause-goals g c = let_last c.args.shoen c.args.is_enabled c.args.slots.now.items c.loop-link.slots.items c.loop-link.link c.loop-link.invariant.done (omega (arith, c.loop-link-test.false))
