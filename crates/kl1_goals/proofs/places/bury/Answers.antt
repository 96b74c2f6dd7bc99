use Rattle.std.proofs.Common.{sym, ◌∙◌, ap}
use Rattle.kl1_queue.specs.Ranks.{Queued}
use Rattle.kl1_goals.specs.declared.slot.Slot.{Slot}
use Rattle.kl1_goals.proofs.Changing.{same_read, slots_buried, without_at}
use Rattle.kl1_goals.specs.Slots.{emptied}
use Rattle.kl1_goals.proofs.Chaining.{changed_set}
use Rattle.kl1_goals.proofs.places.bury.Goals as goal

pub returns-clause-slots : goal.returns-clause-slots
returns-clause-slots g c =
    let ss = c.args.slots.now.items in
    let h = c.requires.place.1 in
    let x = c.index_mut.result.now in
    let e = same_read ss c.args.place x c.requires.place.0 h.within c.index_mut.ensures.value h.at in
    let held = ap (λ (s : Slot g.row.N.Denot). s.is_held) e ∙ h.held in
    rw (ap (λ (q : Queued). q.ranks) c.remove.ensures) (slots_buried ss c.args.place c.args.empty.now c.args.queue.now.ranks x c.requires.slots h.within (sym c.index_mut.ensures.value) held)

pub returns-clause-goals : goal.returns-clause-goals
returns-clause-goals g c = λ s h.
    let ss = c.args.slots.now.items in
    let x = c.index_mut.result.now in
    let e = same_read ss c.args.place x s h.within c.index_mut.ensures.value h.at in
    let held = ap (λ (v : Slot g.row.N.Denot). v.is_held) e ∙ h.held in
    rw (← e) (without_at 0 ss c.args.place x c.requires.slots.ascend h.within (sym c.index_mut.ensures.value) held)

pub returns-clause-emptied : goal.returns-clause-emptied
returns-clause-emptied g c = changed_set emptied c.args.slots.now.items c.args.place c.index_mut.result.now c.requires.place.1.within (sym c.index_mut.ensures.value)
