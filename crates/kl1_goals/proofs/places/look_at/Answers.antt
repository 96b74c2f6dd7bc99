use Rattle.std.proofs.Common.{refl, sym}
use Rattle.kl1_goals.specs.Slots.{looked_in, rank_in}
use Rattle.kl1_goals.specs.Chains.{shape_in, before_in}
use Rattle.kl1_goals.proofs.Changing.{field_kept}
use Rattle.kl1_goals.proofs.Chaining.{changed_set}
use Rattle.kl1_goals.proofs.Shaping.{slots_shaped}
use Rattle.kl1_goals.proofs.Flagging.{ranks_set, priority_at}
use Rattle.kl1_goals.proofs.places.look_at.Goals as goal

pub rank-requires-clause-priority : goal.rank-requires-clause-priority
rank-requires-clause-priority g c = priority_at c.args.slots.now.items c.args.place c.index_mut-slot.result.now c.requires.slots.low c.requires.place c.index_mut-slot.ensures.value

pub returns-clause-changed : goal.returns-clause-changed
returns-clause-changed g c = changed_set (looked_in c.args.standing c.args.is_enabled) c.args.slots.now.items c.args.place c.index_mut-slot.result.now c.requires.place (sym c.index_mut-slot.ensures.value)

pub returns-clause-slots : goal.returns-clause-slots
returns-clause-slots g c =
    let ss = c.args.slots.now.items in
    let x = c.index_mut-slot.result.now in
    let t = looked_in {N = g.row.N.Denot} c.args.standing c.args.is_enabled x in
    let shapes = field_kept shape_in ss c.args.place x t c.requires.place (sym c.index_mut-slot.ensures.value) refl in
    slots_shaped ss _ c.args.empty c.args.queue.now.ranks c.rank.new.queue.ranks c.requires.slots shapes (ranks_set rank_in ss c.args.place t c.args.queue.now.ranks c.rank.new.queue.ranks c.requires.slots.ranked c.rank.ensures)

pub returns-clause-shapes : goal.returns-clause-shapes
returns-clause-shapes g c =
    let x = c.index_mut-slot.result.now in
    field_kept shape_in c.args.slots.now.items c.args.place x (looked_in c.args.standing c.args.is_enabled x) c.requires.place (sym c.index_mut-slot.ensures.value) refl

pub returns-clause-links : goal.returns-clause-links
returns-clause-links g c =
    let x = c.index_mut-slot.result.now in
    field_kept before_in c.args.slots.now.items c.args.place x (looked_in c.args.standing c.args.is_enabled x) c.requires.place (sym c.index_mut-slot.ensures.value) refl

pub returns-clause-was : goal.returns-clause-was
returns-clause-was g c = c.in_ok-note_slot.ensures.ok (looked_in c.args.standing c.args.is_enabled c.index_mut-slot.result.now)
