use Rattle.std.proofs.Common.{◌<◌, length, arith}
use Rattle.std.proofs.lemmas.List.{length-map}
use Rattle.kl1_goals.specs.Slots.{level_in}
use Rattle.kl1_goals.proofs.Orders.{low_at}
use Rattle.kl1_goals.proofs.Changing.{field_read, priority_low}
use Rattle.kl1_goals.proofs.places.rank_all.Goals as goal

pub priority-requires : goal.priority-requires
priority-requires g c =
    let ss = c.args.slots.now.items in
    let within : c.loop-place.place < length ss = omega arith in
    omega (arith, low_at _ c.loop-place.place c.requires.low (omega (arith, within, length-map ss (level_in {N = g.row.N.Denot}))), field_read level_in ss c.loop-place.place c.index.result.now within c.index.ensures)

pub extend-requires-clause-priority : goal.extend-requires-clause-priority
extend-requires-clause-priority g c =
    let ss = c.args.slots.now.items in
    let within : c.loop-place.place < length ss = omega arith in
    let low = low_at _ c.loop-place.place c.requires.low (omega (arith, within, length-map ss (level_in {N = g.row.N.Denot}))) in
    priority_low c.index.result.now c.priority.result (omega (arith, low, field_read level_in ss c.loop-place.place c.index.result.now within c.index.ensures)) c.priority.ensures
