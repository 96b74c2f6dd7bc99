use Rattle.std.proofs.Common.{◌≡◌}
use Rattle.kl1_match.proofs.Built.{IsBuilt}
use Rattle.kl1_match.proofs.Rooms.{RoomLeft}
use Rattle.kl1_match.proofs.instances.put_row.Given as goal

-- what is after the instructions that are left is built, nothing hangs anew or is bound, and no more room was used
abbrev pub invariant-loop-left : goal.invariant-loop-left
invariant-loop-left g l =
    IsBuilt g.N.NameValue.built l.names l.initial.store.held l.store.held l.variables l.row l.left l.stack.items
    × (l.store.hooks ≡ l.initial.store.hooks)
    × (l.store.held.bindings ≡ l.initial.store.held.bindings)
    × RoomLeft l.row l.left l.initial.store.room l.store.room l.stack
    × (l.store.hook_room ≡ l.initial.store.hook_room)

abbrev pub decreases-loop-left : goal.decreases-loop-left
decreases-loop-left g l = l.left
