use Rattle.std.proofs.Common.{◌≡◌, ◌+◌, ◌≤◌, length}
use Rattle.std.specs.Vec.{vec_capacity}
use Rattle.kl1_match.proofs.Places.{AreFresh}
use Rattle.kl1_match.proofs.variables.put_fresh.Given as goal

-- the variables that are left come after those that were put, nothing hangs anew, and there is room
abbrev pub invariant-loop-left : goal.invariant-loop-left
invariant-loop-left g l =
    AreFresh l.initial.store.held l.store.held l.initial.cells.items l.cells.items l.count l.left
    × (l.store.hooks ≡ l.initial.store.hooks)
    × (length l.cells.items + l.left ≤ vec_capacity l.cells)

abbrev pub decreases-loop-left : goal.decreases-loop-left
decreases-loop-left g l = l.left
