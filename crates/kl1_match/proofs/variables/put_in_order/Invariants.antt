use Rattle.std.proofs.Common.{◌≡◌, ◌+◌, ◌≤◌, length}
use Rattle.std.specs.Vec.{vec_capacity}
use Rattle.kl1_match.proofs.Places.{InOrder}
use Rattle.kl1_match.proofs.variables.put_in_order.Given as goal

-- what is left comes in order after what was put, and there is room for it
abbrev pub invariant-loop-rest : goal.invariant-loop-rest
invariant-loop-rest g l =
    InOrder l.fn.cells.items l.cells.items l.fn.places l.rest
    × (length l.cells.items + length l.rest ≤ vec_capacity l.cells)
    × (vec_capacity l.cells ≡ vec_capacity l.fn.cells)

abbrev pub decreases-loop-rest : goal.decreases-loop-rest
decreases-loop-rest g l = length l.rest
