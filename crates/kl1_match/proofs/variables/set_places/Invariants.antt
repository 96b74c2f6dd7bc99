use Rattle.std.proofs.Common.{◌≡◌}
use Rattle.std.specs.Vec.{vec_capacity}
use Rattle.kl1_match.proofs.Places.{AreSet}
use Rattle.kl1_match.proofs.variables.set_places.Given as goal

-- the places after those that are left are set
abbrev pub invariant-loop-left : goal.invariant-loop-left
invariant-loop-left g l =
    AreSet l.initial.cells.items l.cells.items l.places l.left
    × (vec_capacity l.cells ≡ vec_capacity l.initial.cells)

abbrev pub decreases-loop-left : goal.decreases-loop-left
decreases-loop-left g l = l.left
