use Rattle.std.proofs.Common.{◌≡◌, ◌+◌, ◌≤◌, length}
use Rattle.std.specs.Vec.{vec_capacity}
use Rattle.kl1_match.proofs.GoalCells.{ToldSoFar}
use Rattle.kl1_match.proofs.goal_cells.put_told_variables.Given as goal

-- the cells of the variables that are left come after those that were put, nothing hangs anew, and there is room
abbrev pub invariant-loop-rest : goal.invariant-loop-rest
invariant-loop-rest g l =
    ToldSoFar g.N.NameValue.built l.fn.store.held l.store.held l.fn.told l.rest l.variables.items
    × (l.store.hooks ≡ l.fn.store.hooks)
    × (l.store.held.bindings ≡ l.fn.store.held.bindings)
    × (length l.variables.items + length l.rest ≤ vec_capacity l.variables)

abbrev pub decreases-loop-rest : goal.decreases-loop-rest
decreases-loop-rest g l = length l.rest
