use Rattle.std.proofs.Common.{◌≡◌, ℕ, ◌⊎◌, length, get_or}
use Rattle.kl1_store.specs.Merged.{IsFrom}
use Rattle.kl1_store.proofs.merges.reset.Given as goal

-- each structure leads to itself, or was merged by what is left
abbrev pub invariant-loop-merge : goal.invariant-loop-merge
invariant-loop-merge l = (s : ℕ) → (get_or l.parents.items s s ≡ s) ⊎ IsFrom s l.merges.items

abbrev pub decreases-loop-merge : goal.decreases-loop-merge
decreases-loop-merge l = length l.merges.items
