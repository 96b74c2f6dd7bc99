use Rattle.std.proofs.Common.{◌≡◌, ℕ, suc, ◌-◌, length, get_or}
use Rattle.kl1_store.proofs.merges.fill.Given as goal

-- each structure leads where it led
abbrev pub invariant-loop-parents : goal.invariant-loop-parents
invariant-loop-parents l = (s : ℕ) → get_or l.parents.items s s ≡ get_or l.fn.parents.items s s

abbrev pub decreases-loop-parents : goal.decreases-loop-parents
decreases-loop-parents l = suc l.structure - length l.parents.items
