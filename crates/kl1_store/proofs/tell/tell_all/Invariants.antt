use Rattle.std.proofs.Common.{◌≡◌, ◌++◌, length}
use Rattle.kl1_store.specs.Hooks.{told_on}
use Rattle.kl1_store.proofs.tell.tell_all.Given as goal

-- what was told, and what is left to tell, are the whole
abbrev pub invariant-loop-rest : goal.invariant-loop-rest
invariant-loop-rest l = l.told.items ++ told_on l.rest l.hooks.hooks ≡ l.fn.told.items ++ told_on l.fn.variables l.hooks.hooks

abbrev pub decreases-loop-rest : goal.decreases-loop-rest
decreases-loop-rest l = length l.rest
