-- the number hangs on each variable so far
use Rattle.std.proofs.Common.{take}
use Rattle.kl1_store_hooks.proofs.Hooked.{Hangs}
use Rattle.kl1_store_hooks.proofs.hanging.hang_on.Given as goal

abbrev pub invariant-loop-variable : goal.invariant-loop-variable
invariant-loop-variable g l = Hangs l.initial.store l.store l.number (take l.variable-index l.awaited)
