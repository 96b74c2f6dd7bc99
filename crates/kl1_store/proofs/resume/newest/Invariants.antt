use Rattle.std.proofs.Common.{◌≤◌, length}
use Rattle.kl1_store.proofs.resume.newest.Given as goal

-- no more are left to look at than there are
abbrev pub invariant-loop-count : goal.invariant-loop-count
invariant-loop-count g l = l.count ≤ length l.rests

abbrev pub decreases-loop-count : goal.decreases-loop-count
decreases-loop-count g l = l.count
