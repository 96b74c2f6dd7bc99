use Rattle.std.proofs.Common.{◌≤◌, length}
use Rattle.kl1_host_front.proofs.sums.bad_line.Given as goal

-- what is left is no longer than the text
abbrev pub invariant-loop-behind : goal.invariant-loop-behind
invariant-loop-behind l = length l.rest ≤ length l.bytes

abbrev pub decreases-loop-behind : goal.decreases-loop-behind
decreases-loop-behind l = length l.rest
