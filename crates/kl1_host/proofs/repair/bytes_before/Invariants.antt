use Rattle.std.proofs.Common.{◌-◌, ◌≤◌}
use Rattle.kl1_log.proofs.Faults.{IsSplit}
use Rattle.kl1_host.proofs.repair.bytes_before.Given as goal

-- the text is the lines that were counted and what is left, and none too many were counted
abbrev pub invariant-loop-count : goal.invariant-loop-count
invariant-loop-count l = IsSplit l.text l.rest l.count × (l.count ≤ l.lines)

abbrev pub decreases-loop-count : goal.decreases-loop-count
decreases-loop-count l = l.lines - l.count
