use Rattle.std.proofs.Common.{◌≡◌, ◌+◌, length}
use Rattle.kl1_log.specs.Cuts.{whole_lines}
use Rattle.kl1_log.proofs.recovery.count_lines.Given as goal

-- the lines that were counted, and those that are left, are all
abbrev pub invariant-loop-after : goal.invariant-loop-after
invariant-loop-after l = l.count + length (whole_lines l.rest) ≡ length (whole_lines l.text)

abbrev pub decreases-loop-after : goal.decreases-loop-after
decreases-loop-after l = length l.rest
