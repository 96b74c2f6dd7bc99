use Rattle.std.proofs.Common.{◌<◌, ◌≤◌, ◌-◌, length}
use Rattle.kl1_reasons_items.proofs.spans.span.Given as goal

-- at least one byte, and no more than there are
abbrev pub invariant-loop-count : goal.invariant-loop-count
invariant-loop-count l =
    record {
      some : 0 < l.count;
      within : l.count ≤ length l.bytes;
    }

abbrev pub decreases-loop-count : goal.decreases-loop-count
decreases-loop-count l = length l.bytes - l.count
