use Rattle.std.proofs.Common.{◌≡◌, ◌+◌, ◌≤◌, ◌++◌, length}
use Rattle.kl1_text.specs.declared.short_bytes.TheConstants.{MOST_SHORT_BYTES}
use Rattle.kl1_lines.proofs.decimal.put_short.Given as goal

-- the bytes put so far, with those that are left, are all; and there is room for those that are left
abbrev pub invariant-loop-rest : goal.invariant-loop-rest
invariant-loop-rest l = (l.out ++ l.rest ≡ l.fn.out ++ l.fn.bytes) × (length l.out + length l.rest ≤ MOST_SHORT_BYTES)

abbrev pub decreases-loop-rest : goal.decreases-loop-rest
decreases-loop-rest l = length l.rest
