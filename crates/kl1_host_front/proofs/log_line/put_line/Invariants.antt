use Rattle.std.proofs.Common.{◌≡◌, ◌++◌, length, map}
use Rattle.kl1_host_front.specs.LogLines.{field_view, written_line}
use Rattle.kl1_host_front.proofs.log_line.put_line.Given as goal

-- what was put, and the line of the fields that are left, is the line of all
abbrev pub invariant-loop-rest : goal.invariant-loop-rest
invariant-loop-rest l = l.out.items ++ written_line (map field_view l.rest) ≡ l.fn.out.items ++ written_line (map field_view l.fields)

abbrev pub decreases-loop-rest : goal.decreases-loop-rest
decreases-loop-rest l = length l.rest
