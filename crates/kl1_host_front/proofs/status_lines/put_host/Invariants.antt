use Rattle.std.proofs.Common.{◌≡◌, ◌++◌, length, map}
use Rattle.kl1_host_front.specs.StatusLines.{number_view, host_lines}
use Rattle.kl1_host_front.proofs.status_lines.put_host.Given as goal

-- what was put, and what the numbers that are left come to, is all
abbrev pub invariant-loop-rest : goal.invariant-loop-rest
invariant-loop-rest l = l.out.items ++ host_lines (map number_view l.rest) ≡ l.fn.out.items ++ host_lines (map number_view l.numbers)

abbrev pub decreases-loop-rest : goal.decreases-loop-rest
decreases-loop-rest l = length l.rest
