use Rattle.std.proofs.Common.{◌≡◌, ◌++◌, length}
use Rattle.kl1_host_front.specs.LogLines.{written_bytes}
use Rattle.kl1_host_front.proofs.log_line.put_quoted.Given as goal

-- what was put, and what is left to be put, is all
abbrev pub invariant-loop-rest : goal.invariant-loop-rest
invariant-loop-rest l = l.out.items ++ written_bytes l.rest ≡ l.fn.out.items ++ written_bytes l.value

abbrev pub decreases-loop-rest : goal.decreases-loop-rest
decreases-loop-rest l = length l.rest
