use Rattle.std.proofs.Common.{◌≡◌, ◌++◌, length}
use Rattle.kl1_reasons.specs.Told.{lines_of_each}
use Rattle.kl1_reasons.proofs.lines.put_each.Given as goal

-- what is put, and the lines of the reasons that are left, are all that is to be put
abbrev pub invariant-loop-rest : goal.invariant-loop-rest
invariant-loop-rest l = l.out.items ++ lines_of_each l.name l.severity l.rest ≡ l.fn.out.items ++ lines_of_each l.name l.severity l.reasons

abbrev pub decreases-loop-rest : goal.decreases-loop-rest
decreases-loop-rest l = length l.rest
