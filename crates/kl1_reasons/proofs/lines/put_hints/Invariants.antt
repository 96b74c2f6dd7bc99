use Rattle.std.proofs.Common.{◌≡◌, ◌++◌, length}
use Rattle.kl1_reasons.specs.Told.{hint_lines}
use Rattle.kl1_reasons.proofs.lines.put_hints.Given as goal

-- what is put, and the lines of the hints that are left, are all that is to be put
abbrev pub invariant-loop-rest : goal.invariant-loop-rest
invariant-loop-rest l = l.out.items ++ hint_lines l.rest ≡ l.fn.out.items ++ hint_lines l.hints

abbrev pub decreases-loop-rest : goal.decreases-loop-rest
decreases-loop-rest l = length l.rest
