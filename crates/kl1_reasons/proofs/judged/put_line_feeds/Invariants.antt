use Rattle.std.proofs.Common.{◌≡◌, ◌++◌, length}
use Rattle.kl1_reasons.specs.Reasons.{line_feeds}
use Rattle.kl1_reasons.proofs.judged.put_line_feeds.Given as goal

-- what is put, and the line feeds of what is left, are all that is to be put
abbrev pub invariant-loop-rest : goal.invariant-loop-rest
invariant-loop-rest l = l.out.items ++ line_feeds l.rest ≡ l.fn.out.items ++ line_feeds l.bytes

abbrev pub decreases-loop-rest : goal.decreases-loop-rest
decreases-loop-rest l = length l.rest
