use Rattle.std.proofs.Common.{◌≡◌, ◌+◌, length}
use Rattle.kl1_lines.specs.Places.{blank_place}
use Rattle.kl1_lines.proofs.words.blank_place.Given as goal

-- the blank is as far after the place as it is in what is left
abbrev pub invariant-loop-rest : goal.invariant-loop-rest
invariant-loop-rest l = (l.place + blank_place l.rest ≡ blank_place l.line) × (l.place + length l.rest ≡ length l.line)

abbrev pub decreases-loop-rest : goal.decreases-loop-rest
decreases-loop-rest l = length l.rest
