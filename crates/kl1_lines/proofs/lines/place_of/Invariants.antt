use Rattle.std.proofs.Common.{◌≡◌, ◌+◌, length}
use Rattle.kl1_lines.specs.Places.{place_of}
use Rattle.kl1_lines.proofs.lines.place_of.Given as goal

-- the byte is as far after the place as it is in what is left
abbrev pub invariant-loop-rest : goal.invariant-loop-rest
invariant-loop-rest l = (l.place + place_of l.byte l.rest ≡ place_of l.byte l.text) × (l.place + length l.rest ≡ length l.text)

abbrev pub decreases-loop-rest : goal.decreases-loop-rest
decreases-loop-rest l = length l.rest
