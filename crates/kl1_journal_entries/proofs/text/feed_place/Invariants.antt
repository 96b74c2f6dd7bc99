use Rattle.std.proofs.Common.{◌≡◌, ◌+◌, length}
use Rattle.kl1_lines.specs.Places.{place_of}
use Rattle.kl1_journal_entries.proofs.text.feed_place.Given as goal

-- the first line feed is as far after this place as it is in what is left
abbrev pub invariant-loop-rest : goal.invariant-loop-rest
invariant-loop-rest l = (l.place + place_of 10 l.rest ≡ place_of 10 l.text) × (l.place + length l.rest ≡ length l.text)

abbrev pub decreases-loop-rest : goal.decreases-loop-rest
decreases-loop-rest l = length l.rest
