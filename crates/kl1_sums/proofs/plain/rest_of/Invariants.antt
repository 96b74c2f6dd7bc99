use Rattle.std.proofs.Common.{◌≡◌, length}
use Rattle.kl1_model_server.specs.JournalText.{lines_of}
use Rattle.kl1_sums.proofs.plain.rest_of.Given as goal

-- what is after the last line feed is so in what is left
abbrev pub invariant-loop-after : goal.invariant-loop-after
invariant-loop-after l = (lines_of l.rest).rest ≡ (lines_of l.text).rest

abbrev pub decreases-loop-after : goal.decreases-loop-after
decreases-loop-after l = length l.rest
