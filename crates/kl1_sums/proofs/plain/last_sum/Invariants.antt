use Rattle.std.proofs.Common.{◌≡◌, [], length}
use Rattle.kl1_model_server.specs.JournalText.{lines_of}
use Rattle.kl1_sums.specs.Sums.{last_digits}
use Rattle.kl1_sums.specs.SumValues.{digits_of}
use Rattle.kl1_sums.proofs.plain.last_sum.Given as goal

-- the last of the lines that are left, after one with this sum, is the last of all
abbrev pub invariant-loop-line : goal.invariant-loop-line
invariant-loop-line l = last_digits (digits_of l.last) (lines_of l.rest).whole ≡ last_digits [] (lines_of l.text).whole

abbrev pub decreases-loop-line : goal.decreases-loop-line
decreases-loop-line l = length l.rest
