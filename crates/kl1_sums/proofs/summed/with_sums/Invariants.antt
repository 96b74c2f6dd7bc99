use Rattle.std.proofs.Common.{◌≡◌, ◌++◌, length}
use Rattle.kl1_model_server.specs.Command.{written_lines}
use Rattle.kl1_model_server.specs.JournalText.{lines_of}
use Rattle.kl1_sums.specs.Sums.{summed_lines, sum_after}
use Rattle.kl1_sums.specs.SumValues.{digits_of}
use Rattle.kl1_sums.proofs.summed.with_sums.Given as goal

-- the bytes, and what is left with its sums, are the whole text with its sums; and the last sum of what is left is that of the text
abbrev pub invariant-loop-line : goal.invariant-loop-line
invariant-loop-line l = record {
  bytes : l.bytes.items ++ written_lines (summed_lines (digits_of l.last) (lines_of l.rest).whole) ≡ written_lines (summed_lines (digits_of l.fn.prev) (lines_of l.text).whole);
  last : sum_after (digits_of l.last) (lines_of l.rest).whole ≡ sum_after (digits_of l.fn.prev) (lines_of l.text).whole;
}

abbrev pub decreases-loop-line : goal.decreases-loop-line
decreases-loop-line l = length l.rest
