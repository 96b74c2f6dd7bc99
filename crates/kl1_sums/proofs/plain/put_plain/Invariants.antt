use Rattle.std.proofs.Common.{◌≡◌, ◌++◌, [], length}
use Rattle.kl1_model_server.specs.Command.{written_lines}
use Rattle.kl1_model_server.specs.JournalText.{lines_of}
use Rattle.kl1_sums.specs.Sums.{plain_from}
use Rattle.kl1_sums.specs.SumValues.{digits_of}
use Rattle.kl1_sums.proofs.plain.put_plain.Given as goal

-- the bytes, and what is left without its sums, are all that is to be put
abbrev pub invariant-loop-line : goal.invariant-loop-line
invariant-loop-line l =
    (l.out.items ++ written_lines (plain_from (digits_of l.sum) (lines_of l.rest).whole)) ++ (lines_of l.rest).rest ≡ (l.fn.out.items ++ written_lines (plain_from [] (lines_of l.text).whole)) ++ (lines_of l.text).rest

abbrev pub decreases-loop-line : goal.decreases-loop-line
decreases-loop-line l = length l.rest
