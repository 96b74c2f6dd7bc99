use Rattle.std.proofs.Common.{◌≡◌, ◌++◌, length}
use Rattle.kl1_model_server.specs.Command.{written_lines}
use Rattle.kl1_model_server.specs.JournalText.{lines_of}
use Rattle.kl1_sums.specs.Sums.{emptied}
use Rattle.kl1_sums.proofs.plain.put_empty.Given as goal

-- the bytes, and what is left, are all that is to be put
abbrev pub invariant-loop-after : goal.invariant-loop-after
invariant-loop-after l =
    (l.out.items ++ written_lines (emptied (lines_of l.rest).whole)) ++ (lines_of l.rest).rest ≡ (l.fn.out.items ++ written_lines (emptied (lines_of l.text).whole)) ++ (lines_of l.text).rest

abbrev pub decreases-loop-after : goal.decreases-loop-after
decreases-loop-after l = length l.rest
