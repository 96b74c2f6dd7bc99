use Rattle.std.proofs.Common.{length}
use Rattle.kl1_test_lines.proofs.tokens.behind_blanks.Given as goal

abbrev pub decreases-loop-kept : goal.decreases-loop-kept
decreases-loop-kept l = length l.kept
