use Rattle.std.proofs.Common.{◌≡◌, length}
use Rattle.kl1_model.specs.Token.{behind_comment}
use Rattle.kl1_read.proofs.words.behind_comment.Given as goal

-- what comes after the comment that is left is what comes after the whole
abbrev pub invariant-loop-rest : goal.invariant-loop-rest
invariant-loop-rest l = behind_comment l.rest ≡ behind_comment l.bytes

abbrev pub decreases-loop-rest : goal.decreases-loop-rest
decreases-loop-rest l = length l.rest
