use Rattle.std.proofs.Common.{◌≡◌, length}
use Rattle.kl1_model.specs.Token.{behind_digits}
use Rattle.kl1_read.proofs.words.behind_digits.Given as goal

-- what comes after the digits of what is left is what comes after those of the text
abbrev pub invariant-loop-rest : goal.invariant-loop-rest
invariant-loop-rest l = behind_digits l.rest ≡ behind_digits l.bytes

abbrev pub decreases-loop-rest : goal.decreases-loop-rest
decreases-loop-rest l = length l.rest
