use Rattle.std.proofs.Common.{◌≡◌, length}
use Rattle.kl1_model.specs.Token.{behind_word}
use Rattle.kl1_read.proofs.words.behind_word.Given as goal

-- what comes after the word of what is left is what comes after that of the text
abbrev pub invariant-loop-rest : goal.invariant-loop-rest
invariant-loop-rest l = behind_word l.rest ≡ behind_word l.bytes

abbrev pub decreases-loop-rest : goal.decreases-loop-rest
decreases-loop-rest l = length l.rest
