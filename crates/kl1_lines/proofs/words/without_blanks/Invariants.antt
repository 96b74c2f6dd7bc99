use Rattle.std.proofs.Common.{◌≡◌, length}
use Rattle.kl1_model.specs.Line.{word_in, behind_word_in, is_blank_line}
use Rattle.kl1_lines.proofs.words.without_blanks.Given as goal

-- what is left has the same first word, and the same after it, and is blank if the line is
abbrev pub invariant-loop-rest : goal.invariant-loop-rest
invariant-loop-rest l = (word_in l.rest ≡ word_in l.line) × (behind_word_in l.rest ≡ behind_word_in l.line) × (is_blank_line l.rest ≡ is_blank_line l.line)

abbrev pub decreases-loop-rest : goal.decreases-loop-rest
decreases-loop-rest l = length l.rest
