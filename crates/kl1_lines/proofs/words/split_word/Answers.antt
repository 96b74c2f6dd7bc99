use Rattle.std.proofs.Common.{arith}
use Rattle.std.proofs.lemmas.Grind.{common_steps}
use Rattle.kl1_lines.proofs.Cuts.{word_in_front, behind_in_front}
use Rattle.kl1_lines.proofs.WordFuel.{behind_word_less}
use Rattle.kl1_lines.proofs.words.split_word.Goals as goal

pub returns-clause-word : goal.returns-clause-word
returns-clause-word c =
    let cut = word_in_front c.without_blanks-begun.result.now c.without_blanks-begun.ensures.begins in
    grind (arith, common_steps)

pub returns-clause-behind : goal.returns-clause-behind
returns-clause-behind c =
    let cut = behind_in_front c.without_blanks-begun.result.now c.without_blanks-begun.ensures.begins in
    grind (arith, common_steps)

pub returns-clause-less : goal.returns-clause-less
returns-clause-less c = λ h. let less = behind_word_less c.args.line.now h in rw (returns-clause-behind c) less
