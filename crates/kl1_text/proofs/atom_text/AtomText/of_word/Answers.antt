use Rattle.std.proofs.Common.{IsTrue, sym, ◌∙◌, ap, subst}
use Rattle.kl1_model.specs.Text.{is_text}
use Rattle.kl1_text.specs.Words.{name_words, words_of}
use Rattle.kl1_text.proofs.Words.{row_of_word, bytes_of_row}
use Rattle.kl1_text.proofs.atom_text.AtomText.of_word.Goals as goal

pub of_words-requires-clause-held : goal.of_words-requires-clause-held
of_words-requires-clause-held c = row_of_word c.args.word c.requires ∙ ap (words_of name_words) (sym (bytes_of_row c.args.word c.requires))

pub of_words-requires-clause-name : goal.of_words-requires-clause-name
of_words-requires-clause-name c = subst (λ bs. IsTrue (is_text bs)) (sym (bytes_of_row c.args.word c.requires)) c.requires.name

pub returns : goal.returns
returns c = c.of_words.ensures ∙ bytes_of_row c.args.word c.requires
