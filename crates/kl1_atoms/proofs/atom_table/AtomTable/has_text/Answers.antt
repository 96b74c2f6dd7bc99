use Rattle.std.proofs.Common.{◌≡◌, ◌<◌, slice_index, sym, ap, ◌∙◌, inl, inr, arith, refl}
use Rattle.std.proofs.lemmas.Bool.{cases_eq, false≢true}
use Rattle.kl1_text.specs.Words.{word_at, word_count}
use Rattle.kl1_text.proofs.Words.{same_to_end}
use Rattle.kl1_atoms.proofs.Comparing.{as_many, text_word, seen_word}
use Rattle.kl1_atoms.proofs.atom_table.AtomTable.has_text.Goals as goal

pub loop-word-preserved : goal.loop-word-preserved
loop-word-preserved c =
    let w = c.loop-word.word in
    let ws = c.words-words.result.now in
    let count = as_many ws c.args.text.now c.words-words.ensures.value in
    let within : w < word_count c.args.text.now = omega arith in
    let same : c.read.result ≡ slice_index ws w = omega arith in
    record {
      of = c.read.ensures.of ∙ c.loop-word.invariant.of;
      same = c.read.ensures.same ∙ c.loop-word.invariant.same;
      words = λ h is e name k below. elim (cases_eq k w) [
        | inl here ↦
            let read = seen_word c.args.seat.now.me c.loop-word.seat.me c.args.text.now h c.args.self.now.entries c.args.entry w c.read.result c.loop-word.invariant.same c.requires.entries c.read.ensures.tells is e
            c.words-words.ensures.name name (c.loop-word.invariant.words h is e name) within in
            rw here (sym read ∙ same ∙ text_word ws c.args.text.now w c.words-words.ensures.value (omega arith))
        | inr other ↦ c.loop-word.invariant.words h is e name k (omega arith)
      ];
    }

-- a word that differs shows another text
pub returns-then-read-words-clause-is : goal.returns-then-read-words-clause-is
returns-then-read-words-clause-is c = λ h is e name. (
  (λ yes. absurd (false≢true yes)),
  (λ same.
      let w = c.loop-word.word in
      let ws = c.words-words.result.now in
      let count = as_many ws c.args.text.now c.words-words.ensures.value in
      let within : w < word_count c.args.text.now = omega arith in
      let read = seen_word c.args.seat.now.me c.loop-word.seat.me c.args.text.now h c.args.self.now.entries c.args.entry w c.read.result c.loop-word.invariant.same c.requires.entries c.read.ensures.tells is e
      c.words-words.ensures.name name (c.loop-word.invariant.words h is e name) within in
      let agrees : c.read.result ≡ slice_index ws w = read ∙ ap (λ t. word_at t w) same ∙ sym (text_word ws c.args.text.now w c.words-words.ensures.value (omega arith)) in
      absurd (omega arith)),
)

-- all words up to the one in which the text ends agree
pub returns-clause-is : goal.returns-clause-is
returns-clause-is c = λ h is e name. (
  (λ _.
      let count = as_many c.words-words.result.now c.args.text.now c.words-words.ensures.value in
      same_to_end c.args.text.now h.text c.words-words.ensures.name name (λ k small. c.loop-word.invariant.words h is e name k (omega arith))),
  (λ _. refl),
)
