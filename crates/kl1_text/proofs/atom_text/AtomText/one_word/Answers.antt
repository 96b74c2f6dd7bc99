use Rattle.std.proofs.Common.{◌≡◌, ℕ, ◌*◌, ◌<◌, ◌≤◌, List, length, slice_index, ◌∙◌, ap, inl, inr, arith}
use Rattle.std.proofs.lemmas.Bool.{cases_lt}
use Rattle.kl1_text.specs.Words.{name_words, words_of, bytes_of, word_at}
use Rattle.kl1_text.proofs.Words.{word_of, no_word, one_word, word_bytes, holds_name}
use Rattle.kl1_text.proofs.atom_text.AtomText.one_word.Goals as goal

-- the first two words are those of the name
first_is : (ws t : List ℕ) → ws ≡ words_of name_words t → slice_index ws 0 ≡ word_at t 0
first_is ws t e = ap (λ vs. slice_index vs 0) e ∙ word_of name_words 0 t (omega arith)

second_is : (ws t : List ℕ) → ws ≡ words_of name_words t → slice_index ws 1 ≡ word_at t 1
second_is ws t e = ap (λ vs. slice_index vs 1) e ∙ word_of name_words 1 t (omega arith)

pub returns-then-words-eq0-clause-some : goal.returns-then-words-eq0-clause-some
returns-then-words-eq0-clause-some c =
    let t = bytes_of c.self.inside.words in
    let second : slice_index c.self.inside.words 1 ≡ word_at t 1 = second_is c.self.inside.words t c.self.invariant.0 in
    let empty : word_at t 1 ≡ 0 = omega arith in
    let short : length t ≤ 8 = one_word t c.self.invariant.1 empty in
    rw (first_is c.self.inside.words t c.self.invariant.0) (holds_name t c.self.invariant.1 short, word_bytes t c.self.invariant.1 short ∙ c.self.view_is)

pub returns-else-words-eq0-clause-none : goal.returns-else-words-eq0-clause-none
returns-else-words-eq0-clause-none c = λ _. elim (cases_lt 8 (length c.args.self.now)) [
  | inl long ↦ long
  | inr short ↦
      let t = bytes_of c.self.inside.words in
      let same : length t ≡ length c.args.self.now = ap length c.self.view_is in
      let empty : word_at t 1 ≡ 0 = no_word t 1 (omega arith) in
      let second : slice_index c.self.inside.words 1 ≡ word_at t 1 = second_is c.self.inside.words t c.self.invariant.0 in
      absurd (omega arith)
]
