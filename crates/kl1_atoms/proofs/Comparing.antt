-- Words that are read of an entry: those of its text, up to the one in which the text ends.
use Rattle.std.proofs.Common.{◌≡◌, ℕ, ◌+◌, ◌*◌, ◌<◌, ◌≤◌, List, Some, length, slice_index, slice_set, IsTrue, sym, ap, ◌∙◌, subst, inl, inr, arith}
use Rattle.std.proofs.lemmas.Bool.{cases_eq, cases_lt}
use Rattle.std.proofs.lemmas.List.{get_or-set_same, get_or-set_other, ext_get_or}
use Rattle.kl1_model.specs.declared.limits.TheConstants.{FIRST_NUMBER}
use Rattle.kl1_model.specs.Text.{is_text}
use Rattle.kl1_text.specs.Words.{name_words, words_of, word_at, word_count, words_to_end}
use Rattle.kl1_text.proofs.Words.{length-words_of, word_of, no_word, goes_to}
use Rattle.atomic_table.specs.Table.{Me}
use Rattle.kl1_atoms.specs.declared.face.Heard.{Heard}
use Rattle.kl1_atoms.specs.declared.face.View.{View}
use Rattle.kl1_atoms.specs.Names.{text_in}
use Rattle.kl1_atoms.specs.Rule.{word_place}
use Rattle.kl1_atoms.specs.Plays.{own, In, Reads}

-- as many words as a text takes
pub as_many : (ws t : List ℕ) → ws ≡ words_to_end t → length ws ≡ word_count t
as_many ws t e = ap length e ∙ length-words_of (word_count t) t

-- and each is the text's
pub text_word : (ws t : List ℕ) (k : ℕ) → ws ≡ words_to_end t → k < length ws → slice_index ws k ≡ word_at t k
text_word ws t k e within = ap (λ vs. slice_index vs k) e ∙ word_of (word_count t) k t (let n = as_many ws t e in omega arith)

-- the word that was read of an entry that was seen is that of its text, if those before it are those of a text that goes so far
pub seen_word : (before now : Me (Unit {0}) View) (t : List ℕ) (h : Heard) (n e k found : ℕ) → now ≡ before → (own before.0).entries ≡ n → Reads (own now.0) (word_place n e k) found → In (own before.0).heard h → h.entry ≡ e
    → IsTrue (is_text t) → IsTrue (is_text h.text) → ((j : ℕ) → j < k → word_at h.text j ≡ word_at t j) → k < word_count t → found ≡ word_at h.text k
seen_word before now t h n e k found same accounts reads is at name its words within =
    let told : Reads (own before.0) (word_place n e k) found = subst (λ (m : Me (Unit {0}) View). Reads (own m.0) (word_place n e k) found) same reads in
    told.seen h k is (goes_to t h.text k name its words within) (ap (λ m. word_place m e k) (sym accounts) ∙ ap (λ x. word_place (own before.0).entries x k) (sym at))

-- what an entry has whose number is known is a name
pub known_name : (before now : Me (Unit {0}) View) (t : List ℕ) (e place found : ℕ) → now ≡ before → Reads (own now.0) place found → text_in (own before.0).knows (FIRST_NUMBER + e) ≡ Some t → IsTrue (is_text t)
known_name before now t e place found same reads known =
    let told : Reads (own before.0) place found = subst (λ (m : Me (Unit {0}) View). Reads (own m.0) place found) same reads in told.names t e known

-- and the word that was read of it is the name's, if the name goes so far
pub known_word : (before now : Me (Unit {0}) View) (t : List ℕ) (n e k found : ℕ) → now ≡ before → (own before.0).entries ≡ n → Reads (own now.0) (word_place n e k) found → text_in (own before.0).knows (FIRST_NUMBER + e) ≡ Some t
    → 8 * k ≤ length t → found ≡ word_at t k
known_word before now t n e k found same accounts reads known goes =
    let told : Reads (own before.0) (word_place n e k) found = subst (λ (m : Me (Unit {0}) View). Reads (own m.0) (word_place n e k) found) same reads in
    told.known t e k known (omega arith) (ap (λ m. word_place m e k) (sym accounts))

-- one word more of a name is put
pub words_put : (ws t : List ℕ) (k v : ℕ) → k < length ws → v ≡ word_at t k → ((j : ℕ) → j < k → slice_index ws j ≡ word_at t j) → (j : ℕ) → j < k + 1 → slice_index (slice_set ws k v) j ≡ word_at t j
words_put ws t k v inside is words = λ j h. elim (cases_eq j k) [
  | inl here ↦ rw here (get_or-set_same ws k v 0 inside ∙ is)
  | inr other ↦ get_or-set_other ws k j v 0 other ∙ words j (omega arith)
]

-- the words after it stay zero
pub zeros_left : (ws : List ℕ) (k v : ℕ) → ((j : ℕ) → k ≤ j → slice_index ws j ≡ 0) → (j : ℕ) → k + 1 ≤ j → slice_index (slice_set ws k v) j ≡ 0
zeros_left ws k v zeros = λ j h. get_or-set_other ws k j v 0 (λ same. absurd (omega arith)) ∙ zeros j (omega arith)

-- the words of a name up to its end, and zeros after them, are all words that hold it
pub whole_name : (ws t : List ℕ) (k : ℕ) → length ws ≡ name_words → length t ≤ 8 * k → ((j : ℕ) → j < k → slice_index ws j ≡ word_at t j) → ((j : ℕ) → k ≤ j → slice_index ws j ≡ 0) → ws ≡ words_of name_words t
whole_name ws t k size ends words zeros =
    ext_get_or 0 ws (words_of name_words t) (size ∙ sym (length-words_of name_words t))
    (λ j h. let below : j < name_words = subst (λ m. j < m) size h in elim (cases_lt j k) [
      | inl before ↦ words j before ∙ sym (word_of name_words j t below)
      | inr after ↦ zeros j after ∙ sym (word_of name_words j t below ∙ no_word t j (omega arith))
    ])
