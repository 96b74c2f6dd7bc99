use Rattle.std.proofs.Common.{◌≡◌, ◌+◌, ◌<◌, slice_index, true, subst, ap, ◌∙◌, inl, inr, IsTrue, Decides, arith}
use Rattle.std.proofs.lemmas.Bool.{cases_eq}
use Rattle.kl1_model.specs.Text.{is_text}
use Rattle.kl1_text.specs.Words.{name_words, words_of}
use Rattle.kl1_text.proofs.Words.{same_by, same_bytes, ends_within, few_words}
use Rattle.kl1_text.proofs.atom_text.AtomText.is.Goals as goal
use Rattle.kl1_text.proofs.atom_text.AtomText.is.Goals.{Then-mine-word-lt-FULL_WORD}

-- the names end in the same word
end_there : (c : Then-mine-word-lt-FULL_WORD) → Decides true (c.args.self.now ≡ c.args.other.now)
end_there c =
    let vs = c.self.inside.words in
    let ws = c.other.inside.words in
    let w = c.loop-word.word in
    let mine : vs ≡ words_of name_words c.args.self.now = c.self.invariant.0 ∙ ap (words_of name_words) c.self.view_is in
    let others : ws ≡ words_of name_words c.args.other.now = c.other.invariant.0 ∙ ap (words_of name_words) c.other.view_is in
    let name = subst (λ bs. IsTrue (is_text bs)) c.self.view_is c.self.invariant.1 in
    let its = subst (λ bs. IsTrue (is_text bs)) c.other.view_is c.other.invariant.1 in
    let here : slice_index vs w ≡ slice_index ws w = omega arith in
    same_by c.args.self.now c.args.other.now vs ws (w + 1) mine others name its (ends_within c.args.self.now vs w mine name (omega arith) (omega arith)) (omega arith)
    (λ k h. elim (cases_eq k w) [ inl same ↦ rw same here | inr before ↦ c.loop-word.invariant k (omega arith) ])

pub returns-then-mine-word-lt-FULL_WORD-clause-iff : goal.returns-then-mine-word-lt-FULL_WORD-clause-iff
returns-then-mine-word-lt-FULL_WORD-clause-iff c = end_there c

pub returns-then-mine-word-lt-FULL_WORD-clause-value : goal.returns-then-mine-word-lt-FULL_WORD-clause-value
returns-then-mine-word-lt-FULL_WORD-clause-value c = same_bytes c.args.self.now c.args.other.now true (end_there c)

-- all words are the same
all_same : (c : goal.After-loop-word) → Decides true (c.args.self.now ≡ c.args.other.now)
all_same c =
    let vs = c.self.inside.words in
    let ws = c.other.inside.words in
    let name = subst (λ bs. IsTrue (is_text bs)) c.self.view_is c.self.invariant.1 in
    let its = subst (λ bs. IsTrue (is_text bs)) c.other.view_is c.other.invariant.1 in
    same_by c.args.self.now c.args.other.now vs ws name_words (c.self.invariant.0 ∙ ap (words_of name_words) c.self.view_is) (c.other.invariant.0 ∙ ap (words_of name_words) c.other.view_is) name its (few_words c.args.self.now name)
    (omega arith) (λ k h. c.loop-word.invariant k (omega arith))

pub returns-clause-iff : goal.returns-clause-iff
returns-clause-iff c = all_same c

pub returns-clause-value : goal.returns-clause-value
returns-clause-value c = same_bytes c.args.self.now c.args.other.now true (all_same c)
