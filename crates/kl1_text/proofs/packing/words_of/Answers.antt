use Rattle.std.proofs.Common.{◌≡◌, ◌+◌, ◌-◌, ◌*◌, ◌<◌, ◌≤◌, length, drop, sym, ◌∙◌, ap, subst, inl, inr, arith, get_or-set_same, get_or-set_other}
use Rattle.std.proofs.lemmas.Bool.{cases_eq, cases_lt, eqb-true}
use Rattle.std.proofs.lemmas.List.{length-set, drop-drop, ext_get_or, length-drop}
use Rattle.kl1_text.specs.Words.{number_of, words_of, name_words}
use Rattle.kl1_text.proofs.Words.{length-words_of, word_of, no_word}
use Rattle.kl1_text.proofs.packing.words_of.Goals as goal

pub loop-word-preserved : goal.loop-word-preserved
loop-word-preserved c = record {
  size = length-set c.loop-word.words c.loop-word.word c.number_of.result ∙ c.loop-word.invariant.size;
  rest =
      c.behind-rest.ensures.value ∙ ap (drop 8) c.loop-word.invariant.rest ∙ drop-drop 8 (8 * c.loop-word.word) c.args.bytes.now
      ∙ ap (λ i. drop i c.args.bytes.now) (let e : 8 * c.loop-word.word + 8 ≡ 8 * (c.loop-word.word + 1) = omega arith in e);
  names = c.behind-rest.ensures.names;
  done = λ k h. elim (cases_eq k c.loop-word.word) [
    | inl here ↦
        let inside : c.loop-word.word < length c.loop-word.words = omega (arith, c.loop-word.invariant.size) in
        rw here (get_or-set_same c.loop-word.words c.loop-word.word c.number_of.result 0 inside ∙ c.number_of.ensures.value ∙ ap (number_of 8) c.loop-word.invariant.rest)
    | inr other ↦ get_or-set_other c.loop-word.words c.loop-word.word k c.number_of.result 0 other ∙ c.loop-word.invariant.done k (omega arith)
  ];
  left = λ k h. get_or-set_other c.loop-word.words c.loop-word.word k c.number_of.result 0 (λ same. absurd (omega arith)) ∙ c.loop-word.invariant.left k (omega arith);
}

pub returns : goal.returns
returns c =
    ext_get_or 0 c.loop-word.words (words_of name_words c.args.bytes.now) (c.loop-word.invariant.size ∙ sym (length-words_of name_words c.args.bytes.now))
    (λ k h. let below : k < name_words = subst (λ m. k < m) c.loop-word.invariant.size h in c.loop-word.invariant.done k (omega arith) ∙ sym (word_of name_words k c.args.bytes.now below))

pub returns-then-is_empty : goal.returns-then-is_empty
returns-then-is_empty c =
    let none : length c.loop-word.rest.now ≡ 0 = eqb-true (length c.loop-word.rest.now) 0 (sym c.is_empty.ensures ∙ c.if-is_empty.true) in
    let left : length c.loop-word.rest.now ≡ length c.args.bytes.now - 8 * c.loop-word.word = ap length c.loop-word.invariant.rest ∙ length-drop (8 * c.loop-word.word) c.args.bytes.now in
    let past : length c.args.bytes.now ≤ 8 * c.loop-word.word = omega arith in
    ext_get_or 0 c.loop-word.words (words_of name_words c.args.bytes.now) (c.loop-word.invariant.size ∙ sym (length-words_of name_words c.args.bytes.now))
    (λ k h. let below : k < name_words = subst (λ m. k < m) c.loop-word.invariant.size h in elim (cases_lt k c.loop-word.word) [
      | inl before ↦ c.loop-word.invariant.done k before ∙ sym (word_of name_words k c.args.bytes.now below)
      | inr after ↦ c.loop-word.invariant.left k after ∙ sym (word_of name_words k c.args.bytes.now below ∙ no_word c.args.bytes.now k (omega arith))
    ])
