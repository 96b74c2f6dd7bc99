use Rattle.std.proofs.Common.{◌≡◌, ◌+◌, ◌-◌, ◌*◌, ◌<◌, ◌≤◌, ◌^◌, length, take, slice_index, ◌∙◌, ap, arith}
use Rattle.kl1_model.specs.declared.limits.TheConstants.{MOST_NAME_BYTES}
use Rattle.kl1_text.specs.Words.{words_of, bytes_of, name_words, word_at, word_count, words_to_end}
use Rattle.kl1_text.proofs.Words.{word_of, take-words_of, full_word, short_word, name_length}
use Rattle.kl1_text.proofs.atom_text.AtomText.words.Goals as goal

pub loop-count-preserved : goal.loop-count-preserved
loop-count-preserved c =
    let t = bytes_of c.self.inside.words in
    let k = c.loop-count.count - 1 in
    let word : slice_index c.self.inside.words k ≡ word_at t k = ap (λ ws. slice_index ws k) c.self.invariant.0 ∙ word_of name_words k t (omega arith) in
    let full : 256 ^ 7 ≤ word_at t k = omega arith in
    let more = full_word t k c.self.invariant.1 full in omega arith

-- the name ends in the word before `count`
pub returns-then-words-count-lt-FULL_WORD-clause-value : goal.returns-then-words-count-lt-FULL_WORD-clause-value
returns-then-words-count-lt-FULL_WORD-clause-value c =
    let t = bytes_of c.self.inside.words in
    let k = c.loop-count.count - 1 in
    let word : slice_index c.self.inside.words k ≡ word_at t k = ap (λ ws. slice_index ws k) c.self.invariant.0 ∙ word_of name_words k t (omega arith) in
    let less : word_at t k < 256 ^ 7 = omega arith in
    let short : length t < 8 * k + 8 = short_word t k c.self.invariant.1 less in
    let count : c.loop-count.count ≡ word_count t = omega arith in
    ap (take c.loop-count.count) c.self.invariant.0 ∙ take-words_of c.loop-count.count name_words t (omega arith) ∙ ap (λ n. words_of n t) count ∙ ap words_to_end c.self.view_is

-- or in the last word
pub returns-clause-value : goal.returns-clause-value
returns-clause-value c =
    let t = bytes_of c.self.inside.words in
    let short : length t ≤ MOST_NAME_BYTES = name_length t c.self.invariant.1 in
    let count : name_words ≡ word_count t = omega arith in
    c.self.invariant.0 ∙ ap (λ n. words_of n t) count ∙ ap words_to_end c.self.view_is
