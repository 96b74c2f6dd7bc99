use Rattle.std.proofs.Common.{◌≡◌, ℕ, ◌*◌, ◌<◌, ◌≤◌, length, drop, slice_index, IsTrue}
use Rattle.std.specs.List.{list_all}
use Rattle.kl1_model.specs.Text.{is_name_byte}
use Rattle.kl1_text.specs.Words.{name_words, word_at}
use Rattle.kl1_text.proofs.packing.words_of.Given as goal

-- the words so far are those of the bytes before the rest, and the others are zero
abbrev pub invariant-loop-word : goal.invariant-loop-word
invariant-loop-word l = record {
  size : length l.words ≡ name_words;
  rest : l.rest ≡ drop (8 * l.word) l.bytes;
  names : IsTrue (list_all is_name_byte l.rest);
  done : (k : ℕ) → k < l.word → slice_index l.words k ≡ word_at l.bytes k;
  left : (k : ℕ) → l.word ≤ k → slice_index l.words k ≡ 0;
}
