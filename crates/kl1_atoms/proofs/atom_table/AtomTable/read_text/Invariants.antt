use Rattle.std.proofs.Common.{◌≡◌, ℕ, ◌+◌, ◌*◌, ◌<◌, ◌≤◌, List, Some, length, slice_index, IsTrue}
use Rattle.kl1_model.specs.Text.{is_text}
use Rattle.kl1_model.specs.declared.limits.TheConstants.{FIRST_NUMBER}
use Rattle.kl1_text.specs.Words.{name_words, word_at}
use Rattle.kl1_atoms.specs.Names.{text_in}
use Rattle.kl1_atoms.specs.Plays.{own}
use Rattle.kl1_atoms.proofs.atom_table.AtomTable.read_text.Given as goal

-- the words so far are those of the entry's name, which goes on, and the others are zero
abbrev pub invariant-loop-word : goal.invariant-loop-word
invariant-loop-word l = record {
  of : l.seat.table_id ≡ l.initial.seat.table_id;
  same : l.seat.me ≡ l.initial.seat.me;
  size : length l.words ≡ name_words;
  name : (t : List ℕ) → text_in (own l.initial.seat.me.0).knows (FIRST_NUMBER + l.entry) ≡ Some t → 0 < l.word → IsTrue (is_text t);
  words : (t : List ℕ) → text_in (own l.initial.seat.me.0).knows (FIRST_NUMBER + l.entry) ≡ Some t → (8 * l.word ≤ length t) × ((k : ℕ) → k < l.word → slice_index l.words k ≡ word_at t k);
  left : (k : ℕ) → l.word ≤ k → slice_index l.words k ≡ 0;
}
