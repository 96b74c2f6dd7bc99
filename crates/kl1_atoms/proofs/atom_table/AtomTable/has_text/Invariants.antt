use Rattle.std.proofs.Common.{◌≡◌, ℕ, ◌<◌, IsTrue}
use Rattle.kl1_model.specs.Text.{is_text}
use Rattle.kl1_text.specs.Words.{word_at}
use Rattle.kl1_atoms.specs.declared.face.Heard.{Heard}
use Rattle.kl1_atoms.specs.Plays.{own, In}
use Rattle.kl1_atoms.proofs.atom_table.AtomTable.has_text.Given as goal

-- the words so far are those of the entry's text
abbrev pub invariant-loop-word : goal.invariant-loop-word
invariant-loop-word l = record {
  of : l.seat.table_id ≡ l.initial.seat.table_id;
  same : l.seat.me ≡ l.initial.seat.me;
  words : (h : Heard) → In (own l.initial.seat.me.0).heard h → h.entry ≡ l.entry → IsTrue (is_text h.text) → (k : ℕ) → k < l.word → word_at h.text k ≡ word_at l.text k;
}
