use Rattle.std.proofs.Common.{◌≡◌, take}
use Rattle.kl1_atoms.specs.Plays.{Steps}
use Rattle.kl1_atoms.specs.Rounds.{Drafts}
use Rattle.kl1_atoms.proofs.atom_table.AtomTable.have_draft.Given as goal

-- the words so far are drafted
abbrev pub invariant-loop-word : goal.invariant-loop-word
invariant-loop-word l = record {
  of : l.seat.table_id ≡ l.initial.seat.table_id;
  tells : Steps l.initial.seat.me l.seat.me (λ f g. Drafts f g (take l.word l.words));
}
