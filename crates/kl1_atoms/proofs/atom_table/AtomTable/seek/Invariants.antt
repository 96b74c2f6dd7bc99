use Rattle.std.proofs.Common.{◌≡◌, ◌≤◌, ◌+◌}
use Rattle.kl1_atoms.specs.Plays.{Steps, Passed}
use Rattle.kl1_atoms.specs.Seeking.{Saw}
use Rattle.kl1_atoms.proofs.atom_table.AtomTable.seek.Given as goal

-- each bucket so far points to another text, and the seat has only seen more
abbrev pub invariant-loop-passed : goal.invariant-loop-passed
invariant-loop-passed l = record {
  of : l.seat.table_id ≡ l.initial.seat.table_id;
  way : Steps l.initial.seat.me l.seat.me (λ f g. Saw f g × Passed g l.text l.passed);
  few : l.passed ≤ l.self.entries + 1;
  turns : l.turns ≡ l.initial.turns + l.passed;
}
