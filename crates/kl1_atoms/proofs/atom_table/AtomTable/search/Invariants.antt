use Rattle.std.proofs.Common.{◌≡◌, ◌≤◌, ◌+◌}
use Rattle.kl1_atoms.specs.Plays.{Steps}
use Rattle.kl1_atoms.specs.Rounds.{OnTheWay}
use Rattle.kl1_atoms.proofs.atom_table.AtomTable.search.Given as goal

-- each bucket so far points to another text, and the seat knows what it knew
abbrev pub invariant-loop-passed : goal.invariant-loop-passed
invariant-loop-passed l = record {
  of : l.seat.table_id ≡ l.initial.seat.table_id;
  way : Steps l.initial.seat.me l.seat.me (λ f g. OnTheWay f g l.text l.passed l.drafted);
  few : l.passed ≤ l.self.entries + 1;
  turns : l.turns + l.from ≡ l.initial.turns + l.passed;
}
