use Rattle.kl1_atoms.specs.Seats.{IsSharedSeat, face_in}
use Rattle.kl1_tests_threads.proofs.atoms.agreement.agreed.Given as goal

-- both seats are of the table
abbrev pub invariant-loop-name : goal.invariant-loop-name
invariant-loop-name l = record {
  a : IsSharedSeat l.table.table.shared.table_id l.a.badge.table_id l.table.accounts (face_in l.a.badge.views) l.a.account;
  b : IsSharedSeat l.table.table.shared.table_id l.b.badge.table_id l.table.accounts (face_in l.b.badge.views) l.b.account;
}
