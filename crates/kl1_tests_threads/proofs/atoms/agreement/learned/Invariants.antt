use Rattle.std.proofs.Common.{◌≡◌, ◌+◌, ◌≤◌, length}
use Rattle.kl1_atoms.specs.Seats.{IsSharedSeat, face_in}
use Rattle.kl1_tests_threads.proofs.atoms.agreement.learned.Given as goal

-- the seat is of the table, and knows no more than one name more for each look-up
abbrev pub invariant-loop-name : goal.invariant-loop-name
invariant-loop-name l = record {
  of : IsSharedSeat l.table.table.shared.table_id l.seat.badge.table_id l.table.accounts (face_in l.seat.badge.views) l.seat.account;
  room : (face_in l.seat.badge.views).room ≡ (face_in l.initial.seat.badge.views).room;
  few : length (face_in l.seat.badge.views).knows ≤ length (face_in l.initial.seat.badge.views).knows + l.name-index;
}
