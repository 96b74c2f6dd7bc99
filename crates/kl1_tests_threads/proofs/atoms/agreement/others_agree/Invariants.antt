use Rattle.std.proofs.Common.{◌≡◌, ◌+◌, ℕ, Some, slice_get, vec_len}
use Rattle.kl1_model.specs.declared.limits.TheConstants.{MOST_NAMES_BEFORE}
use Rattle.kl1_atoms.specs.declared.atom_seat.AtomSeat.{AtomSeat}
use Rattle.kl1_atoms.specs.Seats.{IsSharedSeat, IsNewSharedSeat, face_in}
use Rattle.kl1_tests_threads.proofs.atoms.agreement.others_agree.Given as goal

-- the seat is of the table, and the seats that are left are new
abbrev pub invariant-loop-other : goal.invariant-loop-other
invariant-loop-other l = record {
  of : IsSharedSeat l.table.table.shared.table_id l.seat.badge.table_id l.table.accounts (face_in l.seat.badge.views) l.seat.account;
  seats : (k : ℕ) (seat : AtomSeat) → slice_get l.seats.items k ≡ Some seat → IsNewSharedSeat l.table.table.shared.table_id seat.badge.table_id l.table.accounts (face_in seat.badge.views) seat.account k;
  rooms : (k : ℕ) (seat : AtomSeat) → slice_get l.seats.items k ≡ Some seat → (face_in seat.badge.views).room ≡ MOST_NAMES_BEFORE;
  left : vec_len l.seats + l._other ≡ vec_len l.initial.seats;
}
