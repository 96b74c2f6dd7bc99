use Rattle.std.proofs.Common.{◌≡◌, ◌+◌, ℕ, Some, length, slice_get, vec_len}
use Rattle.std.specs.Prelude.{All}
use Rattle.kl1_model.specs.declared.limits.TheConstants.{MOST_NAMES_BEFORE}
use Rattle.kl1_atoms.specs.declared.atom_seat.AtomSeat.{AtomSeat}
use Rattle.kl1_atoms.specs.Seats.{IsSharedSeat, IsNewSharedSeat, face_in}
use Rattle.kl1_atoms.specs.Knowing.{KnowsFirst}
use Rattle.kl1_tests_threads.proofs.atoms.look_ups.next_seats.Given as goal

-- the seats that are left are new, and those that were taken know the names
abbrev pub invariant-loop-seat : goal.invariant-loop-seat
invariant-loop-seat l = record {
  seats : (k : ℕ) (seat : AtomSeat) → slice_get l.seats.items k ≡ Some seat → IsNewSharedSeat l.table.table.shared.table_id seat.badge.table_id l.table.accounts (face_in seat.badge.views) seat.account k;
  rooms : (k : ℕ) (seat : AtomSeat) → slice_get l.seats.items k ≡ Some seat → (face_in seat.badge.views).room ≡ MOST_NAMES_BEFORE;
  left : vec_len l.seats + l._seat ≡ vec_len l.initial.seats;
  known : All (λ seat. IsSharedSeat l.table.table.shared.table_id seat.badge.table_id l.table.accounts (face_in seat.badge.views) seat.account × KnowsFirst (face_in seat.badge.views).knows l.texts (length l.texts)) l.next.items;
}
