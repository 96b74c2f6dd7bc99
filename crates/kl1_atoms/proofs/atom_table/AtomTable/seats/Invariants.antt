use Rattle.std.proofs.Common.{◌≡◌, ℕ, ◌+◌, ◌-◌, ◌*◌, ◌≤◌, [], Some, vec_capacity, vec_len, slice_get}
use Rattle.kl1_atoms.specs.declared.atom_seat.AtomSeat.{AtomSeat}
use Rattle.kl1_atoms.specs.Seats.{faces_from, face_in, IsNewSharedSeat}
use Rattle.kl1_atoms.proofs.atom_table.AtomTable.seats.Given as goal

-- the seats so far are new ones, and the seat that is left speaks for the other accounts
abbrev pub invariant-loop-account : goal.invariant-loop-account
invariant-loop-account l = record {
  of : l.rest.table_id ≡ l.self.table.shared.table_id;
  others : l.rest.me ≡ (record { faces = faces_from l.self.entries l.self.room l.from (l.self.accounts - l.account) }, []);
  range : l.from + (l.self.accounts - l.account) * l.self.room ≤ l.self.entries;
  capacity : l.self.accounts ≤ vec_capacity l.seats;
  count : vec_len l.seats ≡ l.account;
  each : (k : ℕ) (seat : AtomSeat) → slice_get l.seats.items k ≡ Some seat → IsNewSharedSeat l.self.table.shared.table_id seat.badge.table_id l.self.accounts (face_in seat.badge.views) seat.account k;
  room : (k : ℕ) (seat : AtomSeat) → slice_get l.seats.items k ≡ Some seat → (face_in seat.badge.views).room ≡ l.self.room;
}
