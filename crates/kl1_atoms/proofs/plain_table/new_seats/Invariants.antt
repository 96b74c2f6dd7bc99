use Rattle.std.proofs.Common.{◌≡◌, ℕ, ◌≤◌, [], Some, vec_capacity, vec_len, slice_get}
use Rattle.kl1_atoms.specs.declared.plain_seat.PlainSeat.{PlainSeat}
use Rattle.kl1_atoms.proofs.plain_table.new_seats.Given as goal

-- the seats so far are their accounts' and know nothing
abbrev pub invariant-loop-account : goal.invariant-loop-account
invariant-loop-account l = record {
  room : l.accounts ≤ vec_capacity l.seats;
  count : vec_len l.seats ≡ l.account;
  each : (k : ℕ) (seat : PlainSeat) → slice_get l.seats.items k ≡ Some seat → (seat.account ≡ k) × (seat.used ≡ 0) × (seat.known.items ≡ []);
}
