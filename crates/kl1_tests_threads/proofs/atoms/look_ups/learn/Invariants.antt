use Rattle.std.proofs.Common.{◌≡◌, ◌+◌, ◌≤◌, length}
use Rattle.kl1_atoms.specs.Seats.{IsSharedSeat, face_in}
use Rattle.kl1_atoms.specs.Knowing.{KnowsFirst}
use Rattle.kl1_tests_threads.proofs.atoms.look_ups.learn.Given as goal

-- the names so far are known
abbrev pub invariant-loop-place : goal.invariant-loop-place
invariant-loop-place l = record {
  of : IsSharedSeat l.table.table.shared.table_id l.seat.badge.table_id l.table.accounts (face_in l.seat.badge.views) l.seat.account;
  room : (face_in l.seat.badge.views).room ≡ (face_in l.initial.seat.badge.views).room;
  few : length (face_in l.seat.badge.views).knows ≤ length (face_in l.initial.seat.badge.views).knows + l.place;
  known : KnowsFirst (face_in l.seat.badge.views).knows l.texts l.place;
}
