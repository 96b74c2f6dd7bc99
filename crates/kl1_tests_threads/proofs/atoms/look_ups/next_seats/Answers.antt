use Rattle.std.proofs.Common.{length, arith}
use Rattle.std.proofs.lemmas.List.Elements.{All-push}
use Rattle.kl1_atoms.specs.Seats.{IsSharedSeat, face_in}
use Rattle.kl1_atoms.specs.Knowing.{KnowsFirst}
use Rattle.kl1_tests_threads.proofs.atoms.look_ups.next_seats.Goals as goal

pub loop-seat-preserved : goal.loop-seat-preserved
loop-seat-preserved c = record {
  seats = c.next_seat.ensures.seats;
  rooms = c.next_seat.ensures.rooms;
  left = (let f = c.next_seat.ensures.fewer in let i = c.loop-seat.invariant.left in omega arith);
  known = rw c.in_ok-push.ensures.items (All-push (λ seat. IsSharedSeat c.args.table.now.table.shared.table_id seat.badge.table_id c.args.table.now.accounts (face_in seat.badge.views) seat.account × KnowsFirst (face_in seat.badge.views).knows c.args.texts.now (length c.args.texts.now)) c.loop-seat.next.items c.learn.result c.loop-seat.invariant.known (c.learn.ensures.of, c.learn.ensures.known));
}
