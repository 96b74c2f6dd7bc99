use Rattle.std.proofs.Common.{◌≡◌, ◌+◌, ◌<◌, ◌≤◌, [], length, vec_capacity}
use Rattle.std.specs.Prelude.{All}
use Rattle.crossbeam_queue.specs.Passes.{view}
use Rattle.kl1_pool_tickets.specs.Totals.{TookIn}
use Rattle.kl1_pool_tickets.proofs.gathering.take_in.Given as goal

-- the shares that aren't left are taken apart
abbrev pub invariant-loop-share : goal.invariant-loop-share
invariant-loop-share g l = record {
  of : l.joint.table_id ≡ g.K.TicketIds.queue;
  free : l.joint.me.1 ≡ [];
  seats_of : All (λ seat. seat.tally ≡ g.K.TicketIds.tally) l.seats.items;
  room : length l.seats.items + length l.shares.items ≤ vec_capacity l.seats;
  some : 0 < (view l.joint).parts;
  took : TookIn l.initial.shares.items l.shares.items l.seats.items (view l.initial.joint) (view l.joint) l.sums.puts l.sums.takes;
}

abbrev pub decreases-loop-share : goal.decreases-loop-share
decreases-loop-share g l = length l.shares.items
