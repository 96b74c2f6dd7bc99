use Rattle.std.proofs.Common.{◌≡◌, ◌+◌, ◌≤◌, [], length, vec_capacity}
use Rattle.std.specs.Prelude.{All}
use Rattle.crossbeam_queue.specs.Passes.{view}
use Rattle.kl1_tally.specs.Seats.{new_share}
use Rattle.kl1_pool_tickets.specs.Histories.{all_parts}
use Rattle.kl1_pool_tickets.specs.Counts.{new_counts}
use Rattle.kl1_pool_tickets.proofs.parts.shares_of.Given as goal

-- the seats that aren't left have shares, and a part for each is cut off
abbrev pub invariant-loop-seat : goal.invariant-loop-seat
invariant-loop-seat g l = record {
  of : l.rest.table_id ≡ g.K.TicketIds.queue;
  free : l.rest.me.1 ≡ [];
  parts : (view l.rest).parts + length l.shares.items ≡ all_parts;
  put : (view l.rest).put ≡ [];
  taken : (view l.rest).taken ≡ [];
  at_zero : All (λ seat. seat ≡ new_share g.K.TicketIds.tally) l.seats.items;
  made : All (λ share. share ≡ new_counts) l.shares.items;
  count : length l.shares.items + length l.seats.items ≡ length l.initial.seats.items;
  room : length l.shares.items + length l.seats.items ≤ vec_capacity l.shares;
}

abbrev pub decreases-loop-seat : goal.decreases-loop-seat
decreases-loop-seat g l = length l.seats.items
