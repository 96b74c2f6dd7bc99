use Rattle.std.proofs.Common.{◌≡◌, ◌-◌, ◌≤◌, [], replicate, vec_capacity, vec_len}
use Rattle.kl1_tally.specs.Seats.{new_share}
use Rattle.kl1_tally.specs.Views.{view_of}
use Rattle.kl1_tally.proofs.tally.Tally.shares.Given as goal

-- the shares so far are made, and the seat that is left has the other parts
abbrev pub invariant-loop : goal.invariant-loop
invariant-loop l = record {
  of : l.rest.table_id ≡ l.self.id;
  others : l.rest.me ≡ (view_of (l.shares - l.counter) [] [] [], []);
  room : l.shares ≤ vec_capacity l.made;
  count : vec_len l.made ≡ l.counter;
  all : l.made.items ≡ replicate l.counter (new_share l.self.id);
}
