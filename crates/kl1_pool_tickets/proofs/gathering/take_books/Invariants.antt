use Rattle.std.proofs.Common.{◌≡◌, ◌+◌, ◌≤◌, length, vec_capacity}
use Rattle.std.specs.Prelude.{All}
use Rattle.kl1_pool_tickets.proofs.gathering.take_books.Given as goal

-- the books of what has them and aren't left are here
abbrev pub invariant-loop-one : goal.invariant-loop-one
invariant-loop-one g l = record {
  of : All (λ book. book.tally ≡ g.C.Booked.tally) l.books.items;
  count : length l.books.items + length l.booked.items ≡ length l.initial.booked.items;
  room : length l.books.items + length l.booked.items ≤ vec_capacity l.books;
}

abbrev pub decreases-loop-one : goal.decreases-loop-one
decreases-loop-one g l = length l.booked.items
