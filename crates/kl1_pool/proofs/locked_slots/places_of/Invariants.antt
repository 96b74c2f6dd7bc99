use Rattle.std.proofs.Common.{◌≡◌, ◌+◌, ◌≤◌, length, vec_capacity}
use Rattle.std.specs.Prelude.{All}
use Rattle.kl1_pool_tickets.specs.Parts.{IsNewBook}
use Rattle.kl1_pool.specs.Parts.{AreFreshSeats, AreUnshown}
use Rattle.kl1_pool.proofs.locked_slots.places_of.Given as goal

-- the books that aren't left have accounts, and as many seats and histories are left as books
abbrev pub invariant-loop-book : goal.invariant-loop-book
invariant-loop-book g l = record {
  seats : AreFreshSeats g.C.Vacant.table g.C.Vacant.seats g.C.Vacant.keeps_to l.seats.items;
  books : All (IsNewBook g.C.Vacant.tally) l.books.items;
  as_many : length l.seats.items ≡ length l.books.items;
  unshown : AreUnshown g.C.Vacant.histories l.books.items l.shown.items;
  shown : length l.shown.items ≡ length l.books.items;
  count : length l.places.items + length l.books.items ≡ length l.initial.books.items;
  room : length l.places.items + length l.books.items ≤ vec_capacity l.places;
}

abbrev pub decreases-loop-book : goal.decreases-loop-book
decreases-loop-book g l = length l.books.items
