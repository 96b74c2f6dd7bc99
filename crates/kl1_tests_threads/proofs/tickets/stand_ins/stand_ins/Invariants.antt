use Rattle.std.proofs.Common.{◌≡◌, ◌+◌, ◌≤◌, vec_capacity, vec_len}
use Rattle.std.specs.Prelude.{All}
use Rattle.kl1_pool_tickets.specs.Parts.{IsNewBook}
use Rattle.kl1_tests_threads.proofs.tickets.stand_ins.stand_ins.Given as goal

-- the books that aren't left have accounts
abbrev pub invariant-loop-book : goal.invariant-loop-book
invariant-loop-book g l = record {
  of : All (IsNewBook g.K.TicketIds.tally) l.books.items;
  left : vec_len l.books + l._book ≡ vec_len l.initial.books;
  count : vec_len l.made ≡ l._book;
  room : vec_len l.initial.books ≤ vec_capacity l.made;
}
