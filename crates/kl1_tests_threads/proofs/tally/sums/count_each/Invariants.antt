use Rattle.std.proofs.Common.{◌≡◌, ◌+◌, vec_len}
use Rattle.std.specs.Prelude.{All}
use Rattle.kl1_tests_threads.proofs.tally.sums.count_each.Given as goal

-- the books that aren't left were counted in
abbrev pub invariant-loop-book : goal.invariant-loop-book
invariant-loop-book l = record {
  books_of : All (λ book. book.tally ≡ l.tally.id) l.books.items;
  counted_of : All (λ book. book.tally ≡ l.tally.id) l.counted.items;
  share_of : l.share.tally ≡ l.tally.id;
  counted : vec_len l.counted ≡ l._book;
  left : vec_len l.books + l._book ≡ vec_len l.initial.books;
}
