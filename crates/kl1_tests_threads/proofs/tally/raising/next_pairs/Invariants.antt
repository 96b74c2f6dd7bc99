use Rattle.std.proofs.Common.{◌≡◌, ◌+◌, vec_len}
use Rattle.std.specs.Prelude.{All}
use Rattle.kl1_tests_threads.proofs.tally.raising.next_pairs.Given as goal

-- all seats are the tally's, and those that were taken are no more among the others
abbrev pub invariant-loop-pair : goal.invariant-loop-pair
invariant-loop-pair l = record {
  books_of : All (λ book. book.tally ≡ l.tally.id) l.books.items;
  shares_of : All (λ share. share.tally ≡ l.tally.id) l.shares.items;
  books_left : vec_len l.books + l._pair ≡ vec_len l.initial.books;
  shares_left : vec_len l.shares + l._pair ≡ vec_len l.initial.shares;
  of : All (λ pair. (pair.0.tally ≡ l.tally.id) × (pair.1.tally ≡ l.tally.id)) l.pairs.items;
}
