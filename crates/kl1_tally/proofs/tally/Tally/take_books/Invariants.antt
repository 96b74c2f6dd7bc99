use Rattle.std.proofs.Common.{◌≡◌, [], length}
use Rattle.std.specs.Prelude.{All}
use Rattle.kl1_tally.specs.Totals.{TookBooks}
use Rattle.kl1_tally.proofs.tally.Tally.take_books.Given as goal

-- the books that aren't left were joined, and what they tell was noted
abbrev pub invariant-loop-book : goal.invariant-loop-book
invariant-loop-book l = record {
  of : l.joint.table_id ≡ l.self.id;
  free : l.joint.me.1 ≡ [];
  books_of : All (λ book. book.tally ≡ l.self.id) l.books.items;
  took : TookBooks l.initial.books.items l.books.items l.initial.joint.me.0 l.joint.me.0 l.told.events l.told.steps;
}

abbrev pub decreases-loop-book : goal.decreases-loop-book
decreases-loop-book l = length l.books.items
