use Rattle.std.proofs.Common.{◌≡◌, arith}
use Rattle.std.proofs.lemmas.List.Elements.{All-push}
use Rattle.kl1_tests_threads.proofs.tally.raising.next_pairs.Goals as goal

pub loop-pair-preserved : goal.loop-pair-preserved
loop-pair-preserved c = record {
  books_of = c.next_book.ensures.rest;
  shares_of = c.next_share.ensures.rest;
  books_left = (let f = c.next_book.ensures.fewer in let i = c.loop-pair.invariant.books_left in omega arith);
  shares_left = (let f = c.next_share.ensures.fewer in let i = c.loop-pair.invariant.shares_left in omega arith);
  of = rw c.in_ok-push.ensures.items (All-push (λ pair. (pair.0.tally ≡ c.args.tally.now.id) × (pair.1.tally ≡ c.args.tally.now.id)) c.loop-pair.pairs.items (c.next_book.result, c.next_share.result) c.loop-pair.invariant.of (c.next_book.ensures.of, c.next_share.ensures.of));
}
