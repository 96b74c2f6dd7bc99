use Rattle.std.proofs.Common.{◌≡◌}
use Rattle.kl1_tests_threads.proofs.tally.raising.raised.Given as goal

-- book and share stay the tally's
abbrev pub invariant-loop-event : goal.invariant-loop-event
invariant-loop-event l = record {
  book : l.book.tally ≡ l.tally.id;
  share : l.share.tally ≡ l.tally.id;
}
