use Rattle.std.proofs.Common.{◌≡◌, ◌≤◌, length, vec_capacity}
use Rattle.kl1_tests_threads.proofs.pool.tried.names_of.Given as goal

-- there are as many names as numbers so far
abbrev pub invariant-loop-number : goal.invariant-loop-number
invariant-loop-number l = record {
  count : length l.names.items ≡ l.number;
  room : l.count ≤ vec_capacity l.names;
}
