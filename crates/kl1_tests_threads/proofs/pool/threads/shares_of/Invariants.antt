use Rattle.std.proofs.Common.{◌≡◌, ◌+◌, ◌≤◌, length, vec_capacity}
use Rattle.kl1_tests_threads.proofs.pool.threads.shares_of.Given as goal

-- the hands that aren't left have given their shares
abbrev pub invariant-loop-hand : goal.invariant-loop-hand
invariant-loop-hand g l = record {
  count : length l.shares.items + length l.hands.items ≡ length l.initial.hands.items;
  room : length l.shares.items + length l.hands.items ≤ vec_capacity l.shares;
}

abbrev pub decreases-loop-hand : goal.decreases-loop-hand
decreases-loop-hand g l = length l.hands.items
