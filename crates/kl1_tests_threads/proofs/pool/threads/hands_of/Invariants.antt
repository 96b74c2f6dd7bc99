use Rattle.std.proofs.Common.{◌≡◌, ◌+◌, ◌≤◌, length, vec_capacity}
use Rattle.kl1_tests_threads.proofs.pool.threads.hands_of.Given as goal

-- the shares that aren't left have hands
abbrev pub invariant-loop-share : goal.invariant-loop-share
invariant-loop-share g l = record {
  count : length l.hands.items + length l.shares.items ≡ length l.initial.shares.items;
  room : length l.hands.items + length l.shares.items ≤ vec_capacity l.hands;
}

abbrev pub decreases-loop-share : goal.decreases-loop-share
decreases-loop-share g l = length l.shares.items
