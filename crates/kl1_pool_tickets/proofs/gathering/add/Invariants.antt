use Rattle.std.proofs.Common.{◌≡◌, ℕ, ◌+◌, ◌<◌, ◌≤◌, slice_index, length}
use Rattle.kl1_tally.specs.declared.amounts.TheConstants.{MOST_ACCOUNTS}
use Rattle.kl1_pool_tickets.proofs.gathering.add.Given as goal

-- the numbers so far are added
abbrev pub invariant-loop-account : goal.invariant-loop-account
invariant-loop-account l = record {
  size : length l.sums ≡ MOST_ACCOUNTS;
  added : (k : ℕ) → k < l.account → slice_index l.sums k ≡ slice_index l.initial.sums k + slice_index l.more k;
  others : (k : ℕ) → l.account ≤ k → slice_index l.sums k ≡ slice_index l.initial.sums k;
}
