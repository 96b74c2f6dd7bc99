use Rattle.std.proofs.Common.{◌≡◌, ℕ, ◌+◌, ◌<◌, [], slice_index, length}
use Rattle.crossbeam_queue.specs.Passes.{view}
use Rattle.kl1_tally.specs.declared.amounts.TheConstants.{MOST_ACCOUNTS}
use Rattle.kl1_tally.specs.Numbers.{times}
use Rattle.kl1_pool_tickets.specs.Histories.{all_parts}
use Rattle.kl1_pool_tickets.proofs.gathering.drain.Given as goal

-- what was taken since the beginning is counted
abbrev pub invariant-loop : goal.invariant-loop
invariant-loop g l = record {
  of : l.joint.table_id ≡ l.queue.table.shared.table_id;
  free : l.joint.me.1 ≡ [];
  all : (view l.joint).parts ≡ all_parts;
  put : (view l.joint).put ≡ (view l.initial.joint).put;
  size : length l.left ≡ MOST_ACCOUNTS;
  counted : (k : ℕ) → k < MOST_ACCOUNTS → times k (view l.joint).taken ≡ times k (view l.initial.joint).taken + slice_index l.left k;
}
