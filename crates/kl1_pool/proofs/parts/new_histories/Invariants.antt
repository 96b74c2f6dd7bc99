use Rattle.std.proofs.Common.{◌≡◌, ◌≤◌, length, vec_capacity}
use Rattle.kl1_journal_stamps.specs.Stamps.{AreNew}
use Rattle.kl1_pool.proofs.parts.new_histories.Given as goal

-- as many histories as accounts were counted, and there is room for all
abbrev pub invariant-loop-number : goal.invariant-loop-number
invariant-loop-number l = record {
  count : length l.shown.items ≡ l._number;
  room : l.count ≤ vec_capacity l.shown;
  new : AreNew l.shown.items;
}
