use Rattle.std.proofs.Common.{◌≡◌, ℕ, length}
use Rattle.kl1_goals.specs.Slots.{goals_in, numbers_of, AreBelow, AreSlots}
use Rattle.kl1_goals.specs.Chains.{AreChained, HaveSameCounts}
use Rattle.kl1_goals.proofs.places.trim.Given as goal

-- the places that are left have all goals
abbrev pub invariant-loop-slots : goal.invariant-loop-slots
invariant-loop-slots g l = record {
  slots : AreSlots l.slots.items l.empty l.queue.ranks;
  chained : AreChained l.slots.items l.tallies.items;
  counts : HaveSameCounts l.fn.tallies.items l.tallies.items;
  goals : goals_in l.slots.items ≡ goals_in l.fn.slots.items;
  below : (n : ℕ) → AreBelow n (numbers_of l.fn.slots.items) → AreBelow n (numbers_of l.slots.items);
}

abbrev pub decreases-loop-slots : goal.decreases-loop-slots
decreases-loop-slots g l = length l.slots.items
