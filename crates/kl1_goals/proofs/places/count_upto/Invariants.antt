use Rattle.std.proofs.Common.{ℕ, ◌-◌, ◌<◌, ◌≤◌, length, get_or}
use Rattle.kl1_goals.specs.Slots.{numbers_of}
use Rattle.kl1_goals.proofs.places.count_upto.Given as goal

-- what is below the one is at most the number, and what is from the other on is above it
abbrev pub invariant-loop-low : goal.invariant-loop-low
invariant-loop-low g l = record {
  order : l.low ≤ l.high;
  within : l.high ≤ length (numbers_of l.slots.items);
  below : (j : ℕ) → j < l.low → get_or (numbers_of l.slots.items) j 0 ≤ l.number;
  above : (j : ℕ) → l.high ≤ j → j < length (numbers_of l.slots.items) → l.number < get_or (numbers_of l.slots.items) j 0;
}

abbrev pub decreases-loop-low : goal.decreases-loop-low
decreases-loop-low g l = l.high - l.low
