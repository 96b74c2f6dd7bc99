use Rattle.std.proofs.Common.{◌≡◌, ◌-◌, length, drop}
use Rattle.kl1_goals.specs.Slots.{goals_in, first_of}
use Rattle.kl1_goals.proofs.places.first_held.Given as goal

-- the first goal of what is left is the first of all
abbrev pub invariant-loop-place : goal.invariant-loop-place
invariant-loop-place g l = first_of (goals_in (drop l.place l.slots.items)) ≡ first_of (goals_in (drop l.from l.slots.items))

abbrev pub decreases-loop-place : goal.decreases-loop-place
decreases-loop-place g l = length l.slots.items - l.place
