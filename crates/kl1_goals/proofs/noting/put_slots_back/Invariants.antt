use Rattle.std.proofs.Common.{◌≡◌, map}
use Rattle.kl1_shoen_paths.specs.Tracked.{put_back}
use Rattle.kl1_goals.specs.Slots.{capped_in}
use Rattle.kl1_goals.proofs.noting.put_slots_back.Given as goal

-- what is left to be put back comes to what all of it does
abbrev pub invariant-loop-last : goal.invariant-loop-last
invariant-loop-last g l = record {
  slots : put_back l.was.items l.slots.items ≡ put_back l.fn.was.items l.fn.slots.items;
  ranks : l.queue.ranks ≡ map capped_in l.slots.items;
}

abbrev pub decreases-loop-last : goal.decreases-loop-last
decreases-loop-last g l = goal.left-loop-last g l
