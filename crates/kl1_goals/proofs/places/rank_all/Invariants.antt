use Rattle.std.proofs.Common.{◌≡◌, ◌+◌, length, take, map}
use Rattle.kl1_goals.specs.Slots.{rank_in}
use Rattle.kl1_goals.proofs.places.rank_all.Given as goal

-- the places so far are ranked
abbrev pub invariant-loop-place : goal.invariant-loop-place
invariant-loop-place g l = record {
  ranks : l.queue.ranks ≡ map rank_in (take l.place l.slots.items);
  room : l.queue.room + l.place ≡ l.fn.queue.room + length l.fn.queue.ranks;
}
