use Rattle.std.proofs.Common.{◌≡◌, length, take}
use Rattle.kl1_goals.proofs.noting.cut_ranks.Given as goal

-- the ranks that are to be left are there
abbrev pub invariant-loop-queue : goal.invariant-loop-queue
invariant-loop-queue l = take l.count l.queue.ranks ≡ take l.count l.fn.queue.ranks

abbrev pub decreases-loop-queue : goal.decreases-loop-queue
decreases-loop-queue l = length l.queue.ranks
