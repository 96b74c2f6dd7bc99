use Rattle.std.proofs.Common.{◌≡◌, ◌+◌, length}
use Rattle.kl1_queue.proofs.ready_queue.ReadyQueue.clear.Given as goal

-- what the places took that are gone is room
abbrev pub invariant-loop-self : goal.invariant-loop-self
invariant-loop-self l = l.self.room + length l.self.ranks ≡ l.fn.self.room + length l.fn.self.ranks

abbrev pub decreases-loop-self : goal.decreases-loop-self
decreases-loop-self l = length l.self.ranks
