use Rattle.std.proofs.Common.{◌≡◌, ◌+◌, ◌-◌, ◌<◌, length, take, arith}
use Rattle.kl1_queue.specs.Over.{overlay}
use Rattle.kl1_queue.proofs.Laying.{length_over, laid_dropped}
use Rattle.kl1_queue.proofs.ready_queue.ReadyQueue.drop_last.Goals as goal

pub returns-clause-ranks : goal.returns-clause-ranks
returns-clause-ranks c =
    let some : 0 < length (overlay c.self.inside.bits_rank c.self.inside.bits 0 c.self.inside.tree.ranks) = rw (← c.self.view_is) at c.requires in
    let n = c.len-last.result - 1 in
    let one : n + 1 ≡ length c.self.inside.tree.ranks = omega (arith, some, c.len-last.ensures, length_over c.self.inside.bits_rank c.self.inside.bits 0 c.self.inside.tree.ranks) in
    let is : c.drop_last.new.self.ranks ≡ take n c.self.inside.tree.ranks = rw c.len-last.ensures c.drop_last.ensures.ranks in
    rw (← c.self.view_is) (laid_dropped c.self.inside.bits_rank c.self.inside.bits c.remove.new.self c.self.inside.tree.ranks c.drop_last.new.self.ranks n c.self.invariant.over one c.remove.ensures.cleared is)
