use Rattle.kl1_queue.proofs.Laying.{new_wide}
use Rattle.kl1_queue.proofs.ready_queue.ReadyQueue.new.Goals as goal

pub invariant_of-result : goal.invariant_of-result
invariant_of-result c = new_wide 0 c.new-2.result c.new.result c.new.ensures.ranks c.new.ensures.room c.new-2.ensures
