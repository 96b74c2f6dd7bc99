use Rattle.kl1_queue.proofs.Levels.{none_yet}
use Rattle.kl1_queue.proofs.bit_set.BitSet.new.Goals as goal

pub invariant_of-result : goal.invariant_of-result
invariant_of-result c = rw (c.new.ensures.items, c.new-2.ensures.items, c.new-3.ensures.items) none_yet
