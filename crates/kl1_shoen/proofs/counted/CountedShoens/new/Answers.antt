use Rattle.std.proofs.Common.{arith}
use Rattle.kl1_shoen.proofs.Counting.{counted_none}
use Rattle.kl1_shoen.proofs.counted.CountedShoens.new.Goals as goal

pub invariant_of-result : goal.invariant_of-result
invariant_of-result g c = record {
  now = counted_none c.new.result.now c.new-2.result.now c.new.ensures.now c.new-2.ensures.now;
  kept = counted_none c.new.result.kept c.new-2.result.kept c.new.ensures.kept c.new-2.ensures.kept;
  shoens_room = omega arith;
  children_room = omega arith;
  changes = omega arith;
}
