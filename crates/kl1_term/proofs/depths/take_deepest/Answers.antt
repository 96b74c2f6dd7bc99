use Rattle.std.proofs.Common.{arith}
use Rattle.kl1_term.specs.Depths.{depth_of, depths_on}
use Rattle.kl1_term.proofs.DepthFacts.{next_deepest, next_behind}
use Rattle.kl1_term.proofs.depths.take_deepest.Goals as goal

pub loop-left-preserved : goal.loop-left-preserved
loop-left-preserved c = record {
  deepest = next_deepest c.loop-left.left (depths_on c.loop-left.stack.items) (depths_on c.take_depth.new.stack.items) (depth_of c.take_depth.result) c.loop-left.deepest c.max-deepest.result _ (omega arith) c.take_depth.ensures.first c.take_depth.ensures.others c.max-deepest.ensures c.loop-left.invariant.deepest;
  others = next_behind c.loop-left.left (depths_on c.loop-left.stack.items) (depths_on c.take_depth.new.stack.items) _ (omega arith) c.take_depth.ensures.others c.loop-left.invariant.others;
}
