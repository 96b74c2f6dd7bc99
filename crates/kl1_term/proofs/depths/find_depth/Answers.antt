use Rattle.std.proofs.Common.{length, ◌<◌, ◌^◌, arith}
use Rattle.kl1_term.specs.Depths.{depths_on}
use Rattle.kl1_term.proofs.DepthFacts.{low_at}
use Rattle.kl1_term.proofs.depths.find_depth.Goals as goal

pub put_depth-requires : goal.put_depth-requires
put_depth-requires c =
    let small : length c.args.nodes.now < 2 ^ 63 = omega arith in
    low_at c.args.nodes.now c.loop-at.at (depths_on c.loop-at.stack.items) c.loop-at.invariant.depths small
