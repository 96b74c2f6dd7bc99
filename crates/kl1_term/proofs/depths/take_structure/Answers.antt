use Rattle.std.proofs.Common.{◌^◌, arith}
use Rattle.kl1_term.specs.Depths.{depths_on}
use Rattle.kl1_term.proofs.DepthFacts.{low_deepest}
use Rattle.kl1_term.proofs.depths.take_structure.Goals as goal

pub overflow_add-deepest : goal.overflow_add-deepest
overflow_add-deepest c =
    omega (arith, low_deepest (2 ^ 63) c.args.count (depths_on c.args.stack.now.items) (omega arith) c.requires, c.take_deepest-deepest.ensures.deepest)
