use Rattle.std.proofs.Common.{◌^◌, ◌<◌, arith}
use Rattle.kl1_queue.proofs.Descending.{level_doubles, level_most}
use Rattle.kl1_queue.proofs.rank_tree.RankTree.with_room.Goals as goal

pub loop-half-preserved : goal.loop-half-preserved
loop-half-preserved c =
    let l = c.loop-half in
    let low : 2 ^ l.depth < 16777216 = omega (arith, l.invariant.level, c.loop-half-test.true, c.requires.most) in
    record {
      level = omega (arith, l.invariant.level, level_doubles l.depth);
      some = omega (arith, l.invariant.some);
      deep = omega (arith, l.invariant.deep);
      fits = omega (arith, c.loop-half-test.true);
      most = omega (arith, level_most l.depth low, l.invariant.level);
    }
