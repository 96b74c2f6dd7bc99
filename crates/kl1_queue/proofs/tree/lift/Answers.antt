use Rattle.std.proofs.Common.{◌/◌, ◌<◌, ◌∙◌, arith}
use Rattle.std.proofs.lemmas.List.{get_or_read, drop-set-lt}
use Rattle.kl1_queue.proofs.Climbing.{raised_parent, whole_raised}
use Rattle.kl1_queue.proofs.Descending.{parent_of}
use Rattle.kl1_queue.proofs.tree.lift.Goals as goal

pub returns-then-index-rank-clause-tree : goal.returns-then-index-rank-clause-tree
returns-then-index-rank-clause-tree c =
    let l = c.loop-node in
    let bs = l.best.items in
    let parent = l.node / 2 in
    let above = get_or_read bs parent c.index.result.now (omega (arith, l.invariant.within, l.invariant.tree.but.size)) c.index.ensures 0 in
    whole_raised c.args.half parent l.node c.args.rank bs (omega (arith, c.loop-node-test.true)) (parent_of l.node) l.invariant.tree (omega (arith, above, c.if-index-rank.true))

pub loop-node-preserved : goal.loop-node-preserved
loop-node-preserved c =
    let l = c.loop-node in
    let bs = l.best.items in
    let parent = l.node / 2 in
    let above = get_or_read bs parent c.index.result.now (omega (arith, l.invariant.within, l.invariant.tree.but.size)) c.index.ensures 0 in
    let low : parent < c.args.half = omega (arith, l.invariant.within) in
    record {
      above = omega (arith, c.loop-node-test.true);
      within = omega (arith, l.invariant.within);
      tree = raised_parent c.args.half parent l.node c.args.rank bs (omega (arith, c.loop-node-test.true)) low (parent_of l.node) l.invariant.tree (omega (arith, above, c.if-index-rank.false));
      leaves = drop-set-lt c.args.half bs parent c.args.rank low ∙ l.invariant.leaves;
    }
