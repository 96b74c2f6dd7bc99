use Rattle.std.proofs.Common.{◌<◌, arith}
use Rattle.std.proofs.lemmas.List.{get_or_read}
use Rattle.kl1_queue.proofs.Leaves.{none_ready, first_ready}
use Rattle.kl1_queue.proofs.rank_tree.RankTree.first.Goals as goal

pub returns-then-index-eq0 : goal.returns-then-index-eq0
returns-then-index-eq0 c =
    let s = c.self.inside in
    let top = get_or_read s.best.items 1 c.index.result.now (omega (arith, c.self.invariant.tree.size)) c.index.ensures 0 in
    rw (← c.self.view_is) (none_ready s.half s.depth s.len s.best.items c.self.invariant (omega (arith, top, c.if-index-eq0.true)))

pub returns : goal.returns
returns c =
    let s = c.self.inside in
    let some : 0 < s.half = omega (arith, c.if-self-eq0.false) in
    let top = get_or_read s.best.items 1 c.index.result.now (omega (arith, c.self.invariant.tree.size)) c.index.ensures 0 in
    let leads = rw (← c.self.invariant.level some) at c.first_leaf-leaf.ensures in
    rw (← c.self.view_is) (first_ready s.half s.depth s.len c.first_leaf-leaf.result s.best.items c.self.invariant some (omega (arith, top, c.if-index-eq0.false)) leads)
