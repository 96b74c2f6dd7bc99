use Rattle.std.proofs.Common.{ℕ, arith}
use Rattle.std.proofs.lemmas.List.{get_or_read}
use Rattle.kl1_queue.proofs.Leaves.{top_most}
use Rattle.kl1_queue.proofs.rank_tree.RankTree.greatest.Goals as goal

pub returns : goal.returns
returns c =
    let s = c.self.inside in
    let top = get_or_read s.best.items 1 c.index.result.now (omega (arith, c.self.invariant.tree.size, c.if-self-eq0.false)) c.index.ensures 0 in
    rw (← c.self.view_is) (λ (j : ℕ). omega (arith, top, top_most s.half s.depth s.len s.best.items j c.self.invariant))
