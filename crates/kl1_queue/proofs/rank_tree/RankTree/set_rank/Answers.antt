use Rattle.std.proofs.Common.{◌<◌, length, refl, arith, ap}
use Rattle.kl1_queue.specs.Ranks.{Queued}
use Rattle.kl1_queue.proofs.Leaves.{ranks_set, length_ranks}
use Rattle.kl1_queue.proofs.rank_tree.RankTree.set_rank.Goals as goal

pub returns : goal.returns
returns c =
    let s = c.self.inside in
    let count = ap (λ (q : Queued). length q.ranks) c.self.view_is in
    let within : c.args.place < s.len = omega (arith, c.requires, count, length_ranks s.half s.depth s.len s.best.items c.self.invariant) in
    rw (← c.self.view_is) (rw (ranks_set s.half s.len c.args.place c.args.rank s.best.items c.set_leaf.new.best.items within c.set_leaf.ensures.leaves) refl)
