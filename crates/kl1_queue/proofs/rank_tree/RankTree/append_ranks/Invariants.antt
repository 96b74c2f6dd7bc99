use Rattle.std.proofs.Common.{◌≡◌, ◌+◌, ◌++◌, take, drop}
use Rattle.kl1_queue.proofs.rank_tree.RankTree.append_ranks.Given as goal

abbrev pub invariant-loop-place : goal.invariant-loop-place
invariant-loop-place l = record {
  ranks : l.self.ranks ≡ l.fn.self.ranks ++ take l.place (drop l.half l.best.items);
  room : l.self.room + l.place ≡ l.fn.self.room;
}
