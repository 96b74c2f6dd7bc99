use Rattle.std.proofs.Common.{◌≡◌, ◌^◌, ◌-◌, ◌*◌, ◌<◌, ◌≤◌}
use Rattle.kl1_queue.proofs.rank_tree.RankTree.with_room.Given as goal

abbrev pub invariant-loop-half : goal.invariant-loop-half
invariant-loop-half l = record {
  level : l.half ≡ 2 ^ l.depth;
  some : 0 < l.half;
  deep : l.depth < l.half;
  fits : l.half < 2 * l.room;
  most : l.half ≤ 16777216;
}

abbrev pub decreases-loop-half : goal.decreases-loop-half
decreases-loop-half l = l.room - l.half
