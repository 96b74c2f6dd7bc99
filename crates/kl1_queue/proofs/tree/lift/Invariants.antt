use Rattle.std.proofs.Common.{◌≡◌, ◌*◌, ◌<◌, set, drop}
use Rattle.kl1_queue.specs.Trees.{IsRaised}
use Rattle.kl1_queue.proofs.tree.lift.Given as goal

-- only the parent of the node may hold too little, and it held enough before the node was raised
abbrev pub invariant-loop-node : goal.invariant-loop-node
invariant-loop-node l = record {
  above : 0 < l.node;
  within : l.node < 2 * l.half;
  tree : IsRaised l.half l.node l.rank l.best.items;
  leaves : drop l.half l.best.items ≡ set (drop l.half l.fn.best.items) l.place l.rank;
}

abbrev pub decreases-loop-node : goal.decreases-loop-node
decreases-loop-node l = l.node
