use Rattle.std.proofs.Common.{◌≡◌, ◌≤◌, drop, length, map, reverse}
use Rattle.kl1_read.specs.SmallNodes.{node_of}
use Rattle.kl1_read.proofs.small_node.turned.Given as goal

-- the nodes so far are those after the first `count`, from the last one on
abbrev pub invariant-loop-count : goal.invariant-loop-count
invariant-loop-count l =
    record {
      same : l.row.items ≡ reverse (map node_of (drop l.count l.nodes));
      within : l.count ≤ length l.nodes;
    }

abbrev pub decreases-loop-count : goal.decreases-loop-count
decreases-loop-count l = l.count
