-- the structures counted so far are no more than the nodes so far, and with those that are left they are all
use Rattle.std.proofs.Common.{◌≡◌, ◌≤◌, ◌+◌, map, drop}
use Rattle.kl1_term.specs.Nodes.{code_of}
use Rattle.kl1_clause.specs.NodeCounts.{structures_counted}
use Rattle.kl1_clause.proofs.node_count.structures_counted.Given as goal

abbrev pub invariant-loop-node : goal.invariant-loop-node
invariant-loop-node l =
    record {
      all : l.count + structures_counted (map code_of (drop l.node-index l.nodes)) ≡ structures_counted (map code_of l.nodes);
      few : l.count ≤ l.node-index;
    }
