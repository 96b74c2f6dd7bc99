-- the depths on the stack are those of the nodes that were read
use Rattle.std.proofs.Common.{◌≡◌, ◌≤◌, map, drop, length}
use Rattle.kl1_term.specs.Nodes.{code_of}
use Rattle.kl1_term.specs.Depths.{depths_on, depths_in}
use Rattle.kl1_term.proofs.depths.find_depth.Given as goal

abbrev pub invariant-loop-at : goal.invariant-loop-at
invariant-loop-at l = record {
  within : l.at ≤ length l.nodes;
  depths : depths_on l.stack.items ≡ depths_in (map code_of (drop l.at l.nodes));
}

abbrev pub decreases-loop-at : goal.decreases-loop-at
decreases-loop-at l = l.at
