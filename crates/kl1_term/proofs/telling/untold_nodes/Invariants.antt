-- the nodes so far, and those that are left with their variables untold, are all with them untold; there is room
use Rattle.std.proofs.Common.{◌≡◌, ◌+◌, ◌≤◌, ◌++◌, map, length, vec_len, vec_capacity}
use Rattle.kl1_term.specs.Nodes.{code_of}
use Rattle.kl1_term.specs.Telling.{untold_number, renumbered_in}
use Rattle.kl1_term.proofs.telling.untold_nodes.Given as goal

abbrev pub invariant-loop-left : goal.invariant-loop-left
invariant-loop-left l = record {
  same : map code_of l.out.items ++ renumbered_in untold_number (map code_of l.left) ≡ renumbered_in untold_number (map code_of l.nodes);
  room : vec_len l.out + length l.left ≤ vec_capacity l.out;
}

abbrev pub decreases-loop-left : goal.decreases-loop-left
decreases-loop-left l = length l.left
