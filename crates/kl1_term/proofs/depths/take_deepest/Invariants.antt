-- the greatest of the depths so far and of those left is that of all
use Rattle.std.proofs.Common.{◌≡◌, max}
use Rattle.kl1_term.specs.Depths.{depths_on, deepest_of, depths_behind}
use Rattle.kl1_term.proofs.depths.take_deepest.Given as goal

abbrev pub invariant-loop-left : goal.invariant-loop-left
invariant-loop-left l = record {
  deepest : max l.deepest (deepest_of l.left (depths_on l.stack.items)) ≡ deepest_of l.count (depths_on l.initial.stack.items);
  others : depths_behind l.left (depths_on l.stack.items) ≡ depths_behind l.count (depths_on l.initial.stack.items);
}

abbrev pub decreases-loop-left : goal.decreases-loop-left
decreases-loop-left l = l.left
