use Rattle.std.proofs.Common.{◌≡◌, ◌^◌, get_or}
use Rattle.kl1_queue.specs.Trees.{Leads}
use Rattle.kl1_queue.proofs.tree.first_leaf.Given as goal

-- of the level that was reached, it is the first node that holds what the top holds
abbrev pub invariant-loop : goal.invariant-loop
invariant-loop l = record {
  top : l.top ≡ get_or l.best.items 1 0;
  leads : Leads l.best.items (2 ^ l.counter) l.node;
}
