use Rattle.std.proofs.Common.{◌≡◌, ◌++◌, get_or}
use Rattle.kl1_shoen_paths.specs.Below.{children_from}
use Rattle.kl1_shoen_paths.proofs.children.ChildLists.add_children.Given as goal

-- those so far and those left are the children
abbrev pub invariant-loop-child : goal.invariant-loop-child
invariant-loop-child l = l.out.items ++ children_from l.self.next l.child ≡ l.fn.out.items ++ children_from l.self.next (get_or l.self.first l.number 0)

abbrev pub decreases-loop-child : goal.decreases-loop-child
decreases-loop-child l = l.child
