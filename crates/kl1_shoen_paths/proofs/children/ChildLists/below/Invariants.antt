use Rattle.std.proofs.Common.{◌-◌, length}
use Rattle.kl1_shoen_paths.specs.Paths.{parents_in}
use Rattle.kl1_shoen_paths.proofs.Below.{Closes}
use Rattle.kl1_shoen_paths.proofs.children.ChildLists.below.Given as goal

-- those so far have their children in the list
abbrev pub invariant-loop-index : goal.invariant-loop-index
invariant-loop-index g l = Closes (parents_in l.shoens) l.number l.out.items l.index

abbrev pub decreases-loop-index : goal.decreases-loop-index
decreases-loop-index g l = length l.shoens - l.index
