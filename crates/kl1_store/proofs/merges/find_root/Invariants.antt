use Rattle.std.proofs.Common.{List}
use Rattle.kl1_store.specs.declared.merge.Merge.{Merge}
use Rattle.kl1_store.specs.Merged.{AreParents, FindsRoot}
use Rattle.kl1_store.proofs.merges.find_root.Given as goal

-- the structure so far is of the same class
abbrev pub invariant-loop-at : goal.invariant-loop-at
invariant-loop-at l = (ms : List Merge) → AreParents l.fn.parents.items ms → FindsRoot l.parents.items ms l.fn.structure l.at

abbrev pub decreases-loop-at : goal.decreases-loop-at
decreases-loop-at l = l.at
