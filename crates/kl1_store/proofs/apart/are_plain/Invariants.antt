use Rattle.std.proofs.Common.{◌≡◌, ◌-◌, length}
use Rattle.kl1_store.specs.Held.{arguments_of}
use Rattle.kl1_store.specs.Apart.{AreFree}
use Rattle.kl1_store.proofs.apart.are_plain.Given as goal

-- the variable is in none of the arguments so far
abbrev pub invariant-loop-index : goal.invariant-loop-index
invariant-loop-index g l = record {
  free : AreFree l.cells.held l.variable (arguments_of l.cells.held l.structure) l.index;
  count : l.count ≡ length (arguments_of l.cells.held l.structure);
}

abbrev pub decreases-loop-index : goal.decreases-loop-index
decreases-loop-index g l = l.count - l.index
