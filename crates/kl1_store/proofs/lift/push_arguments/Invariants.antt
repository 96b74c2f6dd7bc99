use Rattle.std.proofs.Common.{◌≡◌, ◌++◌, take, length}
use Rattle.kl1_store.specs.Held.{arguments_of}
use Rattle.kl1_store.specs.Tasks.{tasks_of}
use Rattle.kl1_store.proofs.lift.push_arguments.Given as goal

-- the arguments so far are on the list
abbrev pub invariant-loop-index : goal.invariant-loop-index
invariant-loop-index g l = record {
  items : l.tasks.items ≡ l.fn.tasks.items ++ tasks_of l.level (take l.index (arguments_of l.cells.held l.structure));
  count : l.count ≡ length (arguments_of l.cells.held l.structure);
}
