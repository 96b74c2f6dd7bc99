use Rattle.kl1_store.specs.Tasks.{load}
use Rattle.kl1_store.proofs.Lifting.{IsLifting}
use Rattle.kl1_store.proofs.lift.lift.Given as goal

-- what was lifted so far, and what waits
abbrev pub invariant-loop-task : goal.invariant-loop-task
invariant-loop-task g l = IsLifting l.cells.held l.fn.cell l.fn.level l.fn.levels l.levels l.tasks.items

abbrev pub decreases-loop-task : goal.decreases-loop-task
decreases-loop-task g l = load l.cells.held l.tasks.items
