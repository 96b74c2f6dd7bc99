use Rattle.kl1_store.specs.Nested.{IsNested}
use Rattle.kl1_store.specs.Merged.{AreMerged}
use Rattle.kl1_store.specs.Levels.{AreLevels}
use Rattle.kl1_store.specs.Spending.{SpendsOnBindings}
use Rattle.kl1_store.proofs.Settling.{Settling, unbound_below}
use Rattle.kl1_store.proofs.settle.settle.Given as goal

-- the replacements so far, and the solution of what waits, are the solution of all
abbrev pub invariant-loop-variable : goal.invariant-loop-variable
invariant-loop-variable g l = record {
  nested : IsNested l.cells.held l.frames.items;
  merged : AreMerged l.cells.held l.merges;
  settling : Settling g.N.NameValue.built l.fn.cells.held l.cells.held l.fn.frames.items l.frames.items;
  levels : AreLevels l.cells.held l.levels;
  spends : SpendsOnBindings l.fn.cells.held l.fn.cells.room l.cells.held l.cells.room;
}

abbrev pub decreases-loop-variable : goal.decreases-loop-variable
decreases-loop-variable g l = unbound_below l.cells.held.variables l.cells.held.bindings
