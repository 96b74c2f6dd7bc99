use Rattle.std.proofs.Common.{◌≡◌, []}
use Rattle.kl1_model.specs.Unify.{mgu}
use Rattle.kl1_store.specs.Waiting.{waiting, ArePairs}
use Rattle.kl1_store.specs.Nested.{IsNested}
use Rattle.kl1_store.specs.Merged.{AreMerged}
use Rattle.kl1_store.specs.Unifies.{ForEachReading}
use Rattle.kl1_store.proofs.Advancing.{work}
use Rattle.kl1_store.proofs.advance.advance.Given as goal

-- what is left comes to what there was
abbrev pub invariant-loop-frame : goal.invariant-loop-frame
invariant-loop-frame g l = record {
  nested : IsNested l.cells.held l.frames.items;
  merged : AreMerged l.cells.held l.merges;
  pairs : ArePairs l.cells.held l.frames.items;
  same : ForEachReading g.N.NameValue.built (λ f. mgu (waiting f l.cells.held [] l.fn.frames.items) ≡ mgu (waiting f l.cells.held [] l.frames.items));
}

abbrev pub decreases-loop-frame : goal.decreases-loop-frame
decreases-loop-frame g l = work l.cells.held l.frames.items
