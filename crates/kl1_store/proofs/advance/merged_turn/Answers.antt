use Rattle.std.proofs.Common.{List, sym, subst}
use Rattle.kl1_store.specs.declared.merge.Merge.{Merge}
use Rattle.kl1_store.specs.Merged.{AreMerged}
use Rattle.kl1_store.proofs.advance.merged_turn.Goals as goal

pub merged-requires-2-clause-merged : goal.merged-requires-2-clause-merged
merged-requires-2-clause-merged g c = let M : List Merge → Type 0 = λ l. AreMerged c.args.cells.now.held l in subst M (sym c.merged.ensures.merges) c.requires.merged
