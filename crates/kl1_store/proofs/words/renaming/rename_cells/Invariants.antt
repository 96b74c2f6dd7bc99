use Rattle.std.proofs.Common.{◌≡◌, length, vec_capacity}
use Rattle.kl1_store.specs.Renames.{cell_renamed, mapped_from}
use Rattle.kl1_store.proofs.words.renaming.rename_cells.Given as goal

-- what is left to be done makes of the cells what all makes of them as they were
abbrev pub invariant-loop-place : goal.invariant-loop-place
invariant-loop-place g l = record {
  count : length l.cells.items ≡ length l.fn.cells.items;
  items : mapped_from (cell_renamed (g.R.Renaming.becomes l.names)) l.place l.cells.items ≡ mapped_from (cell_renamed (g.R.Renaming.becomes l.names)) l.first l.fn.cells.items;
  capacity : vec_capacity l.cells ≡ vec_capacity l.fn.cells;
}
