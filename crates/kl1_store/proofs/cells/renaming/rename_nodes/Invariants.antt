use Rattle.std.proofs.Common.{◌≡◌, length, vec_capacity}
use Rattle.kl1_store.specs.Renames.{node_renamed, mapped_from}
use Rattle.kl1_store.proofs.cells.renaming.rename_nodes.Given as goal

-- what is left to be done makes of the structures what all makes of them as they were
abbrev pub invariant-loop-place : goal.invariant-loop-place
invariant-loop-place g l = record {
  count : length l.nodes.items ≡ length l.fn.nodes.items;
  items : mapped_from (node_renamed (g.R.Renaming.becomes l.names)) l.place l.nodes.items ≡ mapped_from (node_renamed (g.R.Renaming.becomes l.names)) l.first l.fn.nodes.items;
  capacity : vec_capacity l.nodes ≡ vec_capacity l.fn.nodes;
}
