use Rattle.std.proofs.Common.{◌<◌, length, sym, ◌∙◌, arith, length-set}
use Rattle.kl1_store.specs.Renames.{cell_renamed}
use Rattle.kl1_store.proofs.Changed.{mapped_next, mapped_past}
use Rattle.kl1_store.proofs.words.renaming.rename_cells.Goals as goal

pub loop-place-preserved : goal.loop-place-preserved
loop-place-preserved g c =
    let l = c.loop-place in
    let lt : l.place < length l.cells.items = omega (arith, l.invariant.count, c.loop-place-test.true, l.cells.ok.0) in
    record {
      count = length-set l.cells.items l.place c.renamed_cell.result ∙ l.invariant.count;
      items = mapped_next (cell_renamed (g.R.Renaming.becomes c.args.names.now)) l.place l.cells.items c.index-cell.result.now c.renamed_cell.result lt c.index-cell.ensures c.renamed_cell.ensures ∙ l.invariant.items;
      capacity = l.invariant.capacity;
    }

pub returns-clause-items : goal.returns-clause-items
returns-clause-items g c =
    let l = c.loop-place in
    sym (mapped_past (cell_renamed (g.R.Renaming.becomes c.args.names.now)) l.place l.cells.items (omega (arith, l.invariant.count, c.loop-place-test.false, l.cells.ok.0))) ∙ l.invariant.items
