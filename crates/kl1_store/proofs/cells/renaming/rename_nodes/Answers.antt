use Rattle.std.proofs.Common.{◌<◌, length, sym, ap, ◌∙◌, arith, length-set}
use Rattle.kl1_store.specs.declared.node.Node.{Node}
use Rattle.kl1_store.specs.Renames.{node_renamed}
use Rattle.kl1_store.proofs.Changed.{mapped_next, mapped_past}
use Rattle.kl1_store.proofs.cells.renaming.rename_nodes.Goals as goal

pub loop-place-preserved : goal.loop-place-preserved
loop-place-preserved g c =
    let l = c.loop-place in
    let n = c.index-node.result.now in
    let named : g.row.N.Denot → Node g.row.N.Denot = λ name. record { name = name; start = n.start; count = n.count } in
    let lt : l.place < length l.nodes.items = omega (arith, l.invariant.count, c.loop-place-test.true, l.nodes.ok.0) in
    record {
      count = length-set l.nodes.items l.place (named c.renamed.result) ∙ l.invariant.count;
      items = mapped_next (node_renamed (g.R.Renaming.becomes c.args.names.now)) l.place l.nodes.items n (named c.renamed.result) lt c.index-node.ensures (ap named c.renamed.ensures) ∙ l.invariant.items;
      capacity = l.invariant.capacity;
    }

pub returns-clause-items : goal.returns-clause-items
returns-clause-items g c =
    let l = c.loop-place in
    sym (mapped_past (node_renamed (g.R.Renaming.becomes c.args.names.now)) l.place l.nodes.items (omega (arith, l.invariant.count, c.loop-place-test.false, l.nodes.ok.0))) ∙ l.invariant.items
