use Rattle.std.proofs.Common.{length, ap, arith}
use Rattle.kl1_store.specs.Held.{Stored}
use Rattle.kl1_store.proofs.Laid.{length-shapes_in}
use Rattle.kl1_store.proofs.Lists.{ReadAt, read_at}
use Rattle.kl1_store.proofs.cells.Cells.head.Goals as goal

pub index-node-requires : goal.index-node-requires
index-node-requires g c =
    let e = ap (λ (v : Stored g.row.N.Denot). length v.held.structures) c.self.view_is in
    omega (arith, e, length-shapes_in c.self.inside.arguments.cells c.self.inside.nodes.items, c.self.inside.nodes.ok.0)

read : (g : _) (c : goal.After-node-1 g) → ReadAt c.args.self.now.held c.self.inside.arguments.cells c.args.structure c.index-node.result.now
read g c =
    let s = c.self.inside in
    let e = ap (λ (v : Stored g.row.N.Denot). v.held) c.self.view_is in
    read_at s.bindings.variables s.nodes.items s.arguments.cells s.bindings.bindings c.args.structure c.index-node.result.now c.args.self.now.held c.self.invariant e c.requires c.index-node.ensures

pub returns-clause-name : goal.returns-clause-name
returns-clause-name g c = (read g c).name

pub returns-clause-count : goal.returns-clause-count
returns-clause-count g c = (read g c).count
