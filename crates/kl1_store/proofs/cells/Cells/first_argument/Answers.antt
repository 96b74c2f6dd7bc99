use Rattle.std.proofs.Common.{length, ap, arith}
use Rattle.kl1_store.specs.Held.{Stored}
use Rattle.kl1_store.proofs.Laid.{length-shapes_in}
use Rattle.kl1_store.proofs.Lists.{read_at}
use Rattle.kl1_store.proofs.Placing.{stand_from}
use Rattle.kl1_store.proofs.cells.Cells.first_argument.Goals as goal

pub index-requires : goal.index-requires
index-requires g c =
    let e = ap (λ (v : Stored g.row.N.Denot). length v.held.structures) c.self.view_is in
    omega (arith, e, length-shapes_in c.self.inside.arguments.cells c.self.inside.nodes.items, c.self.inside.nodes.ok.0)

pub returns : goal.returns
returns g c =
    let s = c.self.inside in
    let n = c.index.result.now in
    let e = ap (λ (v : Stored g.row.N.Denot). v.held) c.self.view_is in
    stand_from s.bindings.variables s.nodes.items s.arguments.cells s.bindings.bindings c.args.structure n c.args.self.now.held c.self.invariant e
    (read_at s.bindings.variables s.nodes.items s.arguments.cells s.bindings.bindings c.args.structure n c.args.self.now.held c.self.invariant e c.requires c.index.ensures)
