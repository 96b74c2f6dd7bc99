use Rattle.std.proofs.Common.{length, ap, arith}
use Rattle.kl1_store.specs.Held.{Stored}
use Rattle.kl1_store.proofs.Laid.{length-shapes_in}
use Rattle.kl1_store.proofs.Lists.{read_at, argument_read}
use Rattle.kl1_store.proofs.cells.Cells.argument.Goals as goal

pub index-node-requires : goal.index-node-requires
index-node-requires g c =
    let e = ap (λ (v : Stored g.row.N.Denot). length v.held.structures) c.self.view_is in
    omega (arith, e, length-shapes_in c.self.inside.arguments.cells c.self.inside.nodes.items, c.self.inside.nodes.ok.0)

pub overflow_cast-node : goal.overflow_cast-node
overflow_cast-node g c =
    let s = c.self.inside in
    let e = ap (λ (v : Stored g.row.N.Denot). v.held) c.self.view_is in
    let read = read_at s.bindings.variables s.nodes.items s.arguments.cells s.bindings.bindings c.args.structure c.index-node.result.now c.args.self.now.held c.self.invariant e c.requires.structure c.index-node.ensures in
    omega (arith, read.fits, c.self.invariant.arguments_fit)

pub overflow_add-node : goal.overflow_add-node
overflow_add-node g c =
    let s = c.self.inside in
    let e = ap (λ (v : Stored g.row.N.Denot). v.held) c.self.view_is in
    let read = read_at s.bindings.variables s.nodes.items s.arguments.cells s.bindings.bindings c.args.structure c.index-node.result.now c.args.self.now.held c.self.invariant e c.requires.structure c.index-node.ensures in
    omega (arith, read.fits, read.count, c.self.invariant.arguments_fit)

pub get-requires : goal.get-requires
get-requires g c =
    let s = c.self.inside in
    let e = ap (λ (v : Stored g.row.N.Denot). v.held) c.self.view_is in
    let read = read_at s.bindings.variables s.nodes.items s.arguments.cells s.bindings.bindings c.args.structure c.index-node.result.now c.args.self.now.held c.self.invariant e c.requires.structure c.index-node.ensures in
    omega (arith, read.fits, read.count)

pub returns-clause-is : goal.returns-clause-is
returns-clause-is g c =
    let s = c.self.inside in
    let e = ap (λ (v : Stored g.row.N.Denot). v.held) c.self.view_is in
    let read = read_at s.bindings.variables s.nodes.items s.arguments.cells s.bindings.bindings c.args.structure c.index-node.result.now c.args.self.now.held c.self.invariant e c.requires.structure c.index-node.ensures in
    argument_read c.args.self.now.held s.arguments.cells c.args.structure c.args.index c.index-node.result.now c.get.result read c.requires.index c.get.ensures
