use Rattle.std.proofs.Common.{length, ap, arith}
use Rattle.kl1_store.specs.Held.{Stored}
use Rattle.kl1_store.proofs.Placing.{all_are, argument_there, argument_inside}
use Rattle.kl1_store.proofs.cells.Cells.argument_at.Goals as goal

pub get-requires : goal.get-requires
get-requires g c =
    let s = c.self.inside in
    let e = ap (λ (v : Stored g.row.N.Denot). v.held) c.self.view_is in
    omega (arith, c.requires, ap length (all_are s.bindings.variables s.nodes.items s.arguments.cells s.bindings.bindings c.args.self.now.held c.self.invariant e))

pub returns-clause-is : goal.returns-clause-is
returns-clause-is g c =
    let s = c.self.inside in
    let e = ap (λ (v : Stored g.row.N.Denot). v.held) c.self.view_is in
    argument_there c.args.self.now.held s.arguments.cells c.args.place c.get.result
    (all_are s.bindings.variables s.nodes.items s.arguments.cells s.bindings.bindings c.args.self.now.held c.self.invariant e) c.requires c.get.ensures

pub returns-clause-inside : goal.returns-clause-inside
returns-clause-inside g c =
    let s = c.self.inside in
    let e = ap (λ (v : Stored g.row.N.Denot). v.held) c.self.view_is in
    argument_inside c.args.self.now.held s.bindings.variables s.nodes.items s.arguments.cells s.bindings.bindings c.args.place c.get.result c.self.invariant e c.requires c.get.ensures
