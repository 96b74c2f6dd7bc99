use Rattle.std.proofs.Common.{◌≡◌, ◌<◌, length, sym, ap, arith, subst}
use Rattle.std.proofs.lemmas.Bool.{ltb-true, lt-ltb}
use Rattle.kl1_store.specs.declared.cell.Cell.{Cell}
use Rattle.kl1_store.specs.Held.{Stored, IsIn}
use Rattle.kl1_store.proofs.Laid.{length-shapes_in}
use Rattle.kl1_store.proofs.cells.Cells.holds.Goals as goal

pub returns-in-Structure : goal.returns-in-Structure
returns-in-Structure g c =
    let s = c.self.inside in
    let n = c.in-Structure.structure in
    let most = c.len-structures.result in
    let e = ap (λ (v : Stored g.row.N.Denot). length v.held.structures) c.self.view_is in
    let there : most ≡ length c.args.self.now.held.structures = omega (arith, e, length-shapes_in s.arguments.cells s.nodes.items, s.nodes.ok.0, c.len-structures.ensures) in
    let P : Cell g.row.N.Denot → Type 0 = λ x. IsIn c.args.self.now.held x in (
      λ t. let lt : n < most = ltb-true n most t in subst P (sym c.in-Structure.is) (omega (arith, lt, there)),
      λ i. let lt : n < length c.args.self.now.held.structures = subst P c.in-Structure.is i in lt-ltb n most (omega (arith, lt, there)),
    )
