use Rattle.std.proofs.Common.{rules, sym, ap, ◌∙◌, subst, FitsSigned, w64}
use mir.Val.{of_z, to_z}
use Rattle.std.proofs.lemmas.Int.{to_z-of_z}
use Rattle.kl1_model.specs.Term.{integer}
use Rattle.kl1_match.specs.AtOnce.{IsInteger}
use Rattle.kl1_clause.specs.declared.instruction.Instruction.{Instruction}
use Rattle.kl1_match.proofs.Cells.{at_integer}
use Rattle.kl1_match.proofs.TestForms.{placed_in}
use Rattle.kl1_match.proofs.at_once.integer_at.Goals as goal

pub walk-requires : goal.walk-requires
walk-requires g c = placed_in c.args.store.now.held c.args.places.now c.in-Variable.variable c.in-Some.cell c.requires (sym c.cell_of.ensures ∙ c.in-Some.is)

pub returns-in-Integer-walk : goal.returns-in-Integer-walk
returns-in-Integer-walk g c =
    let h = c.args.store.now.held in
    let fits : FitsSigned w64 c.in-Integer-walk.integer = search rules in
    let P : Instruction → Type 0 = λ k. IsInteger h c.args.places.now k (to_z w64 (of_z w64 c.in-Integer-walk.integer)) in
    subst P (sym c.in-Variable.is)
    (record {
      cell = c.in-Some.cell;
      placed = sym c.cell_of.ensures ∙ c.in-Some.is;
      means = λ f. sym (c.walk.ensures.means f) ∙ at_integer f h c.walk.result c.in-Integer-walk.integer c.in-Integer-walk.is ∙ ap integer (sym (to_z-of_z w64 c.in-Integer-walk.integer fits));
    })
