use Rattle.std.proofs.Common.{◌≡◌, List, ◌∷◌, ◌++◌, refl, ap, sym, subst, rules, ℤ}
use Rattle.kl1_store.specs.declared.cell.Cell.{Cell}
use Rattle.kl1_store.specs.Held.{Held}
use Rattle.kl1_match.specs.declared.span.Span.{Span}
use Rattle.kl1_match.specs.Spans.{span_cells, cells_behind, cells_left}
use mir.Val.{SFits}
use Rattle.std.proofs.lemmas.Int.{to_z-of_z}
use mir.Syntax.{w64}
use Rattle.kl1_clause.specs.declared.instruction.Instruction.{Instruction}
use Rattle.kl1_match.specs.Matching.{IntegerMeets, MeetsFirst}
use Rattle.kl1_match.specs.declared.met.Met.TheVariants.{Agrees}
use Rattle.kl1_match.proofs.Beside.{met_unbound, integer_meets, atom_meets, structure_meets}
use Rattle.kl1_match.proofs.Trying.{keeps_of}
use Rattle.kl1_match.proofs.meets.meet.Goals as goal

-- the first of the cells, and those after it
first_left : {N : Type 0} (h : Held N) (span after : Span) (behind : List Span) (x : Cell N) → span_cells h span ≡ x ∷ span_cells h after → cells_left h span behind ≡ x ∷ cells_left h after behind
first_left h span after behind x e = ap (λ l. l ++ cells_behind h behind) e

pub returns-in-Variable-clause-meets : goal.returns-in-Variable-clause-meets
returns-in-Variable-clause-meets g c =
    let h = c.args.store.now.held in
    let behind = c.args.behind.now.items in
    let P : Instruction → Type 0 = λ i. MeetsFirst g.N.NameValue.built h c.args.names.now i (keeps_of g.row.KEEP) (cells_left h c.args.span.now behind) (cells_left h c.take_place.new.span behind) c.args.places.now.items c.take_place.new.places.items Agrees in
    subst P (sym c.in-Variable.is) (c.take_place.ensures.takes c.args.names.now behind)

pub returns-in-Integer-clause-meets : goal.returns-in-Integer-clause-meets
returns-in-Integer-clause-meets g c =
    let h = c.args.store.now.held in
    let behind = c.args.behind.now.items in
    let x = c.take_cell-cell.result in
    let after = c.take_cell-cell.new.span in
    let rest = cells_left h after behind in
    let places = c.args.places.now.items in
    let P : Instruction → Type 0 = λ i. MeetsFirst g.N.NameValue.built h c.args.names.now i (keeps_of g.row.KEEP) (cells_left h c.args.span.now behind) rest places places c.meet_integer.result in
    let Q : ℤ → Type 0 = λ i. IntegerMeets g.N.NameValue.built h i c.walk.result c.meet_integer.result in
    let fits : SFits w64 c.in-Integer.integer = search rules in
    subst P (sym c.in-Integer.is) (record {
      first = x;
      rest = rest;
      cells_are = first_left h c.args.span.now after behind x c.take_cell-cell.ensures.cells;
      kept = λ k. refl;
      meets = λ ps there. integer_meets g.N.NameValue.built h c.args.names.now c.in-Integer.integer x c.walk.result rest ps c.meet_integer.result there c.walk.ensures.means
          (subst Q (to_z-of_z w64 c.in-Integer.integer fits) c.meet_integer.ensures.meets);
    })

pub returns-in-Atom-clause-meets : goal.returns-in-Atom-clause-meets
returns-in-Atom-clause-meets g c =
    let h = c.args.store.now.held in
    let behind = c.args.behind.now.items in
    let x = c.take_cell-cell-in-Atom.result in
    let after = c.take_cell-cell-in-Atom.new.span in
    let rest = cells_left h after behind in
    let places = c.args.places.now.items in
    let P : Instruction → Type 0 = λ i. MeetsFirst g.N.NameValue.built h c.args.names.now i (keeps_of g.row.KEEP) (cells_left h c.args.span.now behind) rest places places c.meet_atom.result in
    subst P (sym c.in-Atom.is) (record {
      first = x;
      rest = rest;
      cells_are = first_left h c.args.span.now after behind x c.take_cell-cell-in-Atom.ensures.cells;
      kept = λ k. refl;
      meets = λ ps there. atom_meets g.N.NameValue.built h c.args.names.now c.in-Atom.name c.name_at-name.result x c.walk-in-Atom.result rest ps c.meet_atom.result there c.name_at-name.ensures.reads c.walk-in-Atom.ensures.means c.meet_atom.ensures.meets;
    })

pub returns-in-Structure-clause-meets : goal.returns-in-Structure-clause-meets
returns-in-Structure-clause-meets g c =
    let h = c.args.store.now.held in
    let behind = c.args.behind.now.items in
    let x = c.take_cell-cell-in-Structure.result in
    let after = c.take_cell-cell-in-Structure.new.span in
    let rest = cells_left h after behind in
    let now = cells_left h c.meet_structure.new.span c.meet_structure.new.behind.items in
    let places = c.args.places.now.items in
    let P : Instruction → Type 0 = λ i. MeetsFirst g.N.NameValue.built h c.args.names.now i (keeps_of g.row.KEEP) (cells_left h c.args.span.now behind) now places places c.meet_structure.result in
    subst P (sym c.in-Structure.is) (record {
      first = x;
      rest = rest;
      cells_are = first_left h c.args.span.now after behind x c.take_cell-cell-in-Structure.ensures.cells;
      kept = λ k. refl;
      meets = λ ps there. structure_meets g.N.NameValue.built h c.args.names.now c.in-Structure.name c.in-Structure.count c.name_at-name-in-Structure.result x c.walk-in-Structure.result rest now ps c.meet_structure.result
          there c.name_at-name-in-Structure.ensures.reads c.walk-in-Structure.ensures.means c.meet_structure.ensures.meets;
    })

pub returns-in-Integer-clause-unbound : goal.returns-in-Integer-clause-unbound
returns-in-Integer-clause-unbound g c = met_unbound c.args.store.now.held c.walk.result c.meet_integer.result c.walk.ensures.inside c.walk.ensures.walked c.meet_integer.ensures.waits

pub returns-in-Atom-clause-unbound : goal.returns-in-Atom-clause-unbound
returns-in-Atom-clause-unbound g c = met_unbound c.args.store.now.held c.walk-in-Atom.result c.meet_atom.result c.walk-in-Atom.ensures.inside c.walk-in-Atom.ensures.walked c.meet_atom.ensures.waits

pub returns-in-Structure-clause-unbound : goal.returns-in-Structure-clause-unbound
returns-in-Structure-clause-unbound g c = met_unbound c.args.store.now.held c.walk-in-Structure.result c.meet_structure.result c.walk-in-Structure.ensures.inside c.walk-in-Structure.ensures.walked c.meet_structure.ensures.waits
