use Rattle.std.proofs.Common.{sym, ◌∙◌}
use Rattle.kl1_clause.specs.declared.instruction.Instruction.TheVariants.{Atom, Structure}
use Rattle.kl1_match.specs.TestTerms.{tests_of}
use Rattle.kl1_match.proofs.TestForms.{cell_form, placed_form, placed_cell, own_form, own_free, row_name, structure_form}
use Rattle.kl1_match.proofs.test_view.TestViewView.form_of.Goals as goal

pub returns-in-Cell-clause-means : goal.returns-in-Cell-clause-means
returns-in-Cell-clause-means g c = λ f.
    let t = tests_of c.args.self.now in
    cell_form g.N.NameValue.built f t c.args.at c.in-Cell.cell c.form_of.result c.moved.result c.in-Cell.is c.moved.ensures (c.form_of.ensures.means f)

pub form_of-requires-in-Some : goal.form_of-requires-in-Some
form_of-requires-in-Some g c =
    let t = tests_of c.args.self.now in
    placed_cell t c.args.at c.in-Row.place c.in-Variable.variable c.in-Some.cell c.in-Row.is c.requires (sym c.in-Some.ensures)

pub returns-in-Some-clause-means : goal.returns-in-Some-clause-means
returns-in-Some-clause-means g c = λ f.
    let t = tests_of c.args.self.now in
    placed_form g.N.NameValue.built f t c.args.at c.in-Row.place c.in-Variable.variable c.in-Some.cell c.form_of-in-Some.result c.moved-in-Some.result c.in-Row.is (sym c.instruction_at.ensures ∙ c.in-Variable.is) (sym c.in-Some.ensures) c.moved-in-Some.ensures (c.form_of-in-Some.ensures.means f)

pub returns-in-None-clause-means : goal.returns-in-None-clause-means
returns-in-None-clause-means g c = λ f.
    let t = tests_of c.args.self.now in
    own_form g.N.NameValue.built f t c.args.at c.in-Row.place c.in-Variable.variable c.in-Row.is (sym c.instruction_at.ensures ∙ c.in-Variable.is) (sym c.in-None.ensures)

pub returns-in-None-clause-inside : goal.returns-in-None-clause-inside
returns-in-None-clause-inside g c = own_free (tests_of c.args.self.now) c.in-Row.place c.in-Variable.variable (sym c.instruction_at.ensures ∙ c.in-Variable.is)

pub name_at-requires : goal.name_at-requires
name_at-requires g c = row_name (tests_of c.args.self.now) c.args.at c.in-Row.place (Atom c.in-Atom.name) c.in-Row.is c.requires (sym c.instruction_at.ensures ∙ c.in-Atom.is)

pub name_at-requires-in-Structure : goal.name_at-requires-in-Structure
name_at-requires-in-Structure g c = row_name (tests_of c.args.self.now) c.args.at c.in-Row.place (Structure c.in-Structure.name c.in-Structure.count) c.in-Row.is c.requires (sym c.instruction_at.ensures ∙ c.in-Structure.is)

pub returns-in-Structure-clause-means : goal.returns-in-Structure-clause-means
returns-in-Structure-clause-means g c = λ f.
    let t = tests_of c.args.self.now in
    structure_form g.N.NameValue.built f t c.args.at c.in-Row.place c.in-Structure.name c.in-Structure.count c.name_at-in-Structure.result c.in-Row.is (sym c.instruction_at.ensures ∙ c.in-Structure.is) c.name_at-in-Structure.ensures.is
