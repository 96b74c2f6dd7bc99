use Rattle.std.proofs.Common.{sym, ap, ◌∙◌, subst}
use mir.Val.{of_z}
use mir.Syntax.{w64}
use Rattle.std.proofs.lemmas.Bool.{false≢true}
use Rattle.kl1_store.specs.declared.cell.Cell.{Cell}
use Rattle.kl1_store.specs.declared.cell.Cell.TheVariants.{Integer, Atom}
use Rattle.kl1_store.specs.declared.meeting.Meeting.TheVariants.{Clash}
use Rattle.kl1_store.specs.Meets.{MeetsAs}
use Rattle.kl1_store.proofs.Meetings.{kind, kinds_clash, not_integer, not_atom, not_structure, integers_clash, atoms_clash, takes_left_at, takes_right_at}
use Rattle.kl1_store.proofs.meets.meet.Goals as goal

pub returns-in-None : goal.returns-in-None
returns-in-None g c =
    let r = c.requires in
    takes_left_at c.args.cells.now.held c.args.left c.args.right c.in-Some.variable c.in-Some.ensures r.formed r.left_in r.left_walked r.right_in c.in-None.ensures

pub returns-in-Some-variable-2 : goal.returns-in-Some-variable-2
returns-in-Some-variable-2 g c =
    let r = c.requires in
    takes_right_at c.args.cells.now.held c.args.left c.args.right c.in-Some-variable-2.variable c.in-Some-variable-2.ensures r.formed r.right_in r.right_walked r.left_in c.in_default.ensures

pub returns-else-integer-other : goal.returns-else-integer-other
returns-else-integer-other g c =
    let P : Cell g.row.N.Denot → Type 0 = λ x. MeetsAs g.N.NameValue.built c.args.cells.now.held x c.args.right Clash in
    let Q : Cell g.row.N.Denot → Type 0 = λ x. MeetsAs g.N.NameValue.built c.args.cells.now.held (Integer c.in-Integer.integer) x Clash in
    subst P (sym c.in-Integer.is) (subst Q (sym c.in-Integer-right.is) (integers_clash g.N.NameValue.built c.args.cells.now.held c.in-Integer.integer c.in-Integer-right.other (λ e. c.if-integer-other.false (ap (of_z w64) e))))

pub returns-in_default-right : goal.returns-in_default-right
returns-in_default-right g c =
    let r = c.requires in
    kinds_clash g.N.NameValue.built c.args.cells.now.held c.args.left c.args.right r.formed r.left_in r.right_in c.in_default.ensures c.in_default-variable.ensures
    (λ e. not_integer c.in-Integer.integer c.args.right c.in_default-right.not-Integer (sym (ap kind c.in-Integer.is) ∙ e))

pub returns-else-same : goal.returns-else-same
returns-else-same g c =
    let P : Cell g.row.N.Denot → Type 0 = λ x. MeetsAs g.N.NameValue.built c.args.cells.now.held x c.args.right Clash in
    let Q : Cell g.row.N.Denot → Type 0 = λ x. MeetsAs g.N.NameValue.built c.args.cells.now.held (Atom c.in-Atom.name) x Clash in
    subst P (sym c.in-Atom.is) (subst Q (sym c.in-Atom-right.is) (atoms_clash g.N.NameValue.built c.args.cells.now.held c.in-Atom.name c.in-Atom-right.other (λ e. false≢true (sym c.if-same.false ∙ c.same.ensures.1 e))))

pub returns-in_default-right-2 : goal.returns-in_default-right-2
returns-in_default-right-2 g c =
    let r = c.requires in
    kinds_clash g.N.NameValue.built c.args.cells.now.held c.args.left c.args.right r.formed r.left_in r.right_in c.in_default.ensures c.in_default-variable.ensures
    (λ e. not_atom c.in-Atom.name c.args.right c.in_default-right-2.not-Atom (sym (ap kind c.in-Atom.is) ∙ e))

pub returns-in_default-right-3 : goal.returns-in_default-right-3
returns-in_default-right-3 g c =
    let r = c.requires in
    kinds_clash g.N.NameValue.built c.args.cells.now.held c.args.left c.args.right r.formed r.left_in r.right_in c.in_default.ensures c.in_default-variable.ensures
    (λ e. not_structure c.in-Structure.structure c.args.right c.in_default-right-3.not-Structure (sym (ap kind c.in-Structure.is) ∙ e))
