use Rattle.std.proofs.Common.{◌≤◌, false, sym, arith, subst}
use Rattle.std.proofs.lemmas.Bool.{leb-true}
use Rattle.kl1_store.specs.declared.cell.Cell.{Cell}
use Rattle.kl1_store.specs.Held.{IsWalked}
use Rattle.kl1_store.specs.Levels.{level_at, FindsAs}
use Rattle.kl1_store.proofs.Freeing.{plain_apart, integer_apart, atom_apart}
use Rattle.kl1_store.proofs.apart.is_apart.Goals as goal

pub returns-then-is_plain : goal.returns-then-is_plain
returns-then-is_plain g c = λ t.
    let h = c.args.cells.now.held in
    let ls = c.args.levels.now in
    let P : Cell g.row.N.Denot → Type 0 = λ x. FindsAs h ls c.args.variable x false in
    let W : Cell g.row.N.Denot → Type 0 = λ x. IsWalked h x in
    let le = leb-true c.level_of.result c.level_of-then-is_plain.result t in
    let below : level_at ls.variables.items c.args.variable ≤ level_at ls.variables.items c.in-Variable.other = omega (arith, le, c.level_of.ensures, c.level_of-then-is_plain.ensures) in
    subst P (sym c.in-Variable.is) (plain_apart h ls c.args.variable c.in-Variable.other (subst W c.in-Variable.is c.requires.walked) (c.is_plain.ensures c.if-is_plain.true) below)

pub returns-in-Integer : goal.returns-in-Integer
returns-in-Integer g c = λ t.
    let P : Cell g.row.N.Denot → Type 0 = λ x. FindsAs c.args.cells.now.held c.args.levels.now c.args.variable x false in
    subst P (sym c.in-Integer.is) (integer_apart c.args.cells.now.held c.args.levels.now c.args.variable _)

pub returns-in-Atom : goal.returns-in-Atom
returns-in-Atom g c = λ t.
    let P : Cell g.row.N.Denot → Type 0 = λ x. FindsAs c.args.cells.now.held c.args.levels.now c.args.variable x false in
    subst P (sym c.in-Atom.is) (atom_apart c.args.cells.now.held c.args.levels.now c.args.variable _)
