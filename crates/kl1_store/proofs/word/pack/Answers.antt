use Rattle.std.proofs.Common.{◌+◌, ◌*◌, ℤ, w64, sym, subst, rules, arith}
use Rattle.std.proofs.lemmas.Int.{to_z-of_z}
use mir.Val.{SFits}
use Rattle.kl1_store.specs.declared.cell.Cell.{Cell}
use Rattle.kl1_store.specs.Words.{Packs, IsWordOf}
use Rattle.kl1_store.proofs.Packing.{packs_variable, packs_structure, packs_small}
use Rattle.kl1_store.proofs.word.pack.Goals as goal

pub returns-then-integer-lt-HALF-clause-packs : goal.returns-then-integer-lt-HALF-clause-packs
returns-then-integer-lt-HALF-clause-packs g c =
    let P : Cell g.row.N.Denot → Type 0 = λ x. Packs c.args.wide.now.items c.args.wide.now.items x c.small.result in
    let f : SFits w64 c.in-Integer.integer = search rules in
    let Q : ℤ → Type 0 = λ z. IsWordOf z c.small.result in
    subst P (sym c.in-Integer.is) (packs_small c.args.wide.now.items c.in-Integer.integer c.small.result (subst Q (to_z-of_z w64 c.in-Integer.integer f) c.small.ensures))

pub returns-in-Variable-clause-packs : goal.returns-in-Variable-clause-packs
returns-in-Variable-clause-packs g c =
    let P : Cell g.row.N.Denot → Type 0 = λ x. Packs c.args.wide.now.items c.args.wide.now.items x (4 * c.in-Variable.variable) in
    subst P (sym c.in-Variable.is) (packs_variable c.args.wide.now.items c.in-Variable.variable (omega arith))

pub returns-in-Structure-clause-packs : goal.returns-in-Structure-clause-packs
returns-in-Structure-clause-packs g c =
    let P : Cell g.row.N.Denot → Type 0 = λ x. Packs c.args.wide.now.items c.args.wide.now.items x (4 * c.in-Structure.structure + 1) in
    subst P (sym c.in-Structure.is) (packs_structure c.args.wide.now.items c.in-Structure.structure (omega arith))
