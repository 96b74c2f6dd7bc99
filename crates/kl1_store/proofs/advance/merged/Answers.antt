use Rattle.std.proofs.Common.{sym, ap, ◌∙◌, arith, subst}
use Rattle.kl1_store.specs.declared.cell.Cell.{Cell}
use Rattle.kl1_store.specs.Held.{IsIn}
use Rattle.kl1_store.specs.Meaning.{term_of}
use Rattle.kl1_store.specs.Nested.{structure_term}
use Rattle.kl1_store.proofs.advance.merged.Goals as goal

pub returns-in-Structure-clause-inside : goal.returns-in-Structure-clause-inside
returns-in-Structure-clause-inside g c =
    let I : Cell g.row.N.Denot → Type 0 = λ x. IsIn c.args.cells.now.held x in
    let inside = subst I c.in-Structure.is c.requires.inside in
    omega (arith, inside, c.root.ensures.lower)

pub returns-in-Structure-clause-means : goal.returns-in-Structure-clause-means
returns-in-Structure-clause-means g c = λ f.
    let h = c.args.cells.now.held in
    c.root.ensures.same (structure_term f h) (c.requires.merged f) ∙ sym (ap (term_of f h) c.in-Structure.is)
