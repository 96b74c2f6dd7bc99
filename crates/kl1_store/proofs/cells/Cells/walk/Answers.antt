use Rattle.std.proofs.Common.{sym, ap, ◌∙◌, arith, subst}
use Rattle.std.proofs.lemmas.Bool.{false≢true}
use Rattle.kl1_store.specs.declared.cell.Cell.{Cell}
use Rattle.kl1_store.specs.Held.{IsIn}
use Rattle.kl1_store.specs.Sound.{IsBoundTo}
use Rattle.kl1_store.specs.Meaning.{term_of}
use Rattle.kl1_store.proofs.Walking.{height, bound_at, found_itself, lower_height}
use Rattle.kl1_store.proofs.cells.Cells.walk.Goals as goal

-- the variable was bound to the next cell
bound : (g : _) (c : goal.Else-is_variable g) → IsBoundTo c.args.self.now.held c.in-Variable.variable c.slot-next.result
bound g c =
    let I : Cell g.row.N.Denot → Type 0 = λ x. IsIn c.args.self.now.held x in
    bound_at c.args.self.now.held c.in-Variable.variable c.slot-next.result c.slot-next.ensures.formed (subst I c.in-Variable.is c.loop-at.invariant.0) c.slot-next.ensures.found
    (λ e. absurd (false≢true (sym c.if-is_variable.false ∙ c.is_variable.ensures.1 e)))

pub returns-then-is_variable-clause-walked : goal.returns-then-is_variable-clause-walked
returns-then-is_variable-clause-walked g c = found_itself c.args.self.now.held c.in-Variable.variable c.slot-next.ensures.formed (sym c.slot-next.ensures.found ∙ c.is_variable.ensures.0 c.if-is_variable.true)

pub loop-at-smaller : goal.loop-at-smaller
loop-at-smaller g c = let e = ap height c.in-Variable.is in omega (arith, e, lower_height c.in-Variable.variable c.slot-next.result (bound g c).lower)

pub loop-at-preserved : goal.loop-at-preserved
loop-at-preserved g c = ((bound g c).inside, λ f. (bound g c).means f ∙ ap (term_of f c.args.self.now.held) (sym c.in-Variable.is) ∙ c.loop-at.invariant.1 f)
