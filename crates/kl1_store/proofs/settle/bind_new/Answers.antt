use Rattle.std.proofs.Common.{Bool, sym, subst}
use Rattle.kl1_store.specs.Held.{Held}
use Rattle.kl1_store.specs.Levels.{AreLevels, FindsAs}
use Rattle.kl1_store.proofs.Levelling.{levels-binding}
use Rattle.kl1_store.proofs.settle.bind_new.Goals as goal

pub returns-clause-levels : goal.returns-clause-levels
returns-clause-levels g c =
    let h = c.args.cells.now.held in
    let ls = c.occurs_in_term.new.levels in
    let F : Bool → Type 0 = λ b. FindsAs h ls c.args.variable c.args.value b in
    let P : Held g.row.N.Denot → Type 0 = λ k. AreLevels k ls in
    let found = subst F c.if-branch.false c.in_ok-occurs_in_term.ensures.found in
    subst P (sym c.in_ok-bind.ensures.ok) (levels-binding h c.args.variable c.args.value ls c.requires.can.unbound c.in_ok-occurs_in_term.ensures.levels found.1)
