use Rattle.std.proofs.Common.{rules, sym, subst, ap, ◌∙◌, FitsSigned, w64}
use Rattle.std.specs.Prelude.{Option, Some}
use Rattle.std.proofs.lemmas.Int.{to_z-of_z}
use Rattle.kl1_model.specs.Reduction.{unifies}
use Rattle.kl1_store.specs.declared.cell.Cell.TheVariants.{Integer}
use Rattle.kl1_store.specs.Meaning.{term_of}
use Rattle.kl1_store.specs.InModules.{qualified_term}
use Rattle.kl1_goals_moves.specs.declared.moves.Move.{Move}
use Rattle.kl1_goals_moves.specs.Moves.{MovesAs}
use Rattle.kl1_goals_moves.proofs.JudgedMoves.{fails_judged, becomes_judged, names_judged}
use Rattle.kl1_goals_moves.proofs.judged.move_as_judged.Goals as goal

pub returns-in-Fails-clause-moves : goal.returns-in-Fails-clause-moves
returns-in-Fails-clause-moves g c = λ f r no d modules n k j p places. fails_judged c.args.rules modules (qualified_term f c.args.store.now.held c.args.goal) c.args.standing n c.in-Fails.is d k j

pub returns-in_ok-left-in-Becomes-clause-moves : goal.returns-in_ok-left-in-Becomes-clause-moves
returns-in_ok-left-in-Becomes-clause-moves g c = λ f r no d modules n k j p places.
    let h = c.args.store.now.held in
    let fits : FitsSigned w64 c.in-Becomes.value = search rules in
    becomes_judged f h c.args.rules modules c.args.goal c.in_ok-left-in-Becomes.left _ c.args.standing c.in-Becomes.value n c.in-Becomes.is (c.in_ok-left-in-Becomes.ensures.two f) d k
    ∙ ap (λ i. Some (unifies (term_of f h c.in_ok-left-in-Becomes.left) (term_of f h (Integer i)))) (sym (to_z-of_z w64 c.in-Becomes.value fits))

pub returns-in_ok-list-in-Names-clause-moves : goal.returns-in_ok-list-in-Names-clause-moves
returns-in_ok-list-in-Names-clause-moves g c = λ f r no d modules n k j p places.
    let h = c.args.store.now.held in
    let t = c.spell.new.text in
    let M : Option (Move g.row.N.Denot) → Type 0 = λ o. MovesAs f h c.args.rules modules (qualified_term f h c.args.goal) n p places t o in
    subst M (sym c.naming.ensures) (names_judged f h c.args.rules modules c.args.goal c.in_ok-list-in-Names.list c.in_ok-list-in-Names.target c.args.standing c.spell.result t n c.in-Names.is (c.in_ok-list-in-Names.ensures.two f) (c.spell.ensures.spelling f r) d k p places)
