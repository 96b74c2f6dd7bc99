use Rattle.std.proofs.Common.{[], ◌∷◌, sym, refl, ◌∙◌}
use Rattle.kl1_model.specs.Term.{variable, integer}
use Rattle.kl1_store.specs.Meaning.{term_of}
use Rattle.kl1_match.proofs.Cells.{at_variable, at_integer}
use Rattle.kl1_goals_moves.proofs.Callees.{of_atom, of_structure, nameless}
use Rattle.kl1_goals_moves.proofs.calling.called_in.Goals as goal

pub returns-in-Variable-clause-called : goal.returns-in-Variable-clause-called
returns-in-Variable-clause-called g c = λ f.
    nameless (term_of f c.args.store.now.held c.args.goal) (variable c.in-Variable.variable) (c.in-Variable.variable ∷ [])
    (sym (c.walk.ensures.means f) ∙ at_variable f c.args.store.now.held c.walk.result c.in-Variable.variable c.in-Variable.is c.walk.ensures.walked) refl (λ m. refl)

pub returns-in-Integer-clause-called : goal.returns-in-Integer-clause-called
returns-in-Integer-clause-called g c = λ f.
    nameless (term_of f c.args.store.now.held c.args.goal) (integer c.in-Integer.field-0) [] (sym (c.walk.ensures.means f) ∙ at_integer f c.args.store.now.held c.walk.result c.in-Integer.field-0 c.in-Integer.is) refl (λ m. refl)

pub returns-in-Atom-clause-called : goal.returns-in-Atom-clause-called
returns-in-Atom-clause-called g c = λ f. record { module_is = refl; goal_is = of_atom f c.args.store.now.held c.args.goal c.walk.result c.args.module_name c.in-Atom.name c.in-Atom.is (c.walk.ensures.means f) }

pub returns-in-Structure-clause-called : goal.returns-in-Structure-clause-called
returns-in-Structure-clause-called g c = λ f. record {
  module_is = refl;
  goal_is = of_structure f c.args.store.now.held c.args.goal c.walk.result c.in-Structure.structure c.args.module_name c.look-head.result.name c.look-head.result.count c.mark.ensures.formed c.in-Structure.is c.look-head.ensures.name (c.walk.ensures.means f) c.look-head.ensures.count;
}
