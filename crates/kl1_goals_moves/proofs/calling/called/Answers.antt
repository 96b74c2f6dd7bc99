use Rattle.std.proofs.Common.{[], ◌∷◌, sym, ap, ◌∙◌}
use Rattle.kl1_model.specs.code.Waits.{awaited_in_call}
use Rattle.kl1_store.specs.Meaning.{term_of}
use Rattle.kl1_goals_moves.specs.Calls.{atom_in}
use Rattle.kl1_match.proofs.Cells.{at_variable, at_integer, at_atom, at_structure}
use Rattle.kl1_goals_moves.proofs.Callees.{no_module, called_at}
use Rattle.kl1_goals_moves.proofs.calling.called.Goals as goal

pub returns-in-Variable-clause-called : goal.returns-in-Variable-clause-called
returns-in-Variable-clause-called g c = λ f.
    let e = sym (c.walk.ensures.means f) ∙ at_variable f c.args.store.now.held c.walk.result c.in-Variable.variable c.in-Variable.is c.walk.ensures.walked in
    no_module (term_of f c.args.store.now.held c.args.left) (term_of f c.args.store.now.held c.args.right) (c.in-Variable.variable ∷ []) (ap atom_in e) (ap (λ t. awaited_in_call t (term_of f c.args.store.now.held c.args.right)) e)

pub returns-in-Integer-clause-called : goal.returns-in-Integer-clause-called
returns-in-Integer-clause-called g c = λ f.
    let e = sym (c.walk.ensures.means f) ∙ at_integer f c.args.store.now.held c.walk.result c.in-Integer.field-0 c.in-Integer.is in
    no_module (term_of f c.args.store.now.held c.args.left) (term_of f c.args.store.now.held c.args.right) [] (ap atom_in e) (ap (λ t. awaited_in_call t (term_of f c.args.store.now.held c.args.right)) e)

pub returns-in-Structure-clause-called : goal.returns-in-Structure-clause-called
returns-in-Structure-clause-called g c = λ f.
    let e = sym (c.walk.ensures.means f) ∙ (at_structure f c.args.store.now.held c.walk.result c.in-Structure.field-0 c.mark.ensures.formed c.in-Structure.is c.walk.ensures.inside).is in
    no_module (term_of f c.args.store.now.held c.args.left) (term_of f c.args.store.now.held c.args.right) [] (ap atom_in e) (ap (λ t. awaited_in_call t (term_of f c.args.store.now.held c.args.right)) e)

pub returns-in-Atom-clause-called : goal.returns-in-Atom-clause-called
returns-in-Atom-clause-called g c = λ f.
    called_at f c.args.store.now.held c.args.left c.args.right c.in-Atom.name c.called_in.result (sym (c.walk.ensures.means f) ∙ at_atom f c.args.store.now.held c.walk.result c.in-Atom.name c.in-Atom.is) (c.called_in.ensures.called f)
