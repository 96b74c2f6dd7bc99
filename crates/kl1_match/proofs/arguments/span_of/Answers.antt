use Rattle.std.proofs.Common.{refl, ◌∙◌, []}
use Rattle.kl1_model.specs.Term.{variable, integer, atom}
use Rattle.kl1_match.proofs.Cells.{at_variable, at_integer, at_atom, no_arguments, goal_at, goal_arguments}
use Rattle.kl1_match.specs.Spans.{span_cells}
use Rattle.kl1_match.proofs.arguments.span_of.Goals as goal

pub returns-in-Variable-clause-means : goal.returns-in-Variable-clause-means
returns-in-Variable-clause-means g c = λ f.
    let h = c.args.store.now.held in
    no_arguments f h [] refl
    ∙ goal_at f h c.args.goal c.walk.result (variable c.in-Variable.field-0) (c.walk.ensures.means f) (at_variable f h c.walk.result c.in-Variable.field-0 c.in-Variable.is c.walk.ensures.walked)

pub returns-in-Integer-clause-means : goal.returns-in-Integer-clause-means
returns-in-Integer-clause-means g c = λ f.
    let h = c.args.store.now.held in
    no_arguments f h [] refl
    ∙ goal_at f h c.args.goal c.walk.result (integer c.in-Integer.field-0) (c.walk.ensures.means f) (at_integer f h c.walk.result c.in-Integer.field-0 c.in-Integer.is)

pub returns-in-Atom-clause-means : goal.returns-in-Atom-clause-means
returns-in-Atom-clause-means g c = λ f.
    let h = c.args.store.now.held in
    no_arguments f h [] refl
    ∙ goal_at f h c.args.goal c.walk.result (atom (f c.in-Atom.field-0)) (c.walk.ensures.means f) (at_atom f h c.walk.result c.in-Atom.field-0 c.in-Atom.is)

pub returns-in-Structure-clause-means : goal.returns-in-Structure-clause-means
returns-in-Structure-clause-means g c = λ f.
    let h = c.args.store.now.held in
    goal_arguments f h c.args.goal c.walk.result c.in-Structure.structure (span_cells h c.span_in.result) c.mark.ensures.formed c.walk.ensures.inside c.in-Structure.is (c.walk.ensures.means f) c.span_in.ensures.cells
