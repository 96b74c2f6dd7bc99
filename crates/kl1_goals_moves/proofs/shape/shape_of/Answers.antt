use Rattle.std.proofs.Common.{sym, ap, ◌∙◌}
use Rattle.kl1_match.proofs.Cells.{at_variable, at_integer, at_atom}
use Rattle.kl1_goals_moves.proofs.Tops.{other_structure, two_arguments, argument_in}
use Rattle.kl1_goals_moves.specs.Shapes.{is_other}
use Rattle.kl1_goals_moves.proofs.shape.shape_of.Goals as goal

pub returns-in-Variable-clause-shape : goal.returns-in-Variable-clause-shape
returns-in-Variable-clause-shape g c = λ f. sym (c.walk.ensures.means f) ∙ at_variable f c.args.store.now.held c.walk.result c.in-Variable.variable c.in-Variable.is c.walk.ensures.walked

pub returns-in-Integer-clause-shape : goal.returns-in-Integer-clause-shape
returns-in-Integer-clause-shape g c = λ f. ap is_other (sym (c.walk.ensures.means f) ∙ at_integer f c.args.store.now.held c.walk.result c.in-Integer.field-0 c.in-Integer.is)

pub returns-in-Atom-clause-shape : goal.returns-in-Atom-clause-shape
returns-in-Atom-clause-shape g c = λ f. sym (c.walk.ensures.means f) ∙ at_atom f c.args.store.now.held c.walk.result c.in-Atom.name c.in-Atom.is

pub returns-then-head-ne2-clause-shape : goal.returns-then-head-ne2-clause-shape
returns-then-head-ne2-clause-shape g c = λ f.
    other_structure f c.args.store.now.held c.args.goal c.walk.result c.in-Structure.structure c.look-head.result.name c.mark.ensures.formed c.in-Structure.is c.look-head.ensures.name (c.walk.ensures.means f)
    (λ e. c.if-head-ne2.true (c.look-head.ensures.count ∙ e))

pub returns-else-head-ne2-clause-inside : goal.returns-else-head-ne2-clause-inside
returns-else-head-ne2-clause-inside g c =
    (argument_in c.args.store.now.held c.in-Structure.structure 0 c.argument.result c.mark.ensures.formed c.argument.ensures, argument_in c.args.store.now.held c.in-Structure.structure 1 c.argument-in-Structure.result c.mark.ensures.formed c.argument-in-Structure.ensures)

pub returns-else-head-ne2-clause-shape : goal.returns-else-head-ne2-clause-shape
returns-else-head-ne2-clause-shape g c = λ f.
    two_arguments f c.args.store.now.held c.args.goal c.walk.result c.argument.result c.argument-in-Structure.result c.in-Structure.structure c.look-head.result.name c.mark.ensures.formed c.in-Structure.is c.look-head.ensures.name (c.walk.ensures.means f)
    (sym c.look-head.ensures.count ∙ c.if-head-ne2.false) c.argument.ensures c.argument-in-Structure.ensures
