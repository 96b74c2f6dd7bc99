use Rattle.std.proofs.Common.{ap, sym, ◌∙◌, rules}
use mir.Val.{of_z, to_z}
use Rattle.std.proofs.lemmas.Int.{to_z-of_z}
use mir.Syntax.{w64}
use Rattle.kl1_model.specs.Term.{integer}
use Rattle.kl1_model.specs.Match.{match_pattern}
use Rattle.kl1_match.proofs.Cells.{at_variable, at_integer, at_atom, at_structure, integers_agree, integers_clash}
use Rattle.kl1_match.proofs.meets.meet_integer.Goals as goal

pub returns-then-integer-other-clause-meets : goal.returns-then-integer-other-clause-meets
returns-then-integer-other-clause-meets g c = λ f. ap (match_pattern (integer c.args.integer)) (at_integer f c.args.store.now.held c.args.cell c.in-Integer.other c.in-Integer.is) ∙ integers_agree c.args.integer c.in-Integer.other (sym (to_z-of_z w64 c.args.integer c.ranges.integer) ∙ ap (to_z w64) c.if-integer-other.true ∙ to_z-of_z w64 c.in-Integer.other (search rules))

pub returns-in-Variable-clause-meets : goal.returns-in-Variable-clause-meets
returns-in-Variable-clause-meets g c = λ f. ap (match_pattern (integer c.args.integer)) (at_variable f c.args.store.now.held c.args.cell c.in-Variable.variable c.in-Variable.is c.requires.walked)

pub returns-else-integer-other-clause-meets : goal.returns-else-integer-other-clause-meets
returns-else-integer-other-clause-meets g c = λ f. ap (match_pattern (integer c.args.integer)) (at_integer f c.args.store.now.held c.args.cell c.in-Integer.other c.in-Integer.is) ∙ integers_clash c.args.integer c.in-Integer.other (λ e. c.if-integer-other.false (ap (of_z w64) e))

pub returns-in-Atom-clause-meets : goal.returns-in-Atom-clause-meets
returns-in-Atom-clause-meets g c = λ f. ap (match_pattern (integer c.args.integer)) (at_atom f c.args.store.now.held c.args.cell c.in-Atom.field-0 c.in-Atom.is)

pub returns-in-Structure-clause-meets : goal.returns-in-Structure-clause-meets
returns-in-Structure-clause-meets g c = λ f. ap (match_pattern (integer c.args.integer)) (at_structure f c.args.store.now.held c.args.cell c.in-Structure.field-0 c.mark.ensures.formed c.in-Structure.is c.requires.cell).is
