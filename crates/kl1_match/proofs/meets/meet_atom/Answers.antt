use Rattle.std.proofs.Common.{ap, sym, ◌∙◌}
use Rattle.std.proofs.lemmas.Bool.{false≢true}
use Rattle.kl1_model.specs.Term.{atom}
use Rattle.kl1_model.specs.Match.{match_pattern, with_answer}
use Rattle.kl1_model.specs.Answer.{known}
use Rattle.kl1_match.proofs.Cells.{at_variable, at_integer, at_atom, at_structure, names_same, names_differ}
use Rattle.kl1_match.proofs.meets.meet_atom.Goals as goal

pub returns-then-same-clause-meets : goal.returns-then-same-clause-meets
returns-then-same-clause-meets g c = λ f reads.
    ap (match_pattern (atom (f c.args.name))) (at_atom f c.args.store.now.held c.args.cell c.in-Atom.other c.in-Atom.is)
    ∙ ap (λ b. with_answer (known b)) (names_same f c.args.name c.in-Atom.other (c.same.ensures.0 c.if-same.true))

pub returns-in-Variable-clause-meets : goal.returns-in-Variable-clause-meets
returns-in-Variable-clause-meets g c = λ f reads. ap (match_pattern (atom (f c.args.name))) (at_variable f c.args.store.now.held c.args.cell c.in-Variable.variable c.in-Variable.is c.requires.walked)

pub returns-in-Integer-clause-meets : goal.returns-in-Integer-clause-meets
returns-in-Integer-clause-meets g c = λ f reads. ap (match_pattern (atom (f c.args.name))) (at_integer f c.args.store.now.held c.args.cell c.in-Integer.field-0 c.in-Integer.is)

pub returns-else-same-clause-meets : goal.returns-else-same-clause-meets
returns-else-same-clause-meets g c = λ f reads.
    ap (match_pattern (atom (f c.args.name))) (at_atom f c.args.store.now.held c.args.cell c.in-Atom.other c.in-Atom.is)
    ∙ ap (λ b. with_answer (known b)) (names_differ g.N.NameValue.built f c.args.name c.in-Atom.other reads (λ e. false≢true (sym c.if-same.false ∙ c.same.ensures.1 e)))

pub returns-in-Structure-clause-meets : goal.returns-in-Structure-clause-meets
returns-in-Structure-clause-meets g c = λ f reads. ap (match_pattern (atom (f c.args.name))) (at_structure f c.args.store.now.held c.args.cell c.in-Structure.field-0 c.mark.ensures.formed c.in-Structure.is c.requires.cell).is
