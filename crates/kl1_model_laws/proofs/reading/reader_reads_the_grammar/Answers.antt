-- The reader against the grammar, by the lemmas of both directions; each tree is the one that is read from its tokens.
use Rattle.std.proofs.Common.{ap, sym, ◌∙◌}
use Rattle.std.proofs.lemmas.Option.{same_Some}
use Rattle.kl1_model.specs.reader.Reader.{expression_tree, clause_tree}
use Rattle.kl1_model.proofs.ReadSound.{expression_trees_sound, clause_trees_sound}
use Rattle.kl1_model.proofs.ReadComplete.{expression_trees_complete, clause_trees_complete}
use Rattle.kl1_model_laws.proofs.reading.reader_reads_the_grammar.Goals as goal

pub returns-clause-expressions_sound : goal.returns-clause-expressions_sound
returns-clause-expressions_sound c = expression_trees_sound

pub returns-clause-expressions_complete : goal.returns-clause-expressions_complete
returns-clause-expressions_complete c = expression_trees_complete

pub returns-clause-clauses_sound : goal.returns-clause-clauses_sound
returns-clause-clauses_sound c = clause_trees_sound

pub returns-clause-clauses_complete : goal.returns-clause-clauses_complete
returns-clause-clauses_complete c = clause_trees_complete

pub returns-clause-expressions_unambiguous : goal.returns-clause-expressions_unambiguous
returns-clause-expressions_unambiguous c = λ d e sound right same. same_Some d e (sym (expression_trees_complete d sound) ∙ ap expression_tree same ∙ expression_trees_complete e right)

pub returns-clause-clauses_unambiguous : goal.returns-clause-clauses_unambiguous
returns-clause-clauses_unambiguous c = λ d e sound right same. same_Some d e (sym (clause_trees_complete d sound) ∙ ap clause_tree same ∙ clause_trees_complete e right)
