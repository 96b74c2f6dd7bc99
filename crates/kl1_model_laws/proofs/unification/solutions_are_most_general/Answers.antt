use Rattle.kl1_model.proofs.UnifySolution.{solutions_are_most_general, none_more_general}
use Rattle.kl1_model_laws.proofs.unification.solutions_are_most_general.Goals as goal

pub returns-clause-substitutions : goal.returns-clause-substitutions
returns-clause-substitutions c = solutions_are_most_general

pub returns-clause-replacements : goal.returns-clause-replacements
returns-clause-replacements c = none_more_general
