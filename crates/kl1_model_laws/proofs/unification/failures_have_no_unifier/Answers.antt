use Rattle.kl1_model.proofs.UnifyFails.{failure_leaves_none, failure_leaves_no_replacements}
use Rattle.kl1_model.proofs.UnifySolution.{none_where_none_unify}
use Rattle.kl1_model_laws.proofs.unification.failures_have_no_unifier.Goals as goal

pub returns-clause-substitutions : goal.returns-clause-substitutions
returns-clause-substitutions c = failure_leaves_none

pub returns-clause-replacements : goal.returns-clause-replacements
returns-clause-replacements c = failure_leaves_no_replacements

pub returns-clause-none : goal.returns-clause-none
returns-clause-none c = none_where_none_unify
