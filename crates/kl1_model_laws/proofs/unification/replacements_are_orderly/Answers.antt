use Rattle.kl1_model.proofs.UnifySolution.{replaced_by_lower, replaced_once, replaced_are_gone, solutions_keep_numbers}
use Rattle.kl1_model_laws.proofs.unification.replacements_are_orderly.Goals as goal

pub returns-clause-lower : goal.returns-clause-lower
returns-clause-lower c = replaced_by_lower

pub returns-clause-once : goal.returns-clause-once
returns-clause-once c = replaced_once

pub returns-clause-gone : goal.returns-clause-gone
returns-clause-gone c = replaced_are_gone

pub returns-clause-numbers : goal.returns-clause-numbers
returns-clause-numbers c = solutions_keep_numbers
