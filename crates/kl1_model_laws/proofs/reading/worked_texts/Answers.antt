-- Each text is computed from the definitions.
use Rattle.std.proofs.Common.{refl}
use Rattle.kl1_model.specs.Token.{tokens_within}
use Rattle.kl1_model.specs.reader.Reader.{expression_at, parted_by, grouped_by}
use Rattle.kl1_model_laws.proofs.reading.worked_texts.Goals as goal

pub returns-clause-bytes : goal.returns-clause-bytes
returns-clause-bytes c = refl

pub returns-clause-app : goal.returns-clause-app
unfolding tokens_within expression_at parted_by grouped_by
returns-clause-app c = refl

pub returns-clause-test : goal.returns-clause-test
unfolding tokens_within expression_at parted_by grouped_by
returns-clause-test c = refl

pub returns-clause-long_name : goal.returns-clause-long_name
unfolding tokens_within expression_at parted_by grouped_by
returns-clause-long_name c = refl

pub returns-clause-longer_name : goal.returns-clause-longer_name
unfolding tokens_within expression_at parted_by grouped_by
returns-clause-longer_name c = refl

pub returns-clause-long_variable : goal.returns-clause-long_variable
unfolding tokens_within expression_at parted_by grouped_by
returns-clause-long_variable c = refl

pub returns-clause-longer_variable : goal.returns-clause-longer_variable
unfolding tokens_within expression_at parted_by grouped_by
returns-clause-longer_variable c = refl

pub returns-clause-dot : goal.returns-clause-dot
unfolding tokens_within expression_at parted_by grouped_by
returns-clause-dot c = refl

pub returns-clause-comments : goal.returns-clause-comments
unfolding tokens_within expression_at parted_by grouped_by
returns-clause-comments c = refl

pub returns-clause-goal : goal.returns-clause-goal
unfolding tokens_within expression_at parted_by grouped_by
returns-clause-goal c = refl

pub returns-clause-least : goal.returns-clause-least
unfolding tokens_within expression_at parted_by grouped_by
returns-clause-least c = refl

pub returns-clause-too_large : goal.returns-clause-too_large
unfolding tokens_within expression_at parted_by grouped_by
returns-clause-too_large c = refl

pub returns-clause-loose_minus : goal.returns-clause-loose_minus
unfolding tokens_within expression_at parted_by grouped_by
returns-clause-loose_minus c = refl
