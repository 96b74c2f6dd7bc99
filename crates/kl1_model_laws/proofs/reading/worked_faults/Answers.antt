-- Each text is computed from the definitions.
use Rattle.std.proofs.Common.{refl}
use Rattle.kl1_model.specs.Token.{tokens_within}
use Rattle.kl1_model.specs.reader.Reader.{expression_at, parted_by, grouped_by}
use Rattle.kl1_model_laws.proofs.reading.worked_faults.Goals as goal

pub returns-clause-line : goal.returns-clause-line
unfolding tokens_within expression_at parted_by grouped_by
returns-clause-line c = refl

pub returns-clause-end : goal.returns-clause-end
unfolding tokens_within expression_at parted_by grouped_by
returns-clause-end c = refl

pub returns-clause-byte : goal.returns-clause-byte
unfolding tokens_within expression_at parted_by grouped_by
returns-clause-byte c = refl

pub returns-clause-comment : goal.returns-clause-comment
unfolding tokens_within expression_at parted_by grouped_by
returns-clause-comment c = refl

pub returns-clause-quote : goal.returns-clause-quote
unfolding tokens_within expression_at parted_by grouped_by
returns-clause-quote c = refl

pub returns-clause-repeats : goal.returns-clause-repeats
unfolding tokens_within expression_at parted_by grouped_by
returns-clause-repeats c = refl

pub returns-clause-operator : goal.returns-clause-operator
unfolding tokens_within expression_at parted_by grouped_by
returns-clause-operator c = refl

pub returns-clause-head_true : goal.returns-clause-head_true
unfolding tokens_within expression_at parted_by grouped_by
returns-clause-head_true c = refl

pub returns-clause-apart : goal.returns-clause-apart
unfolding tokens_within expression_at parted_by grouped_by
returns-clause-apart c = refl

pub returns-clause-shoen : goal.returns-clause-shoen
unfolding tokens_within expression_at parted_by grouped_by
returns-clause-shoen c = refl

pub returns-clause-empty : goal.returns-clause-empty
unfolding tokens_within expression_at parted_by grouped_by
returns-clause-empty c = refl

pub returns-clause-unqualified : goal.returns-clause-unqualified
unfolding tokens_within expression_at parted_by grouped_by
returns-clause-unqualified c = refl

pub returns-clause-qualified : goal.returns-clause-qualified
unfolding tokens_within expression_at parted_by grouped_by
returns-clause-qualified c = refl

pub returns-clause-underscores : goal.returns-clause-underscores
unfolding tokens_within expression_at parted_by grouped_by
returns-clause-underscores c = refl

pub returns-clause-spellings : goal.returns-clause-spellings
unfolding tokens_within expression_at parted_by grouped_by
returns-clause-spellings c = refl

pub returns-clause-arguments : goal.returns-clause-arguments
unfolding tokens_within expression_at parted_by grouped_by
returns-clause-arguments c = refl

pub returns-clause-deep : goal.returns-clause-deep
unfolding tokens_within expression_at parted_by grouped_by
returns-clause-deep c = refl

pub returns-clause-deeper : goal.returns-clause-deeper
unfolding tokens_within expression_at parted_by grouped_by
returns-clause-deeper c = refl

pub returns-clause-clauses : goal.returns-clause-clauses
unfolding tokens_within expression_at parted_by grouped_by
returns-clause-clauses c = refl

pub returns-clause-more_clauses : goal.returns-clause-more_clauses
unfolding tokens_within expression_at parted_by grouped_by
returns-clause-more_clauses c = refl
