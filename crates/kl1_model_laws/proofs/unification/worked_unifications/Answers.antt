use Rattle.std.proofs.Common.{refl}
use Rattle.kl1_model.specs.Unify.{mgu_within}
use Rattle.kl1_model_laws.proofs.unification.worked_unifications.Goals as goal

pub returns-clause-clash : goal.returns-clause-clash
unfolding mgu_within
returns-clause-clash c = refl

pub returns-clause-never : goal.returns-clause-never
unfolding mgu_within
returns-clause-never c = refl

pub returns-clause-later : goal.returns-clause-later
unfolding mgu_within
returns-clause-later c = refl

pub returns-clause-higher : goal.returns-clause-higher
unfolding mgu_within
returns-clause-higher c = refl

pub returns-clause-lower : goal.returns-clause-lower
unfolding mgu_within
returns-clause-lower c = (refl, refl)

pub returns-clause-both : goal.returns-clause-both
unfolding mgu_within
returns-clause-both c = refl

pub returns-clause-rest : goal.returns-clause-rest
unfolding mgu_within
returns-clause-rest c = refl

pub returns-clause-names : goal.returns-clause-names
unfolding mgu_within
returns-clause-names c = refl

pub returns-clause-lengths : goal.returns-clause-lengths
unfolding mgu_within
returns-clause-lengths c = refl

pub returns-clause-inner : goal.returns-clause-inner
unfolding mgu_within
returns-clause-inner c = refl

pub returns-clause-follows : goal.returns-clause-follows
unfolding mgu_within
returns-clause-follows c = refl
