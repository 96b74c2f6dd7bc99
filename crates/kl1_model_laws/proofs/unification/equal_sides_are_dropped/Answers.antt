use Rattle.kl1_model.proofs.TermFacts.{same_term_decides}
use Rattle.kl1_model.proofs.EqualSides.{equal_sides_dropped}
use Rattle.kl1_model_laws.proofs.unification.equal_sides_are_dropped.Goals as goal

pub returns-clause-same : goal.returns-clause-same
returns-clause-same c = same_term_decides

pub returns-clause-dropped : goal.returns-clause-dropped
returns-clause-dropped c = equal_sides_dropped
