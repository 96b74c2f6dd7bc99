use Rattle.kl1_model.proofs.UnifySolution.{solutions_make_equal}
use Rattle.kl1_model_laws.proofs.unification.solutions_make_sides_equal.Goals as goal

pub returns : goal.returns
returns c = solutions_make_equal
