use Rattle.kl1_model.proofs.Clashes.{clashes_on_paths}
use Rattle.kl1_model_laws.proofs.same.clashes_are_on_paths.Goals as goal

pub returns : goal.returns
returns c = clashes_on_paths
