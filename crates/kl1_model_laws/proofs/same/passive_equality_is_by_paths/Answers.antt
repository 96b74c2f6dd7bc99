use Rattle.kl1_model.proofs.Clashes.{same_is_equal, differs_on_path}
use Rattle.kl1_model_laws.proofs.same.passive_equality_is_by_paths.Goals as goal

pub returns : goal.returns
returns c = record { same = same_is_equal; differs = differs_on_path }
