use Rattle.kl1_model.proofs.Comparisons.{compare_is_equal, compare_is_on_path}
use Rattle.kl1_model_laws.proofs.same.comparisons_are_by_paths.Goals as goal

pub returns : goal.returns
returns c = record { yes = compare_is_equal; no = compare_is_on_path }
