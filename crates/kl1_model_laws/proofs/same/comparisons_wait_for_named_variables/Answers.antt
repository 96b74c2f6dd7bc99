use Rattle.kl1_model.proofs.Comparisons.{compare_stays, compare_waits, compare_is_parts}
use Rattle.kl1_model_laws.proofs.same.comparisons_wait_for_named_variables.Goals as goal

pub returns : goal.returns
returns c = record { stays = compare_stays; waits = compare_waits; parts = compare_is_parts }
