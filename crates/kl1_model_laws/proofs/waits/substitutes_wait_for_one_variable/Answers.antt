use Rattle.kl1_model.proofs.LookStays.{substitutes_stay}
use Rattle.kl1_model_laws.proofs.waits.substitutes_wait_for_one_variable.Goals as goal

pub returns : goal.returns
returns c = substitutes_stay
