use Rattle.kl1_model.proofs.ControlStays.{control_stays}
use Rattle.kl1_model_laws.proofs.waits.monitors_wait_for_one_variable.Goals as goal

pub returns : goal.returns
returns c = control_stays
