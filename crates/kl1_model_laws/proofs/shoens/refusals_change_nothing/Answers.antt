use Rattle.kl1_model.proofs.TreeSteps.{refusals_change_nothing}
use Rattle.kl1_model_laws.proofs.shoens.refusals_change_nothing.Goals as goal

pub returns : goal.returns
returns c = refusals_change_nothing
