use Rattle.kl1_model.proofs.TreeLiving.{ended_have_no_goals, fresh_is_of_living}
use Rattle.kl1_model_laws.proofs.shoens.ended_shoens_have_no_goals.Goals as goal

pub returns : goal.returns
returns c = record { fresh = fresh_is_of_living; stay = ended_have_no_goals }
