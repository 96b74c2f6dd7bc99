use Rattle.kl1_model.proofs.TreeGrows.{held_back_below}
use Rattle.kl1_model_laws.proofs.shoens.goals_are_held_back_below.Goals as goal

pub returns : goal.returns
returns c = held_back_below
