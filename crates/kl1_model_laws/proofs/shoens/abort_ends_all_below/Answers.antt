use Rattle.kl1_model.proofs.TreeEndings.{abort_ends_all_below, abort_removes_all_below}
use Rattle.kl1_model_laws.proofs.shoens.abort_ends_all_below.Goals as goal

pub returns : goal.returns
returns c = record { lives = abort_ends_all_below; goals = abort_removes_all_below }
