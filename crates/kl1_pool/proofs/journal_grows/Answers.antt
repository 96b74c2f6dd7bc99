use Rattle.kl1_pool.proofs.Ended.{same_ended_grows}
use Rattle.kl1_pool.proofs.journal_grows.Goals as goal

pub returns : goal.returns
returns c = same_ended_grows
