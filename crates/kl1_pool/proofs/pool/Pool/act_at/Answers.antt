use Rattle.kl1_pool.proofs.Calling.{called_there}
use Rattle.kl1_pool.proofs.pool.Pool.act_at.Goals as goal

pub act_on-answer-requires : goal.act_on-answer-requires
act_on-answer-requires g c = record { named = λ here. called_there g.K.Names.names _ _ _ here c.shows_counts.ensures.name }
