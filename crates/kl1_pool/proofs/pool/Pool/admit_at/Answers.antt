use Rattle.kl1_pool.proofs.Answering.{either}
use Rattle.kl1_pool.proofs.pool.Pool.admit_at.Goals as goal

pub returns-in-Ok-clause-seen : goal.returns-in-Ok-clause-seen
returns-in-Ok-clause-seen g c = either _ _ c.admitted-came.result.0 c.admitted-came.ensures.stays c.admitted-came.ensures.left

pub returns-in-Err-clause-seen : goal.returns-in-Err-clause-seen
returns-in-Err-clause-seen g c = either _ _ c.admitted-came.result.0 c.admitted-came.ensures.stays c.admitted-came.ensures.left
