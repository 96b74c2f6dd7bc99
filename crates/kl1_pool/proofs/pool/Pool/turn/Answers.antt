use Rattle.std.proofs.Common.{false, inr, refl}
use Rattle.kl1_pool.proofs.pool.Pool.turn.Goals as goal

pub returns-in_default-clause-turn : goal.returns-in_default-clause-turn
returns-in_default-clause-turn g c = (false, inr (refl, refl))

pub returns-clause-turn : goal.returns-clause-turn
returns-clause-turn g c = (_, c.turn_in.ensures.turn)
