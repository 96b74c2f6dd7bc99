use Rattle.std.proofs.Common.{Bool, subst}
use Rattle.kl1_pool.specs.Memory.{IsWithinTurn}
use Rattle.kl1_pool.proofs.pool_account.PoolAccount.turn_if.Goals as goal

pub turn-requires : goal.turn-requires
turn-requires g c = record { within = subst (λ (b : Bool). IsWithinTurn c.args.most_bytes b c.args.self.now) c.if-is_short.false c.requires.within }
