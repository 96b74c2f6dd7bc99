use Rattle.std.proofs.Common.{nat_lt, ap}
use Rattle.kl1_pool.proofs.pool_account.PoolAccount.is_over.Goals as goal

pub returns : goal.returns
returns g c = λ f. ap (nat_lt c.args.most) (c.bytes.ensures f)
