use Rattle.std.proofs.Common.{ap, arith}
use Rattle.kl1_pool.specs.declared.totals_before_reset.TotalsBeforeReset.{TotalsBeforeReset}
use Rattle.kl1_pool.proofs.pool_account.PoolAccount.steps_since_reset.Goals as goal

pub returns : goal.returns
returns g c = omega (arith, c.saturating_sub.ensures, c.counted.ensures.1, ap (λ (p : TotalsBeforeReset). p.steps) c.past.ensures, c.shows_counts.ensures.counted.steps)
