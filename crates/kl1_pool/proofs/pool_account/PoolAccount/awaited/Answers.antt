use Rattle.std.proofs.Common.{ap, subst}
use Rattle.std.specs.Prelude.{IfOk, option_map}
use Rattle.kl1_user_events.specs.Viewing.{AreAwaited}
use Rattle.kl1_journal.specs.Keeping.{Reading, Fits, Held, kept_of}
use Rattle.kl1_pool.specs.PoolAccounts.{PoolAccountValue}
use Rattle.kl1_pool.proofs.pool_account.PoolAccount.awaited.Goals as goal

pub returns : goal.returns
returns g c =
    subst (λ (h : Held). IfOk c.awaited.result (λ awaited. (f : Reading) → Fits h.0.names f → AreAwaited (kept_of f h).state c.args.goal.0 (option_map (λ numbers. numbers.items) awaited))) (ap (λ (x : PoolAccountValue). x.held) c.self.view_is) c.awaited.ensures
