use Rattle.std.proofs.Common.{◌≡◌, ap, sym, subst}
use Rattle.std.specs.Prelude.{option_map}
use Rattle.kl1_model.specs.Choice.{first}
use Rattle.kl1_user_events.specs.Views.{chosen_of}
use Rattle.kl1_journal.specs.Keeping.{Fits, Held, kept_of}
use Rattle.kl1_pool.specs.PoolAccounts.{PoolAccountValue}
use Rattle.kl1_pool.proofs.pool_account.PoolAccount.pick.Goals as goal

pub returns : goal.returns
returns g c = λ f fits.
    let view = ap (λ (x : PoolAccountValue). x.held) c.self.view_is in
    subst (λ (h : Held). option_map chosen_of c.pick.result ≡ first (kept_of f h).state) view (c.pick.ensures f (subst (λ (h : Held). Fits h.0.names f) (sym view) fits))
