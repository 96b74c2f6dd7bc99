use Rattle.kl1_user_account.proofs.Words.{kept_in}
use Rattle.kl1_user_account.proofs.Choosing.{is_quiet}
use Rattle.kl1_user_account.proofs.account.Account.quiet.Goals as goal

pub returns : goal.returns
returns g c = rw (← c.self.view_is) (λ f fits. is_quiet f (kept_in c.self.inside) c.is_any_ready.result c.self.invariant.0 c.is_any_ready.ensures fits)
