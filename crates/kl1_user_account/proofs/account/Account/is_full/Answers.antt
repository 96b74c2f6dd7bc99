use Rattle.kl1_user_account.proofs.Words.{ap, ◌∙◌, nat_le, limits_of, Limits}
use Rattle.kl1_user_account.proofs.Counting.{not_less}
use Rattle.kl1_user_account.proofs.account.Account.is_full.Goals as goal

pub returns : goal.returns
returns g c = rw (← c.self.view_is) (λ f. ap (λ (l : Limits). nat_le l.entries c.self.inside.entries) c.limits.ensures.value ∙ not_less (limits_of c.self.inside.machine.rules).entries c.self.inside.entries)
