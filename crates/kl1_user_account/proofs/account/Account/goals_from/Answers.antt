use Rattle.kl1_user_account.proofs.Words.{IfOk-weaker, kept_in}
use Rattle.kl1_user_account.proofs.Paging.{goals_shown}
use Rattle.kl1_user_account.proofs.account.Account.goals_from.Goals as goal

pub returns : goal.returns
returns g c =
    rw (← c.self.view_is) (IfOk-weaker c.goals_from.result _ _ (λ views e f fits. goals_shown f (kept_in c.self.inside) c.args.from c.args.count views.items c.self.invariant.0 fits e) c.goals_from.ensures)
