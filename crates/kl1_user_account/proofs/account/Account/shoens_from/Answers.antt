use Rattle.kl1_user_account.proofs.Words.{IfOk-weaker, kept_in}
use Rattle.kl1_user_account.proofs.Paging.{shoens_shown}
use Rattle.kl1_user_account.proofs.account.Account.shoens_from.Goals as goal

pub returns : goal.returns
returns g c =
    rw (← c.self.view_is) (IfOk-weaker c.shoens_from.result _ _ (λ views e f. shoens_shown f (kept_in c.self.inside) c.args.from c.args.count views.items c.len-numbered.ensures.numbered e) c.shoens_from.ensures)
