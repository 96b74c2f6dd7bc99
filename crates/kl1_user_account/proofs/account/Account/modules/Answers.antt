use Rattle.kl1_user_account.proofs.Words.{sym, ap, IfOk-weaker, contents, Program, state_of, kept_in}
use Rattle.kl1_user_account.proofs.account.Account.modules.Goals as goal

pub returns : goal.returns
returns g c = record {
  step = rw (← c.self.view_is) (IfOk-weaker c.modules_of.result _ _ (λ reply e f fits. e (state_of f (kept_in c.self.inside)) (ap (λ (x : Program). contents x.loaded) (sym c.over.ensures))) c.modules_of.ensures);
}
