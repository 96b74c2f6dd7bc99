use Rattle.kl1_user_account.proofs.Words.{Some, None, kept_in}
use Rattle.kl1_user_account.proofs.Choosing.{picks}
use Rattle.kl1_user_account.proofs.account.Account.pick.Goals as goal

pub returns-in-None : goal.returns-in-None
returns-in-None g c = rw (← c.self.view_is) (λ f fits. picks f (kept_in c.self.inside) None c.self.invariant.0 c.in-None.ensures fits)

pub returns-in-Some : goal.returns-in-Some
returns-in-Some g c = rw (← c.self.view_is) (λ f fits. picks f (kept_in c.self.inside) (Some (c.in-Some.goal, c.in-Some.clause)) c.self.invariant.0 c.in-Some.ensures fits)
