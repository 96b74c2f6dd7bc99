use Rattle.std.proofs.Common.{sym, ap}
use Rattle.kl1_user_account.specs.Giving.{is_other}
use Rattle.kl1_user_account.proofs.given.is_other.Goals as goal

pub returns-in-None : goal.returns-in-None
returns-in-None c = ap (λ a. is_other a c.args.number) (sym c.in-None.is)

pub returns-in-Some : goal.returns-in-Some
returns-in-Some c = ap (λ a. is_other a c.args.number) (sym c.in-Some.is)
