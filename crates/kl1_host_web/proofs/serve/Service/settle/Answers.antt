use Rattle.std.proofs.Common.{subst}
use Rattle.kl1_host_web.specs.Telling.{IsOpenedIn}
use Rattle.kl1_host_web.specs.declared.outcome.Outcome.{Outcome}
use Rattle.kl1_host_web.proofs.serve.Service.settle.Goals as goal

pub begin-requires : goal.begin-requires
begin-requires g c = subst (λ (o : Outcome). IsOpenedIn (g.A.Accounts.house c.args.accounts.now).accounts o) c.in-Opens.is c.requires
