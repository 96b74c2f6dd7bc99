use Rattle.std.proofs.Common.{◌≡◌, List}
use Rattle.kl1_host_web.specs.Serving.{Ending, EndsEach}
use Rattle.kl1_host_web.proofs.serve.Service.end_idle.Given as goal

-- the accounts are those that there were, and each session that was found is ended
abbrev pub invariant-loop : goal.invariant-loop
invariant-loop g l = record {
  house : g.A.Accounts.house l.accounts ≡ g.A.Accounts.house l.fn.accounts;
  ended : (ended : List Ending) × EndsEach (g.M.Machine.tells l.self.machine.now) l.self.page.idle l.account (g.A.Accounts.house l.fn.accounts).accounts ended (g.A.Accounts.asked l.fn.accounts) (g.A.Accounts.asked l.accounts);
}
