use Rattle.std.proofs.Common.{◌≡◌, ◌<◌, ◌-◌, ◌^◌, List, length}
use Rattle.kl1_host_door.specs.declared.session.WebSession.{WebSession}
use Rattle.kl1_host_web.specs.Serving.{ForgetsEach}
use Rattle.kl1_host_web.proofs.serve.Service.forget_account.Given as goal

-- the accounts are those that there were, and so many sessions were taken out of the book
abbrev pub invariant-loop : goal.invariant-loop
invariant-loop g l = record {
  house : g.A.Accounts.house l.accounts ≡ g.A.Accounts.house l.fn.accounts;
  forgot : (found : List WebSession) × ForgetsEach l.account found (g.A.Accounts.asked l.fn.accounts) (g.A.Accounts.asked l.accounts) × (l.count < 2 ^ 64 - 1 → l.count ≡ length found);
}
