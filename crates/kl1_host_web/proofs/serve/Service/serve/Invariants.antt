use Rattle.std.proofs.Common.{◌≡◌}
use Rattle.std.specs.Io.KnownBytes.{prepend_known}
use Rattle.kl1_host_web.proofs.Writing.{IsUnderway}
use Rattle.kl1_host_web.proofs.serve.Service.serve.Given as goal

-- the accounts are those that there were, no write failed, and the requests that were read are attended to and their answers written
abbrev pub invariant-loop : goal.invariant-loop
invariant-loop g l =
    let remaining = g.S.Source.remaining in
    let contents = g.T.Sink.contents in
    let asked = g.A.Accounts.asked in
    record {
      house : g.A.Accounts.house l.accounts ≡ g.A.Accounts.house l.fn.accounts;
      failures : g.T.Sink.failures l.sink ≡ g.T.Sink.failures l.fn.sink;
      underway : IsUnderway (g.M.Machine.tells l.self.machine.now) (g.M.Machine.gives l.self.machine.now) l.self.page.idle (g.A.Accounts.house l.fn.accounts) l.self.page.sites.now l.self.is_local (remaining l.fn.source) (prepend_known l.inbox.kept.items (remaining l.source)) (contents l.fn.sink) (contents l.sink) (asked l.fn.accounts) (asked l.accounts);
    }
