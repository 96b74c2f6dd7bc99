use Rattle.kl1_pool_tickets.specs.Counts.{ServesTickets}
use Rattle.kl1_pool_tickets.proofs.serving.worker.Given as goal

-- the tickets so far were taken and served
abbrev pub invariant-loop : goal.invariant-loop
invariant-loop g l = ServesTickets g.A.Accounts.turned l.initial.share l.share
