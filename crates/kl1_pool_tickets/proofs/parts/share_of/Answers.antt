use Rattle.std.proofs.Common.{ap}
use Rattle.crossbeam_queue.specs.Passes.{view}
use Rattle.kl1_tally.specs.Seats.{Share}
use Rattle.kl1_pool_tickets.proofs.Zeros.{keeps_none}
use Rattle.kl1_pool_tickets.proofs.parts.share_of.Goals as goal

pub invariant_of-result : goal.invariant_of-result
invariant_of-result g c =
    (ap (λ (s : Share). s.tally) c.requires.seat, c.requires.of.0, c.requires.of.1, c.requires.knows.0, keeps_none (view c.args.pass) c.requires.knows.1 c.requires.knows.2)
