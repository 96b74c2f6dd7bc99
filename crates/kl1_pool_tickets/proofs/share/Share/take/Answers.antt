use Rattle.std.proofs.Common.{◌<◌, arith}
use Rattle.crossbeam_queue.specs.Passes.{view}
use Rattle.kl1_pool_tickets.proofs.Moves.{takes, learns}
use Rattle.kl1_pool_tickets.proofs.share.Share.take.Goals as goal

pub pop_as-requires-clause-rule : goal.pop_as-requires-clause-rule
pop_as-requires-clause-rule g c =
    let one = c.self.invariant.3 in
    let some : 0 < (view c.self.inside.pass).parts = omega (arith, one) in
    (takes c.self.inside.pass.id (view c.self.inside.pass) some, learns c.self.inside.pass.id (view c.self.inside.pass))
