use Rattle.std.proofs.Common.{◌<◌, arith}
use Rattle.crossbeam_queue.specs.Passes.{view}
use Rattle.kl1_pool_tickets.proofs.Moves.{puts}
use Rattle.kl1_pool_tickets.proofs.share.Share.put.Goals as goal

pub push_as-requires-clause-rule : goal.push_as-requires-clause-rule
push_as-requires-clause-rule g c =
    let one = c.self.invariant.3 in
    let some : 0 < (view c.self.inside.pass).parts = omega (arith, one) in
    (puts _ c.self.inside.pass.id (view c.self.inside.pass) c.args.account some c.requires.within, λ items views kept at. tt)
