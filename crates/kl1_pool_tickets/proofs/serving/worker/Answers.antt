use Rattle.kl1_pool_tickets.proofs.Tickets.{serves_more, serves_works}
use Rattle.kl1_pool_tickets.proofs.serving.worker.Goals as goal

pub returns-then-is_closed-clause-worked : goal.returns-then-is_closed-clause-worked
returns-then-is_closed-clause-worked g c = serves_works g.A.Accounts.turned c.args.share.now c.loop.share c.loop.invariant

pub loop-preserved-then-can_take : goal.loop-preserved-then-can_take
loop-preserved-then-can_take g c =
    serves_more g.A.Accounts.turned c.args.share.now c.serve_next.new.share c.serve_or_sleep.new.share
    (serves_more g.A.Accounts.turned c.args.share.now c.loop.share c.serve_next.new.share c.loop.invariant c.serve_next.ensures) c.serve_or_sleep.ensures

pub loop-preserved : goal.loop-preserved
loop-preserved g c = serves_more g.A.Accounts.turned c.args.share.now c.loop.share c.serve_next.new.share c.loop.invariant c.serve_next.ensures
