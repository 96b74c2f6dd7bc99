use Rattle.kl1_host_work.proofs.Lobbies.{one_more}
use Rattle.kl1_host_work.proofs.visitors.first_to_go.Goals as goal

-- so it is of one place more
pub loop-at-preserved : goal.loop-at-preserved
loop-at-preserved g c = one_more c.args.before c.args.places.now c.loop-at.at c.index-places-at.result c.rank.result c.loop-at.found c.first_of-found.result c.loop-at-test.true c.index-places-at.is c.rank.ensures c.first_of-found.ensures c.loop-at.invariant
