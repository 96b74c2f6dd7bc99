use Rattle.kl1_host_work.proofs.Lobbies.{one_goes}
use Rattle.kl1_host_work.proofs.visitors.Visitors.end_first.Goals as goal

-- the one that was found, of all places
pub returns : goal.returns
returns g c = one_goes c.args.before c.args.self.now.places.items c.as_slice.result.now c.in_ok-first.first c.first_to_go.result c.index_mut.result.now c.end.new.self c.end.result c.as_slice.ensures.value c.in_ok-first.was c.first_to_go.ensures c.index_mut.ensures.value c.end.ensures.who c.end.ensures.told
