use Rattle.std.proofs.Common.{arith}
use Rattle.std.proofs.lemmas.Grind.{common_steps}
use Rattle.kl1_host_work.proofs.OwnHistories.{last_is_own}
use Rattle.kl1_host_work.proofs.histories.last_own.Goals as goal

pub invariant_of-own : goal.invariant_of-own
invariant_of-own g c = record { own = last_is_own g.J.Naming.books c.args.fresh.now.items c.pop.new.self.items c.pop.result c.in-Some.last c.pop.ensures.items c.in-Some.is c.requires c.in-Ok.account (grind (arith, common_steps)) }
