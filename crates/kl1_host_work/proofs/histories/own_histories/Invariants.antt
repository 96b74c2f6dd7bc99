use Rattle.kl1_host_work.specs.OwnHistories.{AreFresh}
use Rattle.kl1_host_work.proofs.histories.own_histories.Given as goal

-- those that are left are the first accounts'
abbrev pub invariant-loop : goal.invariant-loop
invariant-loop g l = AreFresh g.J.Naming.books l.fresh.items
