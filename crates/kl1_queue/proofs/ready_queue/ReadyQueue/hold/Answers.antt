use Rattle.kl1_queue.proofs.Laying.{place_in, bit_in, wide_inserted, laid_inserted}
use Rattle.kl1_queue.proofs.ready_queue.ReadyQueue.hold.Goals as goal

pub insert-requires : goal.insert-requires
insert-requires c = bit_in c.self.inside.bits_rank c.self.inside.bits c.self.inside.tree c.args.place c.self.invariant (rw (← c.self.view_is) at c.requires.place)

pub set_rank-requires : goal.set_rank-requires
set_rank-requires c = place_in c.self.inside.bits_rank c.self.inside.bits c.self.inside.tree c.args.place (rw (← c.self.view_is) at c.requires.place)

pub invariant_of-self : goal.invariant_of-self
invariant_of-self c = wide_inserted c.self.inside.bits_rank c.self.inside.bits c.insert.new.self c.self.inside.tree c.set_rank.new.self c.args.place c.self.invariant (rw (← c.self.view_is) at c.requires.place) (rw (← c.if-rank-self.true) c.requires.rank) c.insert.ensures c.set_rank.ensures

pub returns-then-rank-self : goal.returns-then-rank-self
returns-then-rank-self c = rw (← c.self.view_is, c.if-rank-self.true) (laid_inserted c.self.inside.bits_rank c.self.inside.bits c.insert.new.self c.self.inside.tree c.set_rank.new.self c.args.place c.self.invariant (rw (← c.self.view_is) at c.requires.place) (rw (← c.if-rank-self.true) c.requires.rank) c.insert.ensures c.set_rank.ensures)
