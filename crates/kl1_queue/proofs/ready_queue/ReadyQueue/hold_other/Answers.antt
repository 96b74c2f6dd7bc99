use Rattle.kl1_queue.proofs.Laying.{place_in, bit_in, wide_removed, laid_removed, laid_put_first, wide_put_first}
use Rattle.kl1_queue.proofs.ready_queue.ReadyQueue.hold_other.Goals as goal

pub insert-requires : goal.insert-requires
insert-requires c = bit_in c.self.inside.bits_rank c.self.inside.bits c.self.inside.tree c.args.place c.self.invariant (rw (← c.self.view_is) at c.requires.place)

pub set_rank-requires : goal.set_rank-requires
set_rank-requires c = place_in c.self.inside.bits_rank c.self.inside.bits c.self.inside.tree c.args.place (rw (← c.self.view_is) at c.requires.place)

pub invariant_of-self : goal.invariant_of-self
invariant_of-self c = wide_put_first c.self.inside.bits_rank c.args.rank c.self.inside.bits c.insert.new.self c.self.inside.tree c.set_rank.new.self c.args.place c.self.invariant (c.is_empty.ensures c.if-is_empty.true) (rw (← c.self.view_is) at c.requires.place) c.requires.rank c.insert.ensures c.set_rank.ensures

pub returns-then-is_empty : goal.returns-then-is_empty
returns-then-is_empty c = rw (← c.self.view_is) (laid_put_first c.self.inside.bits_rank c.args.rank c.self.inside.bits c.insert.new.self c.self.inside.tree c.set_rank.new.self c.args.place c.self.invariant (c.is_empty.ensures c.if-is_empty.true) (rw (← c.self.view_is) at c.requires.place) c.requires.rank c.insert.ensures c.set_rank.ensures)

pub remove-requires : goal.remove-requires
remove-requires c = bit_in c.self.inside.bits_rank c.self.inside.bits c.self.inside.tree c.args.place c.self.invariant (rw (← c.self.view_is) at c.requires.place)

pub set_rank-requires-2 : goal.set_rank-requires-2
set_rank-requires-2 c = place_in c.self.inside.bits_rank c.self.inside.bits c.self.inside.tree c.args.place (rw (← c.self.view_is) at c.requires.place)

pub invariant_of-self-2 : goal.invariant_of-self-2
invariant_of-self-2 c = wide_removed c.self.inside.bits_rank c.self.inside.bits c.remove.new.self c.self.inside.tree c.set_rank-2.new.self c.args.place c.args.rank c.self.invariant c.remove.ensures.cleared c.set_rank-2.ensures

pub returns : goal.returns
returns c = rw (← c.self.view_is) (laid_removed c.self.inside.bits_rank c.self.inside.bits c.remove.new.self c.self.inside.tree c.set_rank-2.new.self c.args.place c.args.rank c.self.invariant (rw (← c.self.view_is) at c.requires.place) c.remove.ensures.cleared c.set_rank-2.ensures)
