use Rattle.kl1_queue.proofs.Laying.{place_in, bit_in, laid_removed, unready}
use Rattle.kl1_queue.proofs.ready_queue.ReadyQueue.remove.Goals as goal

pub remove-requires : goal.remove-requires
remove-requires c = bit_in c.self.inside.bits_rank c.self.inside.bits c.self.inside.tree c.args.place c.self.invariant (rw (← c.self.view_is) at c.requires)

pub set_rank-requires : goal.set_rank-requires
set_rank-requires c = place_in c.self.inside.bits_rank c.self.inside.bits c.self.inside.tree c.args.place (rw (← c.self.view_is) at c.requires)

pub returns-then-not-remove : goal.returns-then-not-remove
returns-then-not-remove c =
    let s = c.self.inside in
    rw (← c.self.view_is) (laid_removed s.bits_rank s.bits c.remove.new.self s.tree c.set_rank.new.self c.args.place 0 c.self.invariant (rw (← c.self.view_is) at c.requires) c.remove.ensures.cleared c.set_rank.ensures)

pub returns-else-not-remove : goal.returns-else-not-remove
returns-else-not-remove c =
    let s = c.self.inside in
    let same = unready s.bits_rank s.bits s.tree c.args.place c.self.invariant (c.remove.ensures.was c.if-not-remove.false) in
    rw (← c.self.view_is) (laid_removed s.bits_rank s.bits c.remove.new.self s.tree s.tree c.args.place 0 c.self.invariant (rw (← c.self.view_is) at c.requires) c.remove.ensures.cleared same)
