use Rattle.std.proofs.Common.{◌+◌, [], ◌∷◌, length, length-append, ap, arith}
use Rattle.kl1_queue.proofs.Laying.{length_over, extended_ranks, laid_put_last}
use Rattle.kl1_queue.proofs.ready_queue.ReadyQueue.extend.Goals as goal

pub hold-requires-clause-place : goal.hold-requires-clause-place
hold-requires-clause-place c = omega (arith, length_over c.self.inside.bits_rank c.self.inside.bits 0 c.extend_unready.new.self.ranks, c.len-place.ensures, ap length c.extend_unready.ensures.ranks, length-append c.self.inside.tree.ranks (0 ∷ []))

pub returns-in-None-clause-ranks : goal.returns-in-None-clause-ranks
returns-in-None-clause-ranks c = rw (c.in-None.is, c.extend_unready.ensures.ranks, ← c.self.view_is) (extended_ranks c.self.inside.bits_rank c.self.inside.bits c.self.inside.tree.ranks c.self.invariant.over)

pub returns-in-Some-clause-ranks : goal.returns-in-Some-clause-ranks
returns-in-Some-clause-ranks c = rw (c.hold.ensures, c.in-Some.is, ← c.self.view_is) (laid_put_last c.self.inside.bits_rank c.self.inside.bits c.self.inside.tree.ranks c.extend_unready.new.self.ranks (c.in-Some.priority + 1) c.len-place.result c.self.invariant.over c.extend_unready.ensures.ranks c.len-place.ensures)
