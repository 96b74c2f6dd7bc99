use Rattle.std.proofs.Common.{length, arith}
use Rattle.kl1_store.proofs.Ordering.{order_few}
use Rattle.kl1_store.proofs.words.Words.grow.Goals as goal

pub overflow_sub-narrow : goal.overflow_sub-narrow
overflow_sub-narrow g c =
    let s = c.self.inside in
    let few = order_few 0 s.words.items (length s.wide.items) c.self.invariant.order in
    omega (arith, few, c.len-2.ensures, c.len-3.ensures, c.reserve.ensures.len, s.words.ok.0, s.wide.ok.0)
