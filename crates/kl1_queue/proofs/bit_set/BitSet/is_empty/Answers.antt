use Rattle.std.proofs.lemmas.Bool.{eqb-true}
use Rattle.kl1_queue.proofs.Levels.{empty}
use Rattle.kl1_queue.proofs.bit_set.BitSet.is_empty.Goals as goal

pub returns : goal.returns
returns c = λ e.
    let s = c.self.inside in
    rw (← c.self.view_is) (empty s.low.items s.middle.items s.high.items s.top c.self.invariant (eqb-true s.top 0 e))
