use Rattle.kl1_queue.proofs.Levels.{inserted}
use Rattle.kl1_queue.proofs.bit_set.BitSet.insert.Goals as goal

pub invariant_of-self : goal.invariant_of-self
invariant_of-self c =
    let s = c.self.inside in
    inserted s.low.items c.set_bit.new.words.items s.middle.items c.set_bit-2.new.words.items s.high.items c.set_bit-3.new.words.items s.top c.args.place c.self.invariant (rw c.self.view_is c.requires) c.set_bit.ensures c.set_bit-2.ensures c.set_bit-3.ensures
