use Rattle.std.proofs.Common.{arith}
use Rattle.kl1_queue.proofs.Levels.{cleared_middle, cleared_high, cleared_top, AreCleared}
use Rattle.kl1_queue.proofs.bit_set.BitSet.clear.Goals as goal

pub invariant_of-self-then-clear_bit-gt0-2 : goal.invariant_of-self-then-clear_bit-gt0-2
invariant_of-self-then-clear_bit-gt0-2 c =
    let s = c.self.inside in
    cleared_middle s.low.items c.clear_bit.new.words.items s.middle.items c.clear_bit-2.new.words.items s.high.items s.top c.args.place c.self.invariant c.clear_bit.ensures.cleared c.clear_bit-2.ensures.cleared
    (omega (arith, c.clear_bit.ensures.left, c.if-clear_bit-gt0.false)) (omega (arith, c.clear_bit-2.ensures.left, c.if-clear_bit-gt0-2.true))

pub invariant_of-self-then-clear_bit-gt0-3 : goal.invariant_of-self-then-clear_bit-gt0-3
invariant_of-self-then-clear_bit-gt0-3 c =
    let s = c.self.inside in
    let all : AreCleared s.low.items c.clear_bit.new.words.items s.middle.items c.clear_bit-2.new.words.items s.high.items c.clear_bit-3.new.words.items c.args.place = record {
      at_low = c.clear_bit.ensures.cleared;
      at_middle = c.clear_bit-2.ensures.cleared;
      at_high = c.clear_bit-3.ensures.cleared;
      low_none = omega (arith, c.clear_bit.ensures.left, c.if-clear_bit-gt0.false);
      middle_none = omega (arith, c.clear_bit-2.ensures.left, c.if-clear_bit-gt0-2.false);
    } in
    cleared_high s.low.items c.clear_bit.new.words.items s.middle.items c.clear_bit-2.new.words.items s.high.items c.clear_bit-3.new.words.items s.top c.args.place c.self.invariant all
    (omega (arith, c.clear_bit-3.ensures.left, c.if-clear_bit-gt0-3.true))

pub invariant_of-self-2 : goal.invariant_of-self-2
invariant_of-self-2 c =
    let s = c.self.inside in
    let all : AreCleared s.low.items c.clear_bit.new.words.items s.middle.items c.clear_bit-2.new.words.items s.high.items c.clear_bit-3.new.words.items c.args.place = record {
      at_low = c.clear_bit.ensures.cleared;
      at_middle = c.clear_bit-2.ensures.cleared;
      at_high = c.clear_bit-3.ensures.cleared;
      low_none = omega (arith, c.clear_bit.ensures.left, c.if-clear_bit-gt0.false);
      middle_none = omega (arith, c.clear_bit-2.ensures.left, c.if-clear_bit-gt0-2.false);
    } in
    cleared_top s.low.items c.clear_bit.new.words.items s.middle.items c.clear_bit-2.new.words.items s.high.items c.clear_bit-3.new.words.items s.top c.args.place c.self.invariant (rw c.self.view_is c.requires) all
    (omega (arith, c.clear_bit-3.ensures.left, c.if-clear_bit-gt0-3.false))
