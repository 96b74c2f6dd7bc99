use Rattle.std.proofs.Common.{◌+◌, ◌-◌, ◌/◌, arith}
use Rattle.std.proofs.lemmas.List.{length-map}
use Rattle.kl1_goals.specs.Slots.{numbers_of, number_in}
use Rattle.kl1_goals.proofs.Orders.{ascend_le}
use Rattle.kl1_goals.proofs.Changing.{field_read}
use Rattle.kl1_goals.proofs.places.count_upto.Goals as goal

pub loop-low-preserved-then-index-number : goal.loop-low-preserved-then-index-number
loop-low-preserved-then-index-number g c =
    let ss = c.args.slots.now.items in
    let l = c.loop-low in
    let m = l.low + (l.high - l.low) / 2 in
    let count = length-map ss (number_in {N = g.row.N.Denot}) in
    let at = field_read number_in ss m c.index.result.now (omega (arith, l.invariant.within, c.loop-low-test.true, count)) c.index.ensures in
    record {
      order = omega (arith, c.loop-low-test.true);
      within = l.invariant.within;
      below = λ j p. omega (arith, ascend_le 0 (numbers_of ss) j m c.requires (omega arith) (omega (arith, l.invariant.within, c.loop-low-test.true)), at, c.if-index-number.true);
      above = l.invariant.above;
    }

pub loop-low-preserved : goal.loop-low-preserved
loop-low-preserved g c =
    let ss = c.args.slots.now.items in
    let l = c.loop-low in
    let m = l.low + (l.high - l.low) / 2 in
    let count = length-map ss (number_in {N = g.row.N.Denot}) in
    let at = field_read number_in ss m c.index.result.now (omega (arith, l.invariant.within, c.loop-low-test.true, count)) c.index.ensures in
    record {
      order = omega arith;
      within = omega (arith, l.invariant.within, c.loop-low-test.true);
      below = l.invariant.below;
      above = λ j p w. omega (arith, ascend_le 0 (numbers_of ss) m j c.requires p w, at, c.if-index-number.false);
    }
