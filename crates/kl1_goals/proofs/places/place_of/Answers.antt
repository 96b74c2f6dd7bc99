use Rattle.std.proofs.Common.{◌-◌, arith}
use Rattle.std.proofs.lemmas.List.{length-map}
use Rattle.kl1_goals.specs.Slots.{numbers_of, number_in}
use Rattle.kl1_goals.proofs.Orders.{below_absent, below_end}
use Rattle.kl1_goals.proofs.Changing.{field_read}
use Rattle.kl1_goals.proofs.places.place_of.Goals as goal

pub returns-then-last-number : goal.returns-then-last-number
returns-then-last-number g c =
    let ss = c.args.slots.now.items in
    let k = c.len-count.result - 1 in
    let count = length-map ss (number_in {N = g.row.N.Denot}) in
    let len = c.args.slots.now.ok.0 in
    let at = field_read number_in ss k c.index.result.now (omega (arith, c.len-count.ensures, len, c.if-count-eq0.false)) c.index.ensures in
    below_absent (numbers_of ss) c.args.number (below_end (numbers_of ss) k c.args.number c.requires (omega (arith, c.len-count.ensures, len, count, c.if-count-eq0.false)) (omega (arith, at, c.if-last-number.true)))
