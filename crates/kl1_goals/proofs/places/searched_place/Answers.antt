use Rattle.std.proofs.Common.{◌-◌, arith, sym, ◌∙◌}
use Rattle.std.proofs.lemmas.List.{length-map}
use Rattle.kl1_goals.specs.Slots.{numbers_of, number_in}
use Rattle.kl1_goals.proofs.Orders.{cut_other}
use Rattle.kl1_goals.proofs.Changing.{field_read}
use Rattle.kl1_goals.proofs.places.searched_place.Goals as goal

pub returns-else-index-number : goal.returns-else-index-number
returns-else-index-number g c =
    let ss = c.args.slots.now.items in
    let cut = c.count_upto-count.ensures in
    let k = c.count_upto-count.result - 1 in
    let count = length-map ss (number_in {N = g.row.N.Denot}) in
    let at = field_read number_in ss k c.index.result.now (omega (arith, cut.within, c.if-count-eq0.false, count)) c.index.ensures in
    cut_other (numbers_of ss) c.args.number k c.count_upto-count.result c.requires cut (omega (arith, c.if-count-eq0.false)) (λ e. c.if-index-number.false (sym at ∙ e))
