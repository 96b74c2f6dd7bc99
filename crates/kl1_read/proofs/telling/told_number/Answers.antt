use Rattle.std.proofs.Common.{arith}
use Rattle.kl1_read.proofs.Tellings.{number_bounds, told_one, untold_one}
use Rattle.kl1_read.proofs.telling.told_number.Goals as goal

pub returns-in-Some : goal.returns-in-Some
returns-in-Some c = told_one c.args.numbers.now c.args.seen.now.items c.args.text c.in-Some.number c.requires c.in-Some.ensures

-- variables are counted from 1
pub overflow_sub-result : goal.overflow_sub-result
overflow_sub-result c =
    let bounds = number_bounds c.args.seen.now.items c.args.text in
    let value = c.in_ok-number.ensures.value in
    omega (arith, bounds.0, value)

pub returns : goal.returns
returns c = untold_one c.number_of.new.numbers c.args.seen.now.items c.number_of.new.seen.items c.args.text c.in_ok-number.number c.in_default.ensures c.in_ok-number.ensures
