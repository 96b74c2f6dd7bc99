use Rattle.std.proofs.Common.{refl, arith}
use Rattle.kl1_log.proofs.Faults.{split_goes_on, front_whole, front_short}
use Rattle.kl1_log.proofs.recovery.front.Goals as goal

pub returns-in_default : goal.returns-in_default
returns-in_default c = front_short c.args.text.now c.loop-count.rest.now c.loop-count.count c.args.lines c.loop-count.invariant.0 c.loop-count.invariant.1 (c.in_default.ensures.none refl)

pub loop-count-preserved : goal.loop-count-preserved
loop-count-preserved c =
    let more = c.loop-count-test.true in
    (split_goes_on c.args.text.now c.loop-count.rest.now c.in-Some.field-0-0.now c.in-Some.after.now c.loop-count.count c.loop-count.invariant.0 c.in-Some.ensures.some, omega (arith, more))

pub returns : goal.returns
returns c =
    let done = c.loop-count-test.false in
    let few = c.loop-count.invariant.1 in
    front_whole c.args.text.now c.loop-count.rest.now c.loop-count.count c.args.lines c.loop-count.invariant.0 (omega (arith, done, few))
