use Rattle.std.proofs.Common.{refl, ◌∙◌, arith}
use Rattle.kl1_log.proofs.Faults.{split_goes_on}
use Rattle.kl1_host.proofs.Cutting.{as_many, cut_whole, cut_short}
use Rattle.kl1_host.proofs.repair.bytes_before.Goals as goal

pub returns-in_default-clause-before : goal.returns-in_default-clause-before
returns-in_default-clause-before c =
    let lines = c.saturating_sub-lines in
    cut_short c.args.text.now c.loop-count.rest.now c.loop-count.count lines.result c.loop-count.invariant.0 c.loop-count.invariant.1 (c.in_default.ensures.none refl)
    ∙ as_many c.args.text.now lines.ensures

pub loop-count-preserved : goal.loop-count-preserved
loop-count-preserved c =
    let more = c.loop-count-test.true in
    (split_goes_on c.args.text.now c.loop-count.rest.now c.in-Some.field-0-0.now c.in-Some.after.now c.loop-count.count c.loop-count.invariant.0 c.in-Some.ensures.some, omega (arith, more))

pub returns-clause-before : goal.returns-clause-before
returns-clause-before c =
    let lines = c.saturating_sub-lines in
    let done = c.loop-count-test.false in
    let few = c.loop-count.invariant.1 in
    cut_whole c.args.text.now c.loop-count.rest.now c.loop-count.count lines.result c.loop-count.invariant.0 (omega (arith, done, few))
    ∙ as_many c.args.text.now lines.ensures
