use Rattle.std.proofs.Common.{◌+◌, ◌*◌, ◌<◌, ◌^◌, arith, lit<, zero-add}
use Rattle.std.proofs.Math.Nat.{one-le-pow}
use Rattle.std.proofs.lemmas.Grind.{common_steps}
use Rattle.kl1_text.proofs.Words.{number_of_none, number_of_end, number_of_step, one_byte_more, eight_fit}
use Rattle.kl1_text.proofs.packing.+number_of.Goals as goal

pub returns-then-count-eq0-clause-value : goal.returns-then-count-eq0-clause-value
returns-then-count-eq0-clause-value t c = grind (arith, number_of_none)

pub overflow_mul-result : goal.overflow_mul-result
overflow_mul-result t c =
    let more : 0 + 256 * c.number_of.result < 256 ^ c.args.count = one_byte_more c.args.count 0 c.number_of.result (omega arith) (lit< tt) c.number_of.ensures.below in
    let fits : 256 * c.number_of.result < 2 ^ 64 = eight_fit c.args.count (256 * c.number_of.result) c.requires.few (rw zero-add at more) in
    omega arith

pub overflow_add-result : goal.overflow_add-result
overflow_add-result t c = grind (arith, common_steps, one_byte_more c.args.count c.from.result c.number_of.result, eight_fit c.args.count)

pub returns-in-empty-clause-value : goal.returns-in-empty-clause-value
returns-in-empty-clause-value t c = grind (arith, number_of_end)

pub returns-in-empty-clause-below : goal.returns-in-empty-clause-below
returns-in-empty-clause-below t c = one-le-pow c.args.count 256 (omega arith)

pub returns-in-len1-up-clause-value : goal.returns-in-len1-up-clause-value
returns-in-len1-up-clause-value t c = grind (arith, common_steps, number_of_step c.args.count c.args.bytes.now)

pub returns-in-len1-up-clause-below : goal.returns-in-len1-up-clause-below
returns-in-len1-up-clause-below t c = grind (arith, common_steps, one_byte_more c.args.count c.from.result c.number_of.result)
