use Rattle.std.proofs.Common.{sym, ap, ◌∙◌, arith}
use Rattle.kl1_sums.specs.Sums.{sum_of}
use Rattle.kl1_sums.specs.SumValues.{digits_of}
use Rattle.kl1_sums.proofs.Rightness.{other_sum, same_sum}
use Rattle.kl1_sums.proofs.plain.right_line.Goals as goal

pub returns-then-eq-clause-right : goal.returns-then-eq-clause-right
returns-then-eq-clause-right c =
    let few = c.if-line-lt-BEFORE.false in
    same_sum (digits_of c.args.prev.now) c.args.line.now c.as_slice.result.now (c.as_slice.ensures ∙ c.then-sum.ensures ∙ ap (sum_of (digits_of c.args.prev.now)) c.behind_sum-plain.ensures) (omega (arith, few)) c.if-line-ne32.false (sym c.eq.ensures ∙ c.if-eq.true)

pub returns-clause-right : goal.returns-clause-right
returns-clause-right c = other_sum (digits_of c.args.prev.now) c.args.line.now c.as_slice.result.now (c.as_slice.ensures ∙ c.then-sum.ensures ∙ ap (sum_of (digits_of c.args.prev.now)) c.behind_sum-plain.ensures) (sym c.eq.ensures ∙ c.if-eq.false)
