use Rattle.std.proofs.Common.{drop, sym, ap, ◌∙◌}
use Rattle.std.specs.Prelude.{bytes_eq, codes, decimal, ◌++◌}
use Rattle.kl1_read.proofs.Tellings.{too_great, is_zero, other_spelling, tells}
use Rattle.kl1_read.proofs.telling.told_by.Goals as goal

pub returns-in_default : goal.returns-in_default
returns-in_default c =
    too_great c.args.text.now c.behind_first.result.now c.decimal_up_to.result (c.behind_first.ensures ∙ ap (drop 1) (c.as_slice.ensures ∙ c.unpacked-bytes.ensures.value)) c.decimal_up_to.ensures c.in_default.is

pub returns-then-number-eq0 : goal.returns-then-number-eq0
returns-then-number-eq0 c =
    is_zero c.args.text.now c.behind_first.result.now c.decimal_up_to.result c.in-Some.number (c.behind_first.ensures ∙ ap (drop 1) (c.as_slice.ensures ∙ c.unpacked-bytes.ensures.value)) c.decimal_up_to.ensures c.in-Some.is c.if-number-eq0.true

pub returns-then-not-is_underscored : goal.returns-then-not-is_underscored
returns-then-not-is_underscored c =
    other_spelling c.args.text.now c.behind_first.result.now c.decimal_up_to.result c.in-Some.number (c.behind_first.ensures ∙ ap (drop 1) (c.as_slice.ensures ∙ c.unpacked-bytes.ensures.value)) c.decimal_up_to.ensures c.in-Some.is
    (ap (λ bs. bytes_eq bs (codes "_" ++ decimal c.in-Some.number)) (sym (c.as_slice-2.ensures ∙ c.unpacked-bytes.ensures.value)) ∙ sym c.is_underscored.ensures ∙ c.if-not-is_underscored.true)

pub returns : goal.returns
returns c =
    tells c.args.text.now c.behind_first.result.now c.decimal_up_to.result c.in-Some.number (c.behind_first.ensures ∙ ap (drop 1) (c.as_slice.ensures ∙ c.unpacked-bytes.ensures.value)) c.decimal_up_to.ensures c.in-Some.is c.if-number-eq0.false
    (ap (λ bs. bytes_eq bs (codes "_" ++ decimal c.in-Some.number)) (sym (c.as_slice-2.ensures ∙ c.unpacked-bytes.ensures.value)) ∙ sym c.is_underscored.ensures ∙ c.if-not-is_underscored.false)
