use Rattle.std.proofs.Common.{subst, IfOk}
use Rattle.kl1_reasons.specs.Judged.{IsLineRefused}
use Rattle.kl1_reasons.proofs.LeftText.{left_is}
use Rattle.kl1_reasons.proofs.judged.line_refused.Goals as goal

pub returns-in_ok-extend_from_slice-in-Some : goal.returns-in_ok-extend_from_slice-in-Some
returns-in_ok-extend_from_slice-in-Some c =
    subst (λ t. IfOk c.refused_in-in-Some.result (IsLineRefused t))
    (left_is _ _ _ _ _ _ _ _ _ c.in-Some.is c.in_ok-left-in-Some.ensures.items c.taken.ensures c.in_ok-put_line_feeds-in-Some.ensures c.dropped.ensures c.in_ok-extend_from_slice-in-Some.ensures.items c.as_slice.ensures.value)
    c.refused_in-in-Some.ensures
