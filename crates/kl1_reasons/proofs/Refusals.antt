-- There are reasons exactly if a source is refused.
use Rattle.std.specs.Prelude.{◌≡◌, ℕ, zero, suc, ◌<◌, ◌==◌, nat_le, not, ◌&&◌, Bool, true, false, List, [], ◌∷◌, length, None}
use Rattle.std.proofs.Common.{ap, sym, ◌∙◌, arith}
use Rattle.std.proofs.Math.Dec.{eqb-suc-zero}
use Rattle.kl1_model.specs.declared.limits.TheConstants.{MOST_SOURCE_BYTES}
use Rattle.kl1_model.specs.Module.{read_module}
use Rattle.kl1_reasons.specs.declared.reason.Reason.{Reason}
use Rattle.kl1_reasons.specs.Reasons.{is_good, Explain, IsAtFront, Explains}
use Rattle.kl1_reasons.specs.Refused.{is_refused}

-- what reasons say of a source that is short enough, or of one that is too long
abbrev ExplainBy : Bool → ℕ → List ℕ → List Reason → Type 0
ExplainBy b most text rs = elim b [ true ↦ Explain most text None rs | false ↦ IsAtFront rs ]

by_length : (b : Bool) (most : ℕ) (text : List ℕ) (rs : List Reason) → ExplainBy b (suc most) text rs → not (length rs == 0) ≡ not (b && is_good (read_module text))
by_length true most text [] h = ap not (sym h)
by_length true most text (r ∷ rs) h = ap not (eqb-suc-zero (length rs)) ∙ ap (λ x. not (is_good x)) (sym h.0.0)
by_length false most text rs h = ap (λ n. not (n == 0)) h.0

-- there are reasons exactly if a source is refused
pub reasons_if_refused : (most : ℕ) (text : List ℕ) (rs : List Reason) → Explains most text rs → 0 < most → not (length rs == 0) ≡ is_refused text
reasons_if_refused zero text rs h some = absurd (omega arith)
reasons_if_refused (suc most) text rs h some = by_length (nat_le (length text) MOST_SOURCE_BYTES) most text rs h
