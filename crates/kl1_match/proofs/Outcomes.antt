-- Outcomes of parts together.
use Rattle.std.proofs.Common.{ℕ, Bool, true, false, List, ◌++◌, sym, ap, ◌∙◌, subst, append-nil}
use Rattle.kl1_model.specs.Answer.{Answer, yes, no, wait, together}
use Rattle.kl1_match.specs.Outcomes.{WaitsFor, ComesTo}
use Rattle.kl1_match.proofs.Answered.{together-no}
use Rattle.kl1_match.proofs.Naming.{more_same}

pub both_wait : (ns ms : List ℕ) (o p : Answer) → WaitsFor ns o → WaitsFor ms p → WaitsFor (ns ++ ms) (together o p)
both_wait ns ms yes p a b = let P : List ℕ → Type 0 = λ l. WaitsFor (l ++ ms) p in subst P (sym a) b
both_wait ns ms no p a b = absurd a
both_wait ns ms (wait vs) yes a b = let P : List ℕ → Type 0 = λ l. WaitsFor l (wait vs) in subst P (sym (ap (λ l. ns ++ l) b ∙ append-nil ns)) a
both_wait ns ms (wait vs) no a b = absurd b
both_wait ns ms (wait vs) (wait ws) a b = more_same ns vs ms ws a b

-- a part that waits, and another
pub both_come : (b : Bool) (ns ms : List ℕ) (o p : Answer) → WaitsFor ns o → ComesTo b ms p → ComesTo b (ns ++ ms) (together o p)
both_come true ns ms o p a k = both_wait ns ms o p a k
both_come false ns ms o p a k = ap (together o) k ∙ together-no o
