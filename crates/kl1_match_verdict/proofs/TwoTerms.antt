-- Comparisons of two terms, from their parts.
use Rattle.std.proofs.Common.{◌≡◌, ℕ, true, false, List, [], ◌∷◌, sym, ap, ◌∙◌, subst}
use Rattle.kl1_model.specs.Term.{Term}
use Rattle.kl1_model.specs.Answer.{Answer, no}
use Rattle.kl1_model.specs.Same.{compare}
use Rattle.kl1_model.specs.code.Comparing.{clash, awaited, answer_of_parts}
use Rattle.kl1_model.proofs.Comparisons.{compare_is_parts}
use Rattle.kl1_match.specs.Waiting.{AreSame}
use Rattle.kl1_match.specs.Outcomes.{WaitsFor}
use Rattle.kl1_match.proofs.Naming.{none_same}

parts_wait : (named vs : List ℕ) → AreSame named vs → WaitsFor named (answer_of_parts false vs)
parts_wait named [] s = none_same named (record { each = λ v. ((s.each v).1, (s.each v).0) })
parts_wait named (v ∷ vs) s = s

-- what is waited for by two terms that don't clash
pub compared_waits : (t u : Term) (named : List ℕ) → clash t u ≡ false → AreSame named (awaited t u) → WaitsFor named (compare t u)
compared_waits t u named c s =
    let W : Answer → Type 0 = λ a. WaitsFor named a in
    subst W (sym (compare_is_parts t u ∙ ap (λ b. answer_of_parts b (awaited t u)) c)) (parts_wait named (awaited t u) s)

-- two terms that clash
pub compared_clashes : (t u : Term) → clash t u ≡ true → compare t u ≡ no
compared_clashes t u c = compare_is_parts t u ∙ ap (λ b. answer_of_parts b (awaited t u)) c
