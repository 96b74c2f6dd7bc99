-- What a scan finds in each form of terms.
use Rattle.std.proofs.Common.{◌≡◌, ℕ, zero, suc, List, ap, ap₂, ◌∙◌, sym, arith}
use Rattle.std.specs.Prelude.{Some}
use Rattle.std.proofs.lemmas.Option.{same_Some}
use Rattle.kl1_model.specs.declared.operator.Operator.{Operator}
use Rattle.kl1_model.specs.Term.{Term, structure, Terms, none, more, count_of}
use Rattle.kl1_model.specs.laws.Clashes.{argument_at}
use Rattle.kl1_model.specs.Arithmetic.{operator_named, scan, scan_operation}
use Rattle.kl1_match_guard.specs.declared.part.Part.TheVariants.{Operation}
use Rattle.kl1_match_guard.specs.Forms.{IsStructure}
use Rattle.kl1_match_guard.specs.Parts.{ScansAs}

-- two arguments, one by one
two_of : (ts : Terms) (a b : Term) → count_of ts ≡ 2 → argument_at ts 0 ≡ Some a → argument_at ts 1 ≡ Some b → ts ≡ more a (more b none)
two_of none a b n e d = absurd (omega (arith, n))
two_of (more t none) a b n e d = absurd (omega (arith, n))
two_of (more t (more u none)) a b n e d = ap₂ (λ x y. more x (more y none)) (same_Some t a e) (same_Some u b d)
two_of (more t (more u (more v ts))) a b n e d = absurd (omega (arith, n))

operation_by : {V A : Type 0} (number : V → ℕ) (term : A → Term) (t : Term) (g : List ℕ) (a b : A) (o : Operator) →
    t ≡ structure g (more (term a) (more (term b) none)) → operator_named g ≡ Some o → ScansAs number term t (Operation o a b)
operation_by number term t g a b o e named zero = ap (scan zero) e ∙ ap (λ x. scan_operation x zero (more (term a) (more (term b) none))) named
operation_by number term t g a b o e named (suc n) = ap (scan (suc n)) e ∙ ap (λ x. scan_operation x (suc n) (more (term a) (more (term b) none))) named

-- an operator's name with two arguments
pub operation_scanned : {V A : Type 0} (number : V → ℕ) (term : A → Term) (t : Term) (g : List ℕ) (ts : Terms) (n : ℕ) (a b : A) (o : Operator) →
    IsStructure g ts n t → n ≡ 2 → argument_at ts 0 ≡ Some (term a) → argument_at ts 1 ≡ Some (term b) → Some o ≡ operator_named g → ScansAs number term t (Operation o a b)
operation_scanned number term t g ts n a b o s two first second named =
    operation_by number term t g a b o (s.is ∙ ap (structure g) (two_of ts (term a) (term b) (s.counted ∙ two) first second)) (sym named)
