-- What a solution does: by induction on what the front equations led to.
use Rattle.std.proofs.Common.{◌≡◌, ℕ, zero, suc, false, List, [], ◌∷◌, Option, Some, None, option_map, IfSome, subst}
use Rattle.std.proofs.lemmas.Option.{IfSome_then}
use Rattle.kl1_model.specs.Term.{Term, variable, structure, Terms, count_of, occurs, Replacement}
use Rattle.kl1_model.specs.Unify.{Equation, argument_equations, replace_in_all, equations_size, mgu_within, highest_among, mgu}
use Rattle.kl1_model.specs.code.Unifying.{after}
use Rattle.kl1_model.specs.laws.UnifyLaws.{equate, bind, IsLower}
use Rattle.kl1_model.proofs.UnifyFront.{front_cases}

-- what holds of equations and their solution, if it holds in each case
pub record HoldsInEachCase (P : List Equation → List Replacement → Type 0) : Type 0 where
  pub done : P [] []
  pub same : (t : Term) (es : List Equation) (rs : List Replacement) → P es rs → P (equate t t ∷ es) rs
  pub inner : (f : List ℕ) (ts us : Terms) (es : List Equation) (rs : List Replacement) → count_of ts ≡ count_of us → P (argument_equations ts us es) rs → P (equate (structure f ts) (structure f us) ∷ es) rs
  pub left : (v : ℕ) (t : Term) (es : List Equation) (rs : List Replacement) → occurs v t ≡ false → IsLower v t → P (replace_in_all v t es) rs → P (equate (variable v) t ∷ es) (bind v t ∷ rs)
  pub right : (v : ℕ) (t : Term) (es : List Equation) (rs : List Replacement) → occurs v t ≡ false → IsLower v t → P (replace_in_all v t es) rs → P (equate t (variable v) ∷ es) (bind v t ∷ rs)

IfSome-option_map : {A B : Type 0} (f : A → B) (o : Option A) (P : B → Type 0) → IfSome o (λ x. P (f x)) → IfSome (option_map f o) P
IfSome-option_map f None P h = tt
IfSome-option_map f (Some x) P h = h

solve_holds : (P : List Equation → List Replacement → Type 0) → HoldsInEachCase P → (n m : ℕ) (es : List Equation) → IfSome (mgu_within n m es) (P es)
unfolding mgu_within
solve_holds P c n m [] = c.done
solve_holds P c zero m (e ∷ es) = tt
solve_holds P c (suc n) zero (e ∷ es) = tt
solve_holds P c (suc n) (suc m) (e ∷ es) =
    let same : List Equation → Option (List Replacement) = λ to. mgu_within (suc n) m to in
    let next : List Equation → Option (List Replacement) = λ to. mgu_within n (equations_size to) to in
    let on : (to : List Equation) → IfSome (same to) (P to) = solve_holds P c (suc n) m in
    let then : (to : List Equation) → IfSome (next to) (P to) = λ to. solve_holds P c n (equations_size to) to in
    front_cases es (λ a b r. IfSome (after same next r) (P (equate a b ∷ es)))
    (λ t. IfSome_then (same es) (on es) (c.same t es))
    (λ f ts us k. IfSome_then (same (argument_equations ts us es)) (on (argument_equations ts us es)) (λ rs. c.inner f ts us es rs k))
    (λ v t o w. IfSome-option_map (λ rest. bind v t ∷ rest) (next (replace_in_all v t es)) (P (equate (variable v) t ∷ es)) (IfSome_then (next (replace_in_all v t es)) (then (replace_in_all v t es)) (λ rs. c.left v t es rs o w)))
    (λ v t o w. IfSome-option_map (λ rest. bind v t ∷ rest) (next (replace_in_all v t es)) (P (equate t (variable v) ∷ es)) (IfSome_then (next (replace_in_all v t es)) (then (replace_in_all v t es)) (λ rs. c.right v t es rs o w)))
    (λ a b x. tt)
    e.left e.right

-- what holds in each case holds of a solution
pub holds_of_solution : (P : List Equation → List Replacement → Type 0) → HoldsInEachCase P → (es : List Equation) (rs : List Replacement) → mgu es ≡ Some rs → P es rs
holds_of_solution P c es rs e = subst (λ o. IfSome o (P es)) e (solve_holds P c (suc (suc (highest_among es))) (equations_size es) es)
