-- What holds of equations and their answer, a solution or none: by induction on what the front equations led to.
use Rattle.std.proofs.Common.{◌≡◌, ℕ, zero, suc, ◌<◌, ◌≤◌, false, List, [], ◌∷◌, Option, Some, None, option_map, arith, le_refl}
use Rattle.kl1_model.specs.Term.{Term, variable, structure, Terms, count_of, occurs, Replacement}
use Rattle.kl1_model.specs.Unify.{Equation, argument_equations, transformed, replace_in_all, equations_size, mgu_within, highest_among, mgu}
use Rattle.kl1_model.specs.code.Unifying.{after}
use Rattle.kl1_model.specs.laws.UnifyLaws.{equate, bind, IsLower, AllNumberedTo}
use Rattle.kl1_model.proofs.UnifyFront.{Clash, front_cases}
use Rattle.kl1_model.proofs.Occurrences.{numbered_to_highest}
use Rattle.kl1_model.proofs.UnifyRule.{Shrinks, Loses, shrinks_same, shrinks_arguments, loses_left, loses_right, variables_in, variables_most}

-- what holds of equations and their answer, if it holds in each case
pub record HoldsOfEachAnswer (P : List Equation → Option (List Replacement) → Type 0) : Type 0 where
  pub done : P [] (Some [])
  pub same : (t : Term) (es : List Equation) (o : Option (List Replacement)) → P es o → P (equate t t ∷ es) o
  pub inner : (f : List ℕ) (ts us : Terms) (es : List Equation) (o : Option (List Replacement)) → count_of ts ≡ count_of us → P (argument_equations ts us es) o → P (equate (structure f ts) (structure f us) ∷ es) o
  pub left : (v : ℕ) (t : Term) (es : List Equation) (o : Option (List Replacement)) → occurs v t ≡ false → IsLower v t → P (replace_in_all v t es) o → P (equate (variable v) t ∷ es) (option_map (λ rest. bind v t ∷ rest) o)
  pub right : (v : ℕ) (t : Term) (es : List Equation) (o : Option (List Replacement)) → occurs v t ≡ false → IsLower v t → P (replace_in_all v t es) o → P (equate t (variable v) ∷ es) (option_map (λ rest. bind v t ∷ rest) o)
  pub clash : (t u : Term) (es : List Equation) → Clash t u → P (equate t u ∷ es) None

after_answers : (P : List Equation → Option (List Replacement) → Type 0) → HoldsOfEachAnswer P → (last : ℕ) (e : Equation) (es : List Equation) (same next : List Equation → Option (List Replacement)) → AllNumberedTo last (e ∷ es) → ((to : List Equation) → Shrinks last (e ∷ es) to → P to (same to)) → ((to : List Equation) → Loses last (e ∷ es) to → P to (next to)) → P (e ∷ es) (after same next (transformed e.left e.right es))
after_answers P c last e es same next h shrinks loses =
    front_cases es (λ a b r. AllNumberedTo last (equate a b ∷ es) → ((to : List Equation) → Shrinks last (equate a b ∷ es) to → P to (same to)) → ((to : List Equation) → Loses last (equate a b ∷ es) to → P to (next to)) → P (equate a b ∷ es) (after same next r))
    (λ t h p l. c.same t es (same es) (p es (shrinks_same last t es h)))
    (λ f ts us n h p l. c.inner f ts us es (same (argument_equations ts us es)) n (p (argument_equations ts us es) (shrinks_arguments last f ts us es h)))
    (λ v t o w h p l. c.left v t es (next (replace_in_all v t es)) o w (l (replace_in_all v t es) (loses_left last v t es o h)))
    (λ v t o w h p l. c.right v t es (next (replace_in_all v t es)) o w (l (replace_in_all v t es) (loses_right last v t es o h)))
    (λ a b x h p l. c.clash a b es x)
    e.left e.right h shrinks loses

solve_answers : (P : List Equation → Option (List Replacement) → Type 0) → HoldsOfEachAnswer P → (last n m : ℕ) (es : List Equation) → AllNumberedTo last es → variables_in last es < n → equations_size es ≤ m → P es (mgu_within n m es)
unfolding mgu_within
solve_answers P c last n m [] h v l = c.done
solve_answers P c last zero m (e ∷ es) h v l = absurd (omega arith)
solve_answers P c last (suc n) zero (e ∷ es) h v l = absurd (omega arith)
solve_answers P c last (suc n) (suc m) (e ∷ es) h v l =
    after_answers P c last e es (mgu_within (suc n) m) (λ to. mgu_within n (equations_size to) to) h
    (λ to p. let w = p.variables in let k = p.smaller in solve_answers P c last (suc n) m to p.numbered (omega arith) (omega arith))
    (λ to p. let w = p.variables in solve_answers P c last n (equations_size to) to p.numbered (omega arith) (le_refl (equations_size to)))

-- what holds in each case holds of the answer
pub holds_of_answer : (P : List Equation → Option (List Replacement) → Type 0) → HoldsOfEachAnswer P → (es : List Equation) → P es (mgu es)
holds_of_answer P c es =
    let last = highest_among es in
    let l = variables_most last es in
    let k : variables_in last es < suc (suc last) = omega arith in
    solve_answers P c last (suc (suc last)) (equations_size es) es (numbered_to_highest es) k (le_refl (equations_size es))
