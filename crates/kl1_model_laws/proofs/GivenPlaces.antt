-- The places of the new variables of an answer.
use Rattle.std.proofs.Common.{◌≡◌, ◌≤◌, ℕ, suc, ◌==◌, ◌||◌, Bool, true, false, if◌then◌else◌, List, [], ◌∷◌, ◌++◌, refl, sym, arith}
use Rattle.std.specs.Prelude.{length, Some}
use Rattle.std.specs.List.{AllByRecursion}
use Rattle.std.proofs.lemmas.Bool.{false≢true, cond_both, or_left, or_right, eqb-true, eqb-false, eq-eqb}
use Rattle.kl1_model.specs.Module.{is_among}
use Rattle.kl1_model.specs.Telling.{Asked, stands_in, new_among, place_among}
use Rattle.kl1_model_laws.proofs.Holds.{either}

among_longer : (v : ℕ) (ms ns : List ℕ) → is_among v ms ≡ true → is_among v (ms ++ ns) ≡ true
among_longer v [] ns e = absurd (false≢true e)
among_longer v (m ∷ ms) ns e = either (v == m) (is_among v ms) (is_among v (m ∷ ms ++ ns) ≡ true) e (λ f. or_left (v == m) (is_among v (ms ++ ns)) f) (λ f. or_right (v == m) (is_among v (ms ++ ns)) (among_longer v ms ns f))

among_last : (v : ℕ) (ms : List ℕ) → is_among v (ms ++ v ∷ []) ≡ true
among_last v [] = or_left (v == v) false (eq-eqb v v refl)
among_last v (m ∷ ms) = or_right (v == m) (is_among v (ms ++ v ∷ [])) (among_last v ms)

-- what was seen is among the new ones
among_seen : (a : Asked) (seen ns : List ℕ) (v : ℕ) → is_among v seen ≡ true → is_among v (new_among (Some a) seen ns) ≡ true
among_seen a seen [] v e = e
among_seen a seen (n ∷ ns) v e =
    cond_both (stands_in a n || is_among n seen) (new_among (Some a) seen ns) (new_among (Some a) (seen ++ n ∷ []) ns) (λ ws. is_among v ws ≡ true)
    (λ _. among_seen a seen ns v e) (λ _. among_seen a (seen ++ n ∷ []) ns v (among_longer v seen (n ∷ []) e))

given_case : (b : Bool) (a : Asked) (seen : List ℕ) (v : ℕ) (vs : List ℕ) → (stands_in a v || is_among v seen) ≡ b →
    ((now : List ℕ) → AllByRecursion (λ w. (stands_in a w || is_among w (new_among (Some a) now vs)) ≡ true) vs) →
    AllByRecursion (λ w. (stands_in a w || is_among w (if b then new_among (Some a) seen vs else new_among (Some a) (seen ++ v ∷ []) vs)) ≡ true) (v ∷ vs)
given_case true a seen v vs e later =
    let ns = new_among (Some a) seen vs in
    (either (stands_in a v) (is_among v seen) ((stands_in a v || is_among v ns) ≡ true) e (λ f. or_left (stands_in a v) (is_among v ns) f) (λ f. or_right (stands_in a v) (is_among v ns) (among_seen a seen vs v f)), later seen)
given_case false a seen v vs e later =
    let ns = new_among (Some a) (seen ++ v ∷ []) vs in
    (or_right (stands_in a v) (is_among v ns) (among_seen a (seen ++ v ∷ []) vs v (among_last v seen)), later (seen ++ v ∷ []))

-- each variable stands in the goal of an exception or is among the new ones
pub each_given : (a : Asked) (seen vs : List ℕ) → AllByRecursion (λ v. (stands_in a v || is_among v (new_among (Some a) seen vs)) ≡ true) vs
each_given a seen [] = tt
each_given a seen (v ∷ vs) = given_case (stands_in a v || is_among v seen) a seen v vs refl (λ now. each_given a now vs)

-- places count from 1
pub place_is_low : (ms : List ℕ) (v : ℕ) → 1 ≤ place_among ms v
place_is_low [] v = omega arith
place_is_low (m ∷ ms) v = cond_both (m == v) 1 (suc (place_among ms v)) (λ n. 1 ≤ n) (λ _. omega arith) (λ _. omega arith)

place_case : (b : Bool) (m v : ℕ) (ms : List ℕ) → m == v ≡ b → is_among v (m ∷ ms) ≡ true → (is_among v ms ≡ true → place_among ms v ≤ length ms) → (if b then 1 else suc (place_among ms v)) ≤ suc (length ms)
place_case true m v ms e is later = omega arith
place_case false m v ms e is later =
    let there : is_among v ms ≡ true = either (v == m) (is_among v ms) (is_among v ms ≡ true) is (λ f. absurd (eqb-false m v e (sym (eqb-true v m f)))) (λ f. f) in
    let low = later there in omega (arith, low)

-- and a place of one that is there isn't beyond the last
pub place_is_bound : (ms : List ℕ) (v : ℕ) → is_among v ms ≡ true → place_among ms v ≤ length ms
place_is_bound [] v is = absurd (false≢true is)
place_is_bound (m ∷ ms) v is = place_case (m == v) m v ms refl is (place_is_bound ms v)
