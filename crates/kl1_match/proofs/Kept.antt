-- Places that are kept as cells.
use Rattle.std.proofs.Common.{◌≡◌, ℕ, zero, suc, ◌+◌, ◌-◌, ◌<◌, ◌==◌, List, [], ◌∷◌, ◌++◌, length, take, replicate, refl, ap, sym, ◌∙◌, slice_index_or, slice_set, arith, ne_eqb, eq-eqb, append-nil}
use Rattle.std.proofs.lemmas.List.{take_all}
use Rattle.kl1_store.specs.declared.cell.Cell.{Cell}
use Rattle.kl1_match.specs.Variables.{cell_at}
use Rattle.kl1_match.specs.Kept.{places_from, places_behind}
use Rattle.kl1_match.proofs.Places.{at_same, choice_true, choice_false}

-- one cell more is the place of the next variable
from_more : {N : Type 0} (n : ℕ) (xs : List (Cell N)) (x : Cell N) → places_from n (xs ++ x ∷ []) ≡ places_from n xs ++ record { variable = n + length xs; cell = x } ∷ []
from_more {N = N} n [] x = let e : n ≡ n + 0 = omega arith in ap (λ m. record { variable = m; cell = x } ∷ []) e
from_more {N = N} n (y ∷ ys) x =
    let e : suc n + length ys ≡ n + suc (length ys) = omega arith in
    ap (λ ps. record { variable = n; cell = y } ∷ ps) (from_more (suc n) ys x ∙ ap (λ m. places_from (suc n) ys ++ record { variable = m; cell = x } ∷ []) e)

-- one cell more is the place of the next variable, after a first cell
pub behind_more : {N : Type 0} (xs : List (Cell N)) (x : Cell N) → 0 < length xs → places_behind (xs ++ x ∷ []) ≡ places_behind xs ++ record { variable = length xs; cell = x } ∷ []
behind_more [] x some = absurd (omega (arith, some))
behind_more (y ∷ ys) x some =
    let e : 1 + length ys ≡ suc (length ys) = omega arith in
    from_more 1 ys x ∙ ap (λ n. places_from 1 ys ++ record { variable = n; cell = x } ∷ []) e

-- a variable before the first has no place
low_place : {N : Type 0} (n v : ℕ) (xs : List (Cell N)) (none : Cell N) → v < n → cell_at (places_from n xs) v none ≡ none
low_place n v [] none h = refl
low_place n v (x ∷ xs) none h =
    choice_false (n == v) x (cell_at (places_from (suc n) xs) v none) (ne_eqb n v (λ e. absurd (omega (arith, e, h)))) ∙ low_place (suc n) v xs none (omega (arith, h))

-- cells that were cut or filled up to `count` stand at the places of their variables
cut_or_filled : {N : Type 0} (n count wanted i v : ℕ) (xs : List (Cell N)) (none d : Cell N) → wanted ≡ count - length xs → i < count → v ≡ n + i →
    slice_index_or (take count xs ++ replicate wanted none) i d ≡ cell_at (places_from n xs) v none
cut_or_filled n zero wanted i v xs none d w h e = absurd (omega (arith, h))
cut_or_filled n (suc c) wanted i v [] none d w h e = at_same wanted i none d (omega (arith, w, h))
cut_or_filled n (suc c) wanted zero v (x ∷ xs) none d w h e =
    sym (choice_true (n == v) x (cell_at (places_from (suc n) xs) v none) (eq-eqb n v (omega (arith, e))))
cut_or_filled n (suc c) wanted (suc i) v (x ∷ xs) none d w h e =
    cut_or_filled (suc n) c wanted i v xs none d (omega (arith, w)) (omega (arith, h)) (omega (arith, e))
    ∙ sym (choice_false (n == v) x (cell_at (places_from (suc n) xs) v none) (ne_eqb n v (λ q. absurd (omega (arith, q, e)))))

-- one for none is put in place of the first of equal cells
set_same : {N : Type 0} (wanted v : ℕ) (none d : Cell N) → v < wanted → slice_index_or (slice_set (replicate wanted none) 0 none) v d ≡ none
set_same zero v none d h = absurd (omega (arith, h))
set_same (suc c) zero none d h = refl
set_same (suc c) (suc i) none d h = at_same c i none d (omega (arith, h))

-- cells that were cut or filled up to `count`, the first then standing for none, are those at the places after the first
pub filled_behind : {N : Type 0} (count wanted : ℕ) (old now : List (Cell N)) (none : Cell N) → wanted ≡ count - length old → now ≡ take count old ++ replicate wanted none →
    (v : ℕ) (d : Cell N) → v < count → slice_index_or (slice_set now 0 none) v d ≡ cell_at (places_behind old) v none
filled_behind zero wanted old now none w is v d h = absurd (omega (arith, h))
filled_behind (suc c) wanted [] now none w is v d h = ap (λ xs. slice_index_or (slice_set xs 0 none) v d) is ∙ set_same wanted v none d (omega (arith, w, h))
filled_behind (suc c) wanted (x ∷ xs) now none w is zero d h = ap (λ ys. slice_index_or (slice_set ys 0 none) 0 d) is ∙ sym (low_place 1 0 xs none (omega arith))
filled_behind (suc c) wanted (x ∷ xs) now none w is (suc i) d h =
    ap (λ ys. slice_index_or (slice_set ys 0 none) (suc i) d) is ∙ cut_or_filled 1 c wanted i (suc i) xs none d (omega (arith, w)) (omega (arith, h)) (omega arith)

-- cells that are as many as wanted are neither cut nor filled up
pub as_many : {N : Type 0} (count : ℕ) (old : List (Cell N)) (none : Cell N) → length old ≡ count → old ≡ take count old ++ replicate 0 none
as_many count old none e = sym (append-nil (take count old) ∙ take_all count old (omega (arith, e)))
