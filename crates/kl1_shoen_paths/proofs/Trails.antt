-- What a list was, by the trail of what was put into it.
use Rattle.std.proofs.Common.{◌≡◌, ℕ, suc, ◌<◌, ◌≤◌, ◌⊎◌, inl, inr, List, [], ◌∷◌, length, get_or, take, set, refl, sym, ap, ◌∙◌, arith, subst}
use Rattle.std.specs.Prelude.{Contains}
use Rattle.std.proofs.lemmas.Bool.{cases_eq}
use Rattle.std.proofs.lemmas.List.{length-set, length-take-le, get_or-take, get_or-set_same, get_or-set_other}
use Rattle.kl1_shoen_paths.specs.declared.tracked.Was.{Was}
use Rattle.kl1_shoen_paths.specs.Tracked.{IsTrail, put_back}

length_back : {A : Type 0} (ws : List (Was A)) (xs : List A) → length (put_back ws xs) ≡ length xs
length_back [] xs = refl
length_back (w ∷ ws) xs = length-set (put_back ws xs) w.place w.value ∙ length_back ws xs

contains_later : {A : Type 0} (x y : A) (xs : List A) → Contains xs x → Contains (y ∷ xs) x
contains_later x y xs c = (suc c.0, (let l = c.1 in omega (arith, l)), c.2)

-- what is put back at a place stood there, or is of the trail
put_from : {A : Type 0} (ws : List (Was A)) (xs : List A) (place : ℕ) (a : A) → place < length xs → (get_or (put_back ws xs) place a ≡ get_or xs place a) ⊎ Contains ws (record { place = place; value = get_or (put_back ws xs) place a })
put_from [] xs place a lt = inl refl
put_from {A = A} (w ∷ ws) xs place a lt = by_case (put_from ws xs place a lt) (cases_eq place w.place)
  where
    back : List A
    back = put_back ws xs

    Noted : List (Was A) → A → Type 0
    Noted vs b = Contains vs (record { place = place; value = b })

    later : (get_or back place a ≡ get_or xs place a) ⊎ Noted ws (get_or back place a) → (get_or back place a ≡ get_or xs place a) ⊎ Noted (w ∷ ws) (get_or back place a)
    later (inl e) = inl e
    later (inr c) = inr (contains_later (record { place = place; value = get_or back place a }) w ws c)

    by_case : (get_or back place a ≡ get_or xs place a) ⊎ Noted ws (get_or back place a) → (place ≡ w.place) ⊎ (place ≡ w.place → ⊥) → (get_or (set back w.place w.value) place a ≡ get_or xs place a) ⊎ Noted (w ∷ ws) (get_or (set back w.place w.value) place a)
    by_case rest (inl e) =
        let len = length_back ws xs in
        let is : get_or (set back w.place w.value) place a ≡ w.value = ap (λ k. get_or (set back w.place w.value) k a) e ∙ get_or-set_same back w.place w.value a (omega (arith, lt, len, e)) in
        inr (subst (λ (b : A). Noted (w ∷ ws) b) (sym is) (subst (λ (k : ℕ). Contains (w ∷ ws) (record { place = k; value = w.value })) (sym e) (0, omega arith, refl)))
    by_case rest (inr other) =
        subst (λ (b : A). (b ≡ get_or xs place a) ⊎ Noted (w ∷ ws) b) (sym (get_or-set_other back w.place place w.value a other)) (later rest)

-- a list that is put back is known from the trail
pub is_trail : {A : Type 0} (xs : List A) (ws : List (Was A)) (mark : ℕ) → mark ≤ length xs → IsTrail xs (put_back ws (take mark xs)) ws
is_trail {A = A} xs ws mark few = record {
  few = omega (arith, few, count);
  was = λ place a lt. by_taken place a (omega (arith, lt, count)) (put_from ws (take mark xs) place a (omega (arith, lt, back)));
}
  where
    back : length (put_back ws (take mark xs)) ≡ length (take mark xs)
    back = length_back ws (take mark xs)

    count : length (put_back ws (take mark xs)) ≡ mark
    count = back ∙ length-take-le mark xs few

    by_taken : (place : ℕ) (a : A) → place < mark → (get_or (put_back ws (take mark xs)) place a ≡ get_or (take mark xs) place a) ⊎ Contains ws (record { place = place; value = get_or (put_back ws (take mark xs)) place a }) →
        (get_or (put_back ws (take mark xs)) place a ≡ get_or xs place a) ⊎ Contains ws (record { place = place; value = get_or (put_back ws (take mark xs)) place a })
    by_taken place a lt (inl e) = inl (e ∙ get_or-take mark xs place a lt)
    by_taken place a lt (inr c) = inr c
