-- Lists that are put back to what they were.
use Rattle.std.proofs.Common.{◌≡◌, ℕ, zero, suc, ◌≤◌, List, [], ◌∷◌, ◌++◌, length, get_or, take, set, refl, sym, ap, ◌∙◌, arith}
use Rattle.std.proofs.lemmas.List.{set-set, set-get_or, take_all, take-append-le}
use Rattle.kl1_shoen_paths.specs.declared.tracked.Was.{Was}
use Rattle.kl1_shoen_paths.specs.Tracked.{put_back}

pub put_none : {A : Type 0} (ws : List (Was A)) (xs : List A) → ws ≡ [] → put_back ws xs ≡ xs
put_none ws xs e = ap (λ vs. put_back vs xs) e

pub put_whole : {A : Type 0} (ws : List (Was A)) (xs : List A) (n : ℕ) → ws ≡ [] → length xs ≤ n → put_back ws (take n xs) ≡ xs
put_whole ws xs n e le = ap (λ vs. put_back vs (take n xs)) e ∙ take_all n xs le

pub put_last : {A : Type 0} (ws : List (Was A)) (w : Was A) (xs : List A) → put_back (ws ++ w ∷ []) xs ≡ put_back ws (set xs w.place w.value)
put_last [] w xs = refl
put_last (v ∷ ws) w xs = ap (λ ys. set ys v.place v.value) (put_last ws w xs)

pub put_beyond : {A : Type 0} (xs : List A) (i : ℕ) (a : A) → length xs ≤ i → set xs i a ≡ xs
put_beyond [] i a le = refl
put_beyond (x ∷ xs) zero a le = absurd (omega (arith, le))
put_beyond (x ∷ xs) (suc i) a le = ap (λ ys. x ∷ ys) (put_beyond xs i a (omega (arith, le)))

take_set : {A : Type 0} (k : ℕ) (xs : List A) (i : ℕ) (a : A) → take k (set xs i a) ≡ set (take k xs) i a
take_set zero xs i a = refl
take_set (suc k) [] i a = refl
take_set (suc k) (x ∷ xs) zero a = refl
take_set (suc k) (x ∷ xs) (suc i) a = ap (λ ys. x ∷ ys) (take_set k xs i a)

-- an item that is put in place of another, which is noted, changes nothing of what the list was
pub put_more : {A : Type 0} (ws : List (Was A)) (xs : List A) (mark : ℕ) (w : Was A) (x : A) → w.value ≡ get_or xs w.place w.value →
    put_back (ws ++ w ∷ []) (take mark (set xs w.place x)) ≡ put_back ws (take mark xs)
put_more ws xs mark w x e =
    put_last ws w (take mark (set xs w.place x))
    ∙ ap (put_back ws) (ap (λ ys. set ys w.place w.value) (take_set mark xs w.place x)
    ∙ set-set (take mark xs) w.place x w.value
    ∙ sym (take_set mark xs w.place w.value)
    ∙ ap (λ a. take mark (set xs w.place a)) e
    ∙ ap (take mark) (set-get_or xs w.place w.value))

pub take_push : {A : Type 0} (xs : List A) (x : A) (n : ℕ) → n ≤ length xs → take n (xs ++ x ∷ []) ≡ take n xs
take_push xs x n le = take-append-le n xs (x ∷ []) le
