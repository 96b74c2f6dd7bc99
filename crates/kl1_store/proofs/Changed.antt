-- Lists of which each element from one on becomes a function of itself, one after another.
use Rattle.std.proofs.Common.{◌≡◌, ℕ, zero, suc, ◌+◌, ◌<◌, ◌≤◌, List, [], ◌∷◌, length, get_or, set, map, refl, ap, ◌∙◌, arith, add-one}
use Rattle.kl1_store.specs.Renames.{mapped_from}

-- one element more is what it becomes: the rest makes of the list what all made of it
mapped_set : {X : Type 0} (f : X → X) (n : ℕ) (xs : List X) (x y : X) → n < length xs → x ≡ get_or xs n x → y ≡ f x → mapped_from f (suc n) (set xs n y) ≡ mapped_from f n xs
mapped_set f n [] x y lt e is = absurd (omega arith)
mapped_set f zero (z ∷ xs) x y lt e is = ap (λ w. w ∷ map f xs) (is ∙ ap f e)
mapped_set f (suc n) (z ∷ xs) x y lt e is = ap (λ l. z ∷ l) (mapped_set f n xs x y (omega arith) e is)

pub mapped_next : {X : Type 0} (f : X → X) (n : ℕ) (xs : List X) (x y : X) → n < length xs → x ≡ get_or xs n x → y ≡ f x → mapped_from f (n + 1) (set xs n y) ≡ mapped_from f n xs
mapped_next f n xs x y lt e is = ap (λ m. mapped_from f m (set xs n y)) (add-one n) ∙ mapped_set f n xs x y lt e is

-- from the end on nothing changes
pub mapped_past : {X : Type 0} (f : X → X) (n : ℕ) (xs : List X) → length xs ≤ n → mapped_from f n xs ≡ xs
mapped_past f zero [] le = refl
mapped_past f zero (x ∷ xs) le = absurd (omega arith)
mapped_past f (suc n) [] le = refl
mapped_past f (suc n) (x ∷ xs) le = ap (λ l. x ∷ l) (mapped_past f n xs (omega arith))

pub length-mapped : {X : Type 0} (f : X → X) (n : ℕ) (xs : List X) → length (mapped_from f n xs) ≡ length xs
length-mapped f zero [] = refl
length-mapped f zero (x ∷ xs) = ap suc (length-mapped f zero xs)
length-mapped f (suc n) [] = refl
length-mapped f (suc n) (x ∷ xs) = ap suc (length-mapped f n xs)

-- a function that doesn't see the change gives what it gave
pub mapped_bare : {X B : Type 0} (bare : X → B) (f : X → X) (n : ℕ) (xs : List X) → ((x : X) → bare (f x) ≡ bare x) → map bare (mapped_from f n xs) ≡ map bare xs
mapped_bare bare f zero [] same = refl
mapped_bare bare f zero (x ∷ xs) same = ap (λ b. b ∷ map bare (map f xs)) (same x) ∙ ap (λ l. bare x ∷ l) (mapped_bare bare f zero xs same)
mapped_bare bare f (suc n) [] same = refl
mapped_bare bare f (suc n) (x ∷ xs) same = ap (λ l. bare x ∷ l) (mapped_bare bare f n xs same)
