-- What is taken from the front of a list, of which some may be missing.
use Rattle.std.specs.Prelude.{ℕ, zero, suc, List, [], ◌∷◌}

-- the first of a list, or another if there is none
abbrev pub first_or : {A : Type 0} → A → List A → A
first_or a [] = a
first_or a (x ∷ xs) = x

-- what is after the first
abbrev pub but_first : {A : Type 0} → List A → List A
but_first [] = []
but_first (x ∷ xs) = xs

-- the first `n` of a list, with another for each that is missing
abbrev pub firsts : {A : Type 0} → A → ℕ → List A → List A
firsts a zero xs = []
firsts a (suc n) xs = first_or a xs ∷ firsts a n (but_first xs)

-- what is after the first `n`
abbrev pub others : {A : Type 0} → ℕ → List A → List A
others zero xs = xs
others (suc n) xs = others n (but_first xs)
