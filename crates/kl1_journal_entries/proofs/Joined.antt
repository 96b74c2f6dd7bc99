-- Two texts, one after the other.
use Rattle.std.proofs.Common.{◌≡◌, ℕ, zero, suc, ◌<◌, Bool, true, false, List, [], ◌∷◌, ◌++◌, length, take, drop, bytes_eq, refl, sym, ap, ap₂, ◌∙◌, arith}
use Rattle.std.proofs.lemmas.List.{length-append}
use Rattle.std.proofs.lemmas.Bool.{false_from_ne_true}
use Rattle.std.proofs.lemmas.Slice.Eq.{bytes_eq-Decides}

-- two tests that hold together
pub same_by : (a b : Bool) → (a ≡ true → b ≡ true) → (b ≡ true → a ≡ true) → a ≡ b
same_by true b f g = sym (f refl)
same_by false true f g = g refl
same_by false false f g = refl

take_front : (xs ys : List ℕ) → take (length xs) (xs ++ ys) ≡ xs
take_front [] ys = refl
take_front (x ∷ xs) ys = ap (λ (zs : List ℕ). x ∷ zs) (take_front xs ys)

drop_front : (xs ys : List ℕ) → drop (length xs) (xs ++ ys) ≡ ys
drop_front [] ys = refl
drop_front (x ∷ xs) ys = drop_front xs ys

take_drop : (n : ℕ) (zs : List ℕ) → take n zs ++ drop n zs ≡ zs
take_drop zero zs = refl
take_drop (suc n) [] = refl
take_drop (suc n) (z ∷ zs) = ap (λ (ys : List ℕ). z ∷ ys) (take_drop n zs)

-- a line that is shorter than the front
pub too_short : (front back line : List ℕ) → length line < length front → bytes_eq (front ++ back) line ≡ false
too_short front back line less =
    false_from_ne_true _ (λ h. absurd (omega (arith, less, ap (length {A = ℕ}) ((bytes_eq-Decides (front ++ back) line).0 h), length-append front back)))

-- a line with another front
pub other_front : (front back line : List ℕ) → bytes_eq front (take (length front) line) ≡ false → bytes_eq (front ++ back) line ≡ false
other_front front back line other =
    false_from_ne_true _ (λ h. let same : front ≡ take (length front) line = sym (take_front front back) ∙ ap (take (length front)) ((bytes_eq-Decides (front ++ back) line).0 h) in cc ((bytes_eq-Decides front (take (length front) line)).1 same, other))

-- a line with this front
pub same_front : (front back line : List ℕ) → bytes_eq front (take (length front) line) ≡ true → bytes_eq back (drop (length front) line) ≡ bytes_eq (front ++ back) line
same_front front back line same =
    let is = (bytes_eq-Decides front (take (length front) line)).0 same in
    same_by _ _
    (λ h. (bytes_eq-Decides (front ++ back) line).1 (ap₂ (λ (xs ys : List ℕ). xs ++ ys) is ((bytes_eq-Decides back (drop (length front) line)).0 h) ∙ take_drop (length front) line))
    (λ h. (bytes_eq-Decides back (drop (length front) line)).1 (sym (drop_front front back) ∙ ap (drop (length front)) ((bytes_eq-Decides (front ++ back) line).0 h)))
