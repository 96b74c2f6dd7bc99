-- The digits of a sum.
use Rattle.std.proofs.Common.{◌≡◌, ℕ, zero, suc, ◌/◌, ◌%◌, ◌==◌, not, Bool, true, List, [], ◌∷◌, ◌++◌, length, take, refl, ap, ◌∙◌, arith}
use Rattle.std.specs.Prelude.{slice_index}
use Rattle.std.specs.List.{list_all}
use Rattle.std.proofs.lemmas.Bool.{and_parts, and_from}
use Rattle.std.proofs.lemmas.List.{length-take-le}
use Rattle.sha2.specs.Sha256.{sha256}
use Rattle.sha2.proofs.Facts256.{length-sha256}
use Rattle.hex.specs.Hex.{encode_lower, encode_with, lower_digits}
use Rattle.hex.proofs.HexLemmas.{length-encode_with}
use Rattle.kl1_sums.specs.Sums.{sum_of}

-- whether a byte isn't among these
abbrev pub avoids : ℕ → List ℕ → Bool
avoids c bs = list_all (λ b. not (b == c)) bs

-- a sum has 16 digits
pub length_sum : (prev bytes : List ℕ) → length (sum_of prev bytes) ≡ 16
unfolding sum_of
length_sum prev bytes =
    let text = encode_lower (sha256 (prev ++ bytes)) in
    let long = length-encode_with lower_digits (sha256 (prev ++ bytes)) in
    let size = length-sha256 (prev ++ bytes) in
    length-take-le 16 text (omega (arith, long, size))

avoids_at : (c : ℕ) (t : List ℕ) (d : ℕ) → avoids c t ≡ true → not (0 == c) ≡ true → not (slice_index t d == c) ≡ true
avoids_at c [] d h z = z
avoids_at c (b ∷ bs) zero h z = (and_parts (not (b == c)) (avoids c bs) h).0
avoids_at c (b ∷ bs) (suc d) h z = avoids_at c bs d (and_parts (not (b == c)) (avoids c bs) h).1 z

text_avoids : (c : ℕ) (t xs : List ℕ) → avoids c t ≡ true → not (0 == c) ≡ true → avoids c (encode_with t xs) ≡ true
unfolding encode_with
text_avoids c t [] h z = refl
text_avoids c t (b ∷ rest) h z =
    let high = slice_index t (b / 16) in
    let low = slice_index t (b % 16) in
    and_from (not (high == c)) (avoids c (low ∷ encode_with t rest)) (avoids_at c t (b / 16) h z)
    (and_from (not (low == c)) (avoids c (encode_with t rest)) (avoids_at c t (b % 16) h z) (text_avoids c t rest h z))

-- the first of bytes that avoid another avoid it too
pub front_avoids : (c n : ℕ) (bs : List ℕ) → avoids c bs ≡ true → avoids c (take n bs) ≡ true
front_avoids c zero bs h = refl
front_avoids c (suc n) [] h = refl
front_avoids c (suc n) (b ∷ bs) h =
    let both = and_parts (not (b == c)) (avoids c bs) h in
    and_from (not (b == c)) (avoids c (take n bs)) both.0 (front_avoids c n bs both.1)

-- a byte that is no digit isn't in a sum
pub sum_avoids : (c : ℕ) (prev bytes : List ℕ) → avoids c lower_digits ≡ true → not (0 == c) ≡ true → avoids c (sum_of prev bytes) ≡ true
unfolding sum_of
sum_avoids c prev bytes h z = front_avoids c 16 (encode_lower (sha256 (prev ++ bytes))) (text_avoids c lower_digits (sha256 (prev ++ bytes)) h z)

-- there is no line feed in a sum
pub sum_unbroken : (prev bytes : List ℕ) → avoids 10 (sum_of prev bytes) ≡ true
sum_unbroken prev bytes = sum_avoids 10 prev bytes refl refl

-- each byte has two digits
abbrev twice : ℕ → ℕ
twice zero = zero
twice (suc n) = suc (suc (twice n))

-- the digits of the first bytes are the first digits
first_digits : (t : List ℕ) (n : ℕ) (xs : List ℕ) → encode_with t (take n xs) ≡ take (twice n) (encode_with t xs)
unfolding encode_with
first_digits t zero xs = refl
first_digits t (suc n) [] = refl
first_digits t (suc n) (b ∷ rest) = ap (λ (x : List ℕ). slice_index t (b / 16) ∷ slice_index t (b % 16) ∷ x) (first_digits t n rest)

-- a sum by the first bytes of a digest
pub sum_is : (prev bytes digest digits : List ℕ) → digest ≡ sha256 (prev ++ bytes) → digits ≡ encode_lower (take 8 digest) → digits ≡ sum_of prev bytes
unfolding sum_of
sum_is prev bytes digest digits is so = so ∙ first_digits lower_digits 8 digest ∙ ap (λ (x : List ℕ). take 16 (encode_lower x)) is
