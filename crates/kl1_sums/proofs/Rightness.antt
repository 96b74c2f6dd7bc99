-- Whether the sum before a line is right.
use Rattle.std.proofs.Common.{◌≡◌, ◌≢◌, ℕ, zero, suc, ◌<◌, ◌≤◌, Bool, true, false, if◌then◌else◌, List, [], ◌∷◌, ◌++◌, length, take, drop, refl, sym, ap, ◌∙◌, arith}
use Rattle.std.specs.Prelude.{Option, Some, None, is_some, bytes_eq, slice_index}
use Rattle.std.proofs.Math.Seq.{take-append_seam}
use Rattle.std.proofs.lemmas.Bool.{false≢true}
use Rattle.std.proofs.lemmas.List.{length-append}
use Rattle.std.proofs.lemmas.Slice.Eq.{bytes_eq-Decides}
use Rattle.kl1_sums.specs.Sums.{sum_of, summed_line, plain_line}
use Rattle.kl1_sums.proofs.Digits.{length_sum}
use Rattle.kl1_sums.proofs.SumTexts.{none_by}

-- a line whose sum isn't right
wrong : (prev line : List ℕ) → (line ≡ summed_line prev (drop 17 line) → ⊥) → is_some (plain_line prev line) ≡ false
wrong prev line differs = none_by (bytes_eq line (summed_line prev (drop 17 line))) line (summed_line prev (drop 17 line)) (drop 17 line) refl differs

-- a line whose sum is right
right : (prev line : List ℕ) → line ≡ summed_line prev (drop 17 line) → is_some (plain_line prev line) ≡ true
right prev line is = ap (λ (b : Bool). is_some (if◌then◌else◌ {A = Option (List ℕ)} b (Some (drop 17 line)) None)) ((bytes_eq-Decides line (summed_line prev (drop 17 line))).1 is)

right_by : (b : Bool) (prev line plain : List ℕ) → bytes_eq line (summed_line prev plain) ≡ b → is_some (if◌then◌else◌ {A = Option (List ℕ)} b (Some plain) None) ≡ true → line ≡ summed_line prev plain
right_by true prev line plain is h = (bytes_eq-Decides line (summed_line prev plain)).0 is
right_by false prev line plain is h = absurd (false≢true h)

-- a line whose sum is right has the digits of that, a space, and its own bytes
pub right_is : (prev line : List ℕ) → is_some (plain_line prev line) ≡ true → line ≡ summed_line prev (drop 17 line)
right_is prev line h = right_by (bytes_eq line (summed_line prev (drop 17 line))) prev line (drop 17 line) refl h

summed_long : (prev line plain : List ℕ) → line ≡ summed_line prev plain → 17 ≤ length line
summed_long prev line plain is =
    let long = ap (length {A = ℕ}) is in
    omega (arith, long, length_sum prev plain, length-append (sum_of prev plain) (32 ∷ plain))

-- it has at least 17 bytes
pub right_long : (prev line : List ℕ) → is_some (plain_line prev line) ≡ true → 17 ≤ length line
right_long prev line h = summed_long prev line (drop 17 line) (right_is prev line h)

pub short_line : (prev line : List ℕ) → length line < 17 → false ≡ is_some (plain_line prev line)
short_line prev line few = sym (wrong prev line (λ is. few_or_long (summed_long prev line (drop 17 line) is)))
  where
    few_or_long : 17 ≤ length line → ⊥
    few_or_long long = omega (arith, few, long)

split_line : (n : ℕ) (line : List ℕ) → n < length line → line ≡ take n line ++ slice_index line n ∷ drop (suc n) line
split_line n [] less = absurd (omega (arith, less))
split_line zero (b ∷ bs) less = refl
split_line (suc n) (b ∷ bs) less = ap (λ (x : List ℕ). b ∷ x) (split_line n bs (omega (arith, less)))

at_16 : (s line : List ℕ) → length s ≡ 16 → slice_index (s ++ 32 ∷ line) 16 ≡ 32
at_16 s line size = at s line 16 size
  where
    at : (s line : List ℕ) (n : ℕ) → length s ≡ n → slice_index (s ++ 32 ∷ line) n ≡ 32
    at [] line zero size = refl
    at [] line (suc n) size = absurd (omega (arith, size))
    at (b ∷ bs) line zero size = absurd (omega (arith, size))
    at (b ∷ bs) line (suc n) size = at bs line n (omega (arith, size))

-- no space is after the 16 digits
pub other_space : (prev line : List ℕ) → slice_index line 16 ≢ 32 → false ≡ is_some (plain_line prev line)
other_space prev line other = sym (wrong prev line (λ is. other (ap (λ (x : List ℕ). slice_index x 16) is ∙ at_16 (sum_of prev (drop 17 line)) (drop 17 line) (length_sum prev (drop 17 line)))))

front_16 : (prev line : List ℕ) → line ≡ summed_line prev (drop 17 line) → take 16 line ≡ sum_of prev (drop 17 line)
front_16 prev line is =
    let s = sum_of prev (drop 17 line) in
    ap (take 16) is ∙ ap (λ (n : ℕ). take n (s ++ 32 ∷ drop 17 line)) (sym (length_sum prev (drop 17 line))) ∙ take-append_seam s (32 ∷ drop 17 line)

-- the digits are others
pub other_sum : (prev line sum : List ℕ) → sum ≡ sum_of prev (drop 17 line) → bytes_eq sum (take 16 line) ≡ false → false ≡ is_some (plain_line prev line)
other_sum prev line sum so differ =
    sym (wrong prev line (λ is. false≢true (sym differ ∙ (bytes_eq-Decides sum (take 16 line)).1 (so ∙ sym (front_16 prev line is)))))

-- they are those of the sum
pub same_sum : (prev line sum : List ℕ) → sum ≡ sum_of prev (drop 17 line) → 17 ≤ length line → slice_index line 16 ≡ 32 → bytes_eq sum (take 16 line) ≡ true → true ≡ is_some (plain_line prev line)
same_sum prev line sum so long space same =
    let front : take 16 line ≡ sum_of prev (drop 17 line) = sym ((bytes_eq-Decides sum (take 16 line)).0 same) ∙ so in
    sym (right prev line (split_line 16 line (omega (arith, long)) ∙ ap (λ (x : List ℕ). x ++ slice_index line 16 ∷ drop 17 line) front ∙ ap (λ (c : ℕ). sum_of prev (drop 17 line) ++ c ∷ drop 17 line) space))
