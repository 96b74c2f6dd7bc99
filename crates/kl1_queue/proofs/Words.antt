-- Bits of words.
use Rattle.std.proofs.Common.{◌≡◌, ◌≢◌, ℕ, zero, suc, ◌+◌, ◌-◌, ◌*◌, ◌/◌, ◌%◌, ◌^◌, ◌<◌, ◌≤◌, List, [], ◌∷◌, ◌++◌, length, set, bit_or, bit_and, w64, refl, sym, ◌∙◌, arith, inl, inr}
use Rattle.std.proofs.lemmas.List.{get_or-set_same, get_or-set_other, length-set}
use Rattle.std.proofs.lemmas.Bool.{cases_lt, cases_eq}
use Rattle.std.proofs.lemmas.Nat.{and_le_l}
use Rattle.std.proofs.lemmas.Nat.Bits.{bit_at-zero, bit_at_set_same, bit_at_set_other, bit_at_clear_same, bit_at_clear_other, bit_at_and, bit_at-trailing_zeros}
use lib.Count.{count_trailing_zeros}
use Rattle.kl1_queue.specs.Bits.{bit, bit_of, word_of, IsSetAt, IsClearedAt, IsLeast}

pub bit_zero : (i : ℕ) → bit 0 i ≡ 0
unfolding bit
bit_zero i = bit_at-zero i

-- a word with a bit isn't 0
pub bit_some : (n i : ℕ) → bit n i ≡ 1 → 0 < n
bit_some zero i e = absurd (omega (arith, e, bit_zero i))
bit_some (suc n) i e = omega arith

-- a word with one bit set
abbrev pub with_bit : ℕ → ℕ → ℕ
with_bit n i = bit_or n (1 * 2 ^ i % 18446744073709551616)

-- a word with one bit cleared
abbrev pub without_bit : ℕ → ℕ → ℕ
without_bit n i = bit_and n (18446744073709551615 - 1 * 2 ^ i % 18446744073709551616)

pub with_here : (n i : ℕ) → i < 64 → bit (with_bit n i) i ≡ 1
unfolding bit
with_here n i h = bit_at_set_same w64 n i h

pub with_other : (n i j : ℕ) → i < 64 → j ≢ i → bit (with_bit n i) j ≡ bit n j
unfolding bit
with_other n i j h p = bit_at_set_other w64 n i h j p

pub without_here : (n i : ℕ) → i < 64 → bit (without_bit n i) i ≡ 0
unfolding bit
without_here n i h = bit_at_clear_same w64 n i h

pub without_other : (n i j : ℕ) → i < 64 → j < 64 → j ≢ i → bit (without_bit n i) j ≡ bit n j
unfolding bit
without_other n i j h k p = bit_at_clear_other w64 n i h j k p

pub set_at : (ws : List ℕ) (k n : ℕ) → k < 64 * length ws → n ≡ word_of ws (k / 64) → IsSetAt ws (set ws (k / 64) (with_bit n (k % 64))) k
set_at ws k n h e =
    let v = with_bit n (k % 64) in
    let within : k / 64 < length ws = omega (arith, h) in
    let at : word_of (set ws (k / 64) v) (k / 64) ≡ v = get_or-set_same ws (k / 64) v 0 within in
    let low : k % 64 < 64 = omega arith in
    record {
      size = length-set ws (k / 64) v;
      here = rw at (with_here n (k % 64) low);
      others = λ j ne. elim (cases_eq (j / 64) (k / 64)) [
        | inl p ↦ let q : j % 64 ≢ k % 64 = λ r. ne (omega (arith, p, r)) in rw (p, at, ← e) (with_other n (k % 64) (j % 64) low q)
        | inr p ↦ rw (get_or-set_other ws (k / 64) (j / 64) v 0 p) refl
      ];
      words = λ m p. get_or-set_other ws (k / 64) m v 0 p;
    }

pub cleared_at : (ws : List ℕ) (k n : ℕ) → k < 64 * length ws → n ≡ word_of ws (k / 64) → IsClearedAt ws (set ws (k / 64) (without_bit n (k % 64))) k
cleared_at ws k n h e =
    let v = without_bit n (k % 64) in
    let within : k / 64 < length ws = omega (arith, h) in
    let at : word_of (set ws (k / 64) v) (k / 64) ≡ v = get_or-set_same ws (k / 64) v 0 within in
    let low : k % 64 < 64 = omega arith in
    record {
      size = length-set ws (k / 64) v;
      here = rw at (without_here n (k % 64) low);
      lower = λ m. elim (cases_eq m (k / 64)) [
        | inl p ↦ rw (p, at, ← e) (and_le_l n (18446744073709551615 - 1 * 2 ^ (k % 64) % 18446744073709551616))
        | inr p ↦ rw (get_or-set_other ws (k / 64) m v 0 p) (omega arith)
      ];
      others = λ j ne. elim (cases_eq (j / 64) (k / 64)) [
        | inl p ↦ let q : j % 64 ≢ k % 64 = λ r. ne (omega (arith, p, r)) in rw (p, at, ← e) (without_other n (k % 64) (j % 64) low (omega arith) q)
        | inr p ↦ rw (get_or-set_other ws (k / 64) (j / 64) v 0 p) refl
      ];
      words = λ m p. get_or-set_other ws (k / 64) m v 0 p;
    }

pub without_less : (n i j : ℕ) → bit (without_bit n i) j ≤ bit n j
unfolding bit
without_less n i j = omega (arith, bit_at_and n (18446744073709551615 - 1 * 2 ^ i % 18446744073709551616) j)

-- the lowest bit of a word
pub record IsLow (n t : ℕ) : Type 0 where
  pub within : t < 64
  pub here : bit n t ≡ 1
  pub less : (i : ℕ) → i < t → bit n i ≡ 0

pub low_of : (n : ℕ) → 0 < n → n < 2 ^ 64 → IsLow n (count_trailing_zeros 64 n)
unfolding bit
low_of n p q = let f = bit_at-trailing_zeros w64 n p q in record { within = f.0; here = f.1; less = f.2 }

-- the lowest bit of the first word that isn't 0
pub least_at : (ws : List ℕ) (m t : ℕ) → m < length ws → ((j : ℕ) → j < m → word_of ws j ≡ 0) → IsLow (word_of ws m) t → IsLeast ws (64 * m + t)
least_at ws m t h none low =
    let w = low.within in
    let d : (64 * m + t) / 64 ≡ m = omega (arith, w) in
    let r : (64 * m + t) % 64 ≡ t = omega (arith, w) in
    record {
      within = omega (arith, h, w);
      here = rw (d, r) low.here;
      less = λ j p. elim (cases_lt (j / 64) m) [
        | inl a ↦ rw (none (j / 64) a) (bit_zero (j % 64))
        | inr a ↦ let e : j / 64 ≡ m = omega (arith, p, w) in rw e (low.less (j % 64) (omega (arith, p, w, e)))
      ];
    }

-- one word more, which is 0
pub word_pushed : (ws : List ℕ) (m : ℕ) → word_of (ws ++ 0 ∷ []) m ≡ word_of ws m
word_pushed [] zero = refl
word_pushed [] (suc m) = refl
word_pushed (w ∷ ws) zero = refl
word_pushed (w ∷ ws) (suc m) = word_pushed ws m

-- the bit that is read from a word
pub bit_is : (ws : List ℕ) (k n : ℕ) → n ≡ word_of ws (k / 64) → n / 2 ^ (k % 64) % 2 ≡ bit_of ws k
unfolding bit
bit_is ws k n e = rw e refl

even : (q : ℕ) → (q % 2 ≡ 1 → ⊥) → q % 2 ≡ 0
even q f = elim (cases_lt (q % 2) 1) [ inl a ↦ omega (arith, a) | inr a ↦ absurd (f (omega (arith, a))) ]

pub bit_is_not : (ws : List ℕ) (k n : ℕ) → n ≡ word_of ws (k / 64) → (n / 2 ^ (k % 64) % 2 ≡ 1 → ⊥) → bit_of ws k ≡ 0
bit_is_not ws k n e f = sym (bit_is ws k n e) ∙ even (n / 2 ^ (k % 64)) f
