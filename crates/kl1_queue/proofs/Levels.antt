-- Levels of words, in which each bit says whether a word of the level below has any.
use Rattle.std.proofs.Common.{◌≡◌, ℕ, ◌*◌, ◌/◌, ◌%◌, ◌<◌, ◌≤◌, List, [], length, refl, arith, inl, inr}
use Rattle.std.proofs.lemmas.List.{get_or_past}
use Rattle.std.proofs.lemmas.Bool.{cases_lt, cases_eq}
use Rattle.kl1_queue.specs.Bits.{bit, bit_of, word_of, IsSetAt, IsClearedAt, IsLeast, Sums, SumsAll, AreLevels, IsEmpty}
use Rattle.kl1_queue.proofs.Words.{bit_zero, bit_some, with_bit, without_bit, with_here, with_other, without_here, without_other, without_less, IsLow}

pub none_yet : AreLevels [] [] [] 0
none_yet = record { low_sums = λ m. bit_zero (m % 64); middle_sums = λ m. bit_zero (m % 64); high_sums = λ m. bit_zero m; low_size = omega arith; middle_size = omega arith; high_size = omega arith }

-- a bit is set in two levels
set_sums : (ws ws' up up' : List ℕ) (k : ℕ) → Sums up ws → IsSetAt ws ws' k → IsSetAt up up' (k / 64) → Sums up' ws'
set_sums ws ws' up up' k s a b m = elim (cases_eq m (k / 64)) [
  | inl e ↦ let some = bit_some (word_of ws' (k / 64)) (k % 64) a.here in rw e (omega (arith, b.here, some))
  | inr n ↦ omega (arith, b.others m n, s m, a.words m n)
]

set_top : (ws ws' : List ℕ) (top k : ℕ) → SumsAll top ws → length ws ≤ 64 → k < 64 * length ws → IsSetAt ws ws' k → SumsAll (with_bit top (k / 64)) ws'
set_top ws ws' top k s most h a m =
    let fits : k / 64 < 64 = omega (arith, h, most) in
    elim (cases_eq m (k / 64)) [
      | inl e ↦ let some = bit_some (word_of ws' (k / 64)) (k % 64) a.here in rw e (omega (arith, with_here top (k / 64) fits, some))
      | inr n ↦ omega (arith, with_other top (k / 64) m fits n, s m, a.words m n)
    ]

pub inserted : (low low' middle middle' high high' : List ℕ) (top k : ℕ) → AreLevels low middle high top → k < 64 * length low → IsSetAt low low' k → IsSetAt middle middle' (k / 64) → IsSetAt high high' (k / 64 / 64) → AreLevels low' middle' high' (with_bit top (k / 64 / 64 / 64))
inserted low low' middle middle' high high' top k v h a b c =
    let in_middle : k / 64 < 64 * length middle = omega (arith, h, v.low_size) in
    let in_high : k / 64 / 64 < 64 * length high = omega (arith, in_middle, v.middle_size) in
    record {
      low_sums = set_sums low low' middle middle' k v.low_sums a b;
      middle_sums = set_sums middle middle' high high' (k / 64) v.middle_sums b c;
      high_sums = set_top high high' top (k / 64 / 64) v.high_sums v.high_size in_high c;
      low_size = omega (arith, v.low_size, a.size, b.size);
      middle_size = omega (arith, v.middle_size, b.size, c.size);
      high_size = omega (arith, v.high_size, c.size);
    }

-- a bit is cleared whose word has others
some_left : (ws ws' up : List ℕ) (k : ℕ) → Sums up ws → IsClearedAt ws ws' k → 0 < word_of ws' (k / 64) → Sums up ws'
some_left ws ws' up k s a some m = elim (cases_eq m (k / 64)) [
  | inl e ↦ rw e (omega (arith, s (k / 64), a.lower (k / 64), some))
  | inr n ↦ omega (arith, s m, a.words m n)
]

-- a bit is cleared that was its word's last
none_left : (ws ws' up up' : List ℕ) (k : ℕ) → Sums up ws → IsClearedAt ws ws' k → IsClearedAt up up' (k / 64) → word_of ws' (k / 64) ≡ 0 → Sums up' ws'
none_left ws ws' up up' k s a b none m = elim (cases_eq m (k / 64)) [
  | inl e ↦ rw e (omega (arith, b.here, none))
  | inr n ↦ omega (arith, b.others m n, s m, a.words m n)
]

some_left_top : (ws ws' : List ℕ) (top k : ℕ) → SumsAll top ws → IsClearedAt ws ws' k → 0 < word_of ws' (k / 64) → SumsAll top ws'
some_left_top ws ws' top k s a some m = elim (cases_eq m (k / 64)) [
  | inl e ↦ rw e (omega (arith, s (k / 64), a.lower (k / 64), some))
  | inr n ↦ omega (arith, s m, a.words m n)
]

none_left_top : (ws ws' : List ℕ) (top k : ℕ) → SumsAll top ws → length ws ≤ 64 → k < 64 * length ws → IsClearedAt ws ws' k → word_of ws' (k / 64) ≡ 0 → SumsAll (without_bit top (k / 64)) ws'
none_left_top ws ws' top k s most h a none m =
    let fits : k / 64 < 64 = omega (arith, h, most) in
    elim (cases_eq m (k / 64)) [
      | inl e ↦ rw e (omega (arith, without_here top (k / 64) fits, none))
      | inr n ↦ elim (cases_lt m 64) [
        | inl w ↦ omega (arith, without_other top (k / 64) m fits w n, s m, a.words m n)
        | inr w ↦ omega (arith, without_less top (k / 64) m, s m, a.words m n, get_or_past ws m 0 (omega (arith, w, most)))
      ]
    ]

pub cleared_low : (low low' middle high : List ℕ) (top k : ℕ) → AreLevels low middle high top → IsClearedAt low low' k → 0 < word_of low' (k / 64) → AreLevels low' middle high top
cleared_low low low' middle high top k v a some = record {
  low_sums = some_left low low' middle k v.low_sums a some;
  middle_sums = v.middle_sums;
  high_sums = v.high_sums;
  low_size = omega (arith, v.low_size, a.size);
  middle_size = v.middle_size;
  high_size = v.high_size;
}

pub cleared_middle : (low low' middle middle' high : List ℕ) (top k : ℕ) → AreLevels low middle high top → IsClearedAt low low' k → IsClearedAt middle middle' (k / 64) → word_of low' (k / 64) ≡ 0 → 0 < word_of middle' (k / 64 / 64) → AreLevels low' middle' high top
cleared_middle low low' middle middle' high top k v a b none some = record {
  low_sums = none_left low low' middle middle' k v.low_sums a b none;
  middle_sums = some_left middle middle' high (k / 64) v.middle_sums b some;
  high_sums = v.high_sums;
  low_size = omega (arith, v.low_size, a.size, b.size);
  middle_size = omega (arith, v.middle_size, b.size);
  high_size = v.high_size;
}

-- a bit that is cleared in three levels
pub record AreCleared (low low' middle middle' high high' : List ℕ) (k : ℕ) : Type 0 where
  pub at_low : IsClearedAt low low' k
  pub at_middle : IsClearedAt middle middle' (k / 64)
  pub at_high : IsClearedAt high high' (k / 64 / 64)
  pub low_none : word_of low' (k / 64) ≡ 0
  pub middle_none : word_of middle' (k / 64 / 64) ≡ 0

pub cleared_high : (low low' middle middle' high high' : List ℕ) (top k : ℕ) → AreLevels low middle high top → AreCleared low low' middle middle' high high' k → 0 < word_of high' (k / 64 / 64 / 64) → AreLevels low' middle' high' top
cleared_high low low' middle middle' high high' top k v a some = record {
  low_sums = none_left low low' middle middle' k v.low_sums a.at_low a.at_middle a.low_none;
  middle_sums = none_left middle middle' high high' (k / 64) v.middle_sums a.at_middle a.at_high a.middle_none;
  high_sums = some_left_top high high' top (k / 64 / 64) v.high_sums a.at_high some;
  low_size = omega (arith, v.low_size, a.at_low.size, a.at_middle.size);
  middle_size = omega (arith, v.middle_size, a.at_middle.size, a.at_high.size);
  high_size = omega (arith, v.high_size, a.at_high.size);
}

pub cleared_top : (low low' middle middle' high high' : List ℕ) (top k : ℕ) → AreLevels low middle high top → k < 64 * length low → AreCleared low low' middle middle' high high' k → word_of high' (k / 64 / 64 / 64) ≡ 0 → AreLevels low' middle' high' (without_bit top (k / 64 / 64 / 64))
cleared_top low low' middle middle' high high' top k v h a none =
    let in_middle : k / 64 < 64 * length middle = omega (arith, h, v.low_size) in
    let in_high : k / 64 / 64 < 64 * length high = omega (arith, in_middle, v.middle_size) in
    record {
      low_sums = none_left low low' middle middle' k v.low_sums a.at_low a.at_middle a.low_none;
      middle_sums = none_left middle middle' high high' (k / 64) v.middle_sums a.at_middle a.at_high a.middle_none;
      high_sums = none_left_top high high' top (k / 64 / 64) v.high_sums v.high_size in_high a.at_high none;
      low_size = omega (arith, v.low_size, a.at_low.size, a.at_middle.size);
      middle_size = omega (arith, v.middle_size, a.at_middle.size, a.at_high.size);
      high_size = omega (arith, v.high_size, a.at_high.size);
    }

-- a bit that isn't set is as good as cleared
pub absent : (ws : List ℕ) (k : ℕ) → bit_of ws k ≡ 0 → IsClearedAt ws ws k
absent ws k e = record { size = refl; here = e; lower = λ m. omega arith; others = λ j n. refl; words = λ m n. refl }

-- of a level that has no bit the words below are 0
none_below : (ws up : List ℕ) (m : ℕ) → Sums up ws → word_of up (m / 64) ≡ 0 → word_of ws m ≡ 0
none_below ws up m s e = let z : bit_of up m ≡ 0 = rw e (bit_zero (m % 64)) in omega (arith, s m, z)

pub empty : (low middle high : List ℕ) (top : ℕ) → AreLevels low middle high top → top ≡ 0 → IsEmpty low
empty low middle high top v e k =
    let z : bit top (k / 64 / 64 / 64) ≡ 0 = rw e (bit_zero (k / 64 / 64 / 64)) in
    let a : word_of high (k / 64 / 64 / 64) ≡ 0 = omega (arith, v.high_sums (k / 64 / 64 / 64), z) in
    let b = none_below middle high (k / 64 / 64) v.middle_sums a in
    let c = none_below low middle (k / 64) v.low_sums b in
    rw c (bit_zero (k % 64))

-- a word that isn't 0 stands in the list
pub word_within : (ws : List ℕ) (m : ℕ) → 0 < word_of ws m → m < length ws
word_within ws m h = elim (cases_lt m (length ws)) [ inl a ↦ a | inr a ↦ absurd (omega (arith, h, get_or_past ws m 0 a)) ]

-- what the lowest bit of the top says of the words below
pub top_some : (ws : List ℕ) (top t : ℕ) → SumsAll top ws → IsLow top t → 0 < word_of ws t
top_some ws top t s l = omega (arith, s t, l.here)

pub top_less : (ws : List ℕ) (top t j : ℕ) → SumsAll top ws → IsLow top t → j < t → word_of ws j ≡ 0
top_less ws top t j s l h = omega (arith, s j, l.less j h)

-- what the least bit of a level says of the words below
pub least_some : (ws up : List ℕ) (k : ℕ) → Sums up ws → IsLeast up k → 0 < word_of ws k
least_some ws up k s l = omega (arith, s k, l.here)

pub least_less : (ws up : List ℕ) (k j : ℕ) → Sums up ws → IsLeast up k → j < k → word_of ws j ≡ 0
least_less ws up k j s l h = omega (arith, s j, l.less j h)

-- words that are 0 are appended
pub padded : (ws ws' up up' : List ℕ) → Sums up ws → ((m : ℕ) → word_of ws' m ≡ word_of ws m) → ((m : ℕ) → word_of up' m ≡ word_of up m) → Sums up' ws'
padded ws ws' up up' s e f m = rw (f (m / 64), e m) (s m)

pub padded_top : (ws ws' : List ℕ) (top : ℕ) → SumsAll top ws → ((m : ℕ) → word_of ws' m ≡ word_of ws m) → SumsAll top ws'
padded_top ws ws' top s e m = rw (e m) (s m)
