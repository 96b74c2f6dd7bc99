-- Bits of words of 64, the lowest of a word first.
use Rattle.std.specs.Prelude.{◌≡◌, ◌≢◌, ℕ, ◌*◌, ◌/◌, ◌%◌, ◌^◌, ◌<◌, ◌≤◌, min, List, length, get_or}

-- a word, 0 past the end
abbrev pub word_of : List ℕ → ℕ → ℕ
word_of ws m = get_or ws m 0

-- a bit of a word
unfoldable pub bit : ℕ → ℕ → ℕ
bit n i = n / 2 ^ i % 2

-- a bit of words, 0 past the end
abbrev pub bit_of : List ℕ → ℕ → ℕ
bit_of ws k = bit (word_of ws (k / 64)) (k % 64)

-- a bit is set, and no other changes
pub record IsSetAt (old new : List ℕ) (k : ℕ) : Type 0 where
  pub size : length new ≡ length old
  pub here : bit_of new k ≡ 1
  pub others : (j : ℕ) → j ≢ k → bit_of new j ≡ bit_of old j
  pub words : (m : ℕ) → m ≢ k / 64 → word_of new m ≡ word_of old m

-- a bit is cleared, and no other changes
pub record IsClearedAt (old new : List ℕ) (k : ℕ) : Type 0 where
  pub size : length new ≡ length old
  pub here : bit_of new k ≡ 0
  pub lower : (m : ℕ) → word_of new m ≤ word_of old m
  pub others : (j : ℕ) → j ≢ k → bit_of new j ≡ bit_of old j
  pub words : (m : ℕ) → m ≢ k / 64 → word_of new m ≡ word_of old m

-- the least bit that is set
pub record IsLeast (ws : List ℕ) (k : ℕ) : Type 0 where
  pub within : k < 64 * length ws
  pub here : bit_of ws k ≡ 1
  pub less : (j : ℕ) → j < k → bit_of ws j ≡ 0

-- words of which each bit says whether a word below has any
abbrev pub Sums : List ℕ → List ℕ → Type 0
Sums up ws = (m : ℕ) → bit_of up m ≡ min (word_of ws m) 1

-- a word of which each bit says whether a word below has any
abbrev pub SumsAll : ℕ → List ℕ → Type 0
SumsAll top ws = (m : ℕ) → bit top m ≡ min (word_of ws m) 1

-- four levels of words, the topmost a single one
pub record AreLevels (low middle high : List ℕ) (top : ℕ) : Type 0 where
  pub low_sums : Sums middle low
  pub middle_sums : Sums high middle
  pub high_sums : SumsAll top high
  pub low_size : length low ≤ 64 * length middle
  pub middle_size : length middle ≤ 64 * length high
  pub high_size : length high ≤ 64

-- no bit is set
abbrev pub IsEmpty : List ℕ → Type 0
IsEmpty ws = (k : ℕ) → bit_of ws k ≡ 0
