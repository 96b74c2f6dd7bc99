-- Cells as words: two low bits tell the kind, and a cell that no word can hold stands in a list beside them.
use Rattle.std.specs.Prelude.{◌≡◌, ℕ, suc, ◌/◌, ◌%◌, ◌^◌, ◌-◌, ◌<◌, ◌≤◌, ◌==◌, if◌then◌else◌, List, [], ◌∷◌, length, take, drop, get_or, All, ℤ, pos, negsuc, ◌-ℤ◌, ◌≤ℤ◌, ◌<ℤ◌}
use Rattle.kl1_store.specs.declared.cell.Cell.{Cell}
use Rattle.kl1_store.specs.declared.cell.Cell.TheVariants.{Variable, Integer, Structure}
use Rattle.kl1_store.specs.Inside.{most}

-- the cell that a word stands for
unfoldable pub unpacked : {N : Type 0} → List (Cell N) → ℕ → Cell N
unpacked wide w =
    if w % 4 == 0 then Variable (w / 4)
    else if w % 4 == 1 then Structure (w / 4)
    else if w % 4 == 3 then Integer (pos (w / 4) -ℤ pos (2 ^ 61))
    else get_or wide (w / 4) (Variable 0)

-- a word whose number fits, and whose place is one of those of `n` cells
pub record IsPacked (n w : ℕ) : Type 0 where
  pub variable : w % 4 ≡ 0 → w / 4 < 2 ^ 32
  pub structure : w % 4 ≡ 1 → w / 4 < 2 ^ 32
  pub wide : w % 4 ≡ 2 → w / 4 < n

-- an integer that a word can hold
pub record IsSmall (i : ℤ) : Type 0 where
  pub low : negsuc (2 ^ 61 - 1) ≤ℤ i
  pub high : i <ℤ pos (2 ^ 61)

-- the place of the next cell that no word can hold, after a word
abbrev pub next_place : ℕ → ℕ → ℕ
next_place p w = if w % 4 == 2 then suc p else p

-- the word of an integer that a word can hold
pub record IsWordOf (i : ℤ) (w : ℕ) : Type 0 where
  pub kind : w % 4 ≡ 3
  pub is : pos (w / 4) -ℤ pos (2 ^ 61) ≡ i

-- the word of a cell, which was put into the list of cells that no word can hold if it is one
pub record Packs {N : Type 0} (old new : List (Cell N)) (x : Cell N) (w : ℕ) : Type 0 where
  pub packed : IsPacked (length new) w
  pub is : unpacked new w ≡ x
  pub grown : take (length old) new ≡ old
  pub place : w % 4 ≡ 2 → w / 4 ≡ length old
  pub next : length new ≡ next_place (length old) w

-- words, of which those of cells that no word can hold have places in order, from one on to another
abbrev pub AreInOrder : ℕ → List ℕ → ℕ → Type 0
AreInOrder p [] q = p ≡ q
AreInOrder p (w ∷ ws) q = (w % 4 ≡ 2 → w / 4 ≡ p) × AreInOrder (next_place p w) ws q

-- at a place among words the next cell that no word can hold has this place
pub record Splits (words : List ℕ) (count all place : ℕ) : Type 0 where
  pub before : AreInOrder 0 (take count words) place
  pub after : AreInOrder place (drop count words) all

-- the words of cells, and memory for some more
pub record AreWords {N : Type 0} (words : List ℕ) (wide : List (Cell N)) (memory words_capacity wide_capacity : ℕ) : Type 0 where
  pub packed : All (IsPacked (length wide)) words
  pub order : AreInOrder 0 words (length wide)
  pub held : length words ≤ memory
  pub few : memory ≤ most
  pub words_serve : memory ≤ words_capacity
  pub wide_serve : memory ≤ wide_capacity

-- a list of cells, and its room for more
pub record Listed (N : Type 0) : Type 0 where
  pub cells : List (Cell N)
  pub room : ℕ
