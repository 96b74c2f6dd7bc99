-- Places in a line, by which the code cuts it.
use Rattle.std.specs.Prelude.{◌≡◌, ◌==◌, ℕ, suc, Bool, true, false, List, [], ◌∷◌, ◌++◌}
use Rattle.std.specs.List.{list_any}
use Rattle.kl1_model.specs.Line.{is_space}

-- the place of the first such byte, or how many bytes there are
abbrev pub place_of : ℕ → List ℕ → ℕ
place_of x [] = 0
place_of x (b ∷ bs) = elim (b == x) [ true ↦ 0 | false ↦ suc (place_of x bs) ]

-- the place of the first blank, or how many bytes there are
abbrev pub blank_place : List ℕ → ℕ
blank_place [] = 0
blank_place (b ∷ bs) = elim (is_space b) [ true ↦ 0 | false ↦ suc (blank_place bs) ]

-- no blank stands in front
abbrev pub BeginsWord : List ℕ → Type 0
BeginsWord [] = Unit {0}
BeginsWord (b ∷ bs) = is_space b ≡ false

-- whether a text has such a byte
abbrev pub has_byte : ℕ → List ℕ → Bool
has_byte x text = list_any (λ b. b == x) text

-- a text is a line without a line feed, a line feed, and what is after it
pub record IsSplit (text line after : List ℕ) : Type 0 where
  pub is : text ≡ line ++ 10 ∷ after
  pub none : has_byte 10 line ≡ false
