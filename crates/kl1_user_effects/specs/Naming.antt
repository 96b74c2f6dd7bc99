-- The names of an account with their numbers, and what a table of names keeps of them.
use Rattle.std.specs.Prelude.{◌≡◌, ℕ, ◌<◌, ◌^◌, List, map, Some}
use Rattle.std.specs.List.{AllByRecursion}
use Rattle.kl1_text.specs.declared.cell_name.CellName.{CellName}
use Rattle.kl1_atoms.specs.declared.known.Known.{Known}
use Rattle.kl1_atoms.specs.Names.{number_by, PublishesWithin}
use Rattle.kl1_user_effects.specs.Fitting.{Reading, Fits}

-- names with their numbers, in order of first use, and how many more there is room for
pub record NameShelf : Type 0 where
  pub names : List Known
  pub room : ℕ

-- each number has 32 bits
abbrev pub AreSmall : List Known → Type 0
AreSmall names = AllByRecursion (λ k. k.number.number < 2 ^ 32) names

-- the number of each of these texts among names
abbrev pub AreNumbersOf : List Known → List (List ℕ) → List CellName → Type 0
AreNumbersOf names texts row = (f : Reading) → Fits names f → map f row ≡ texts

-- a reading of names by which these numbers are these texts, though some of them are new
pub record ReadsDraft (names : List Known) (texts : List (List ℕ)) (row : List CellName) : Type 0 where
  pub reading : Reading
  pub fits : Fits names reading
  pub reads : map reading row ≡ texts

-- more is known than before
abbrev pub Grows : List Known → List Known → Type 0
Grows old new = (t : List ℕ) (n : ℕ) → number_by old t ≡ Some n → number_by new t ≡ Some n

-- what a call leaves of a table of names and of an account's seat: what the seat knows only grows, it publishes names only while that
-- grows, and other seats stay seats
pub record Keeps {T S : Type 0} (is_of : T → S → Type 0) (place : S → (ℕ × ℕ) × ℕ) (knows : S → List Known) (published : S → ℕ) (old new : T) (before after : S) : Type 0 where
  pub of : is_of new after
  pub stays : place after ≡ place before
  pub others : (other : S) → is_of old other → (place other ≡ place before → ⊥) → is_of new other
  pub grows : Grows (knows before) (knows after)
  pub publishes : PublishesWithin (published before) (published after) (knows before) (knows after)
