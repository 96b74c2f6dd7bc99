-- The rule of an account's history, and what a step of it tells.
use Rattle.std.specs.Prelude.{ℕ, ◌≡◌, ◌==◌, true, List, [], ◌∷◌, ◌++◌, length, MatchBool}
use mathlib.Core.List.{IsPrefix}
use Rattle.logbook.specs.Pages.{Cell, Step, View, Book, Named}
use Rattle.kl1_host_journals.specs.declared.edition.Edition.{Edition}
use Rattle.kl1_host_journals.specs.Editions.{IsChain, IsUpToDate}

-- the first word is how many editions there are, each of which may come after those before it. A history has two words, of which this one
-- leaves the second at 0
pub record IsKept (cells : List Cell) (log : List Edition) : Type 0 where
  pub words : cells ≡ (length log, true) ∷ (0, true) ∷ []
  pub chain : IsChain log
  pub dated : (front : List Edition) → IsPrefix front log → IsUpToDate front

-- the word of a history
abbrev pub head_of : Book → Named
head_of b = record { tracked = true; key = 0; book = b }

-- how long the history is was found, and it was seen
abbrev pub Looks : Step Edition → View Edition ℕ → ℕ → View Edition ℕ → Type 0
Looks s v found w = (length w.0 ≡ found) × IsChain w.0

-- the edition was added to all that had been seen; or there were others
abbrev pub Adds : Step Edition → View Edition ℕ → ℕ → View Edition ℕ → Type 0
Adds s v found w = MatchBool (found == s.old) (w.0 ≡ v.0 ++ s.ask ∷ []) (length w.0 ≡ found)
