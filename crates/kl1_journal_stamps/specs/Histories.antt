-- The rule of a history of shown journals, and what a step of it tells.
use Rattle.std.specs.Prelude.{⊤, ℕ, ◌≡◌, ◌==◌, true, List, [], ◌∷◌, ◌++◌, length, MatchBool, Option, Some, None}
use Rattle.logbook.specs.Pages.{Cell, Step, View, Book, Named}
use Rattle.kl1_model.specs.declared.rules.Rules.TheVariants.{One}
use Rattle.kl1_model_server.specs.Journal.{Journal, new_journal}
use Rattle.kl1_journal_stamps.specs.declared.shown_journal.ShownJournal.{ShownJournal}
use Rattle.kl1_journal_stamps.specs.declared.shown_journal.Draft.{Draft}
use Rattle.kl1_journal_stamps.specs.Stamps.{ComesAfter}

-- what stands for a shown journal if there is none
abbrev pub nothing_shown : ShownJournal
nothing_shown = record { generation = 0; journal = record { journal = new_journal One [] 0; room = 0 } }

-- the journal that was shown last
abbrev pub last_of : List ShownJournal → ShownJournal
last_of [] = nothing_shown
last_of (e ∷ []) = e
last_of (d ∷ e ∷ es) = last_of (e ∷ es)

-- so, with its generation, if one was shown
abbrev pub last_shown : List ShownJournal → Option (ℕ × Journal)
last_shown [] = None
last_shown (e ∷ es) = Some ((last_of (e ∷ es)).generation, (last_of (e ∷ es)).journal.journal)

-- a shown journal comes after another
abbrev pub Follows : ShownJournal → ShownJournal → Type 0
Follows d e = ComesAfter d.generation d.journal.journal e.generation e.journal.journal

-- each of these comes after one
abbrev pub AllFollow : ShownJournal → List ShownJournal → Type 0
AllFollow d [] = ⊤
AllFollow d (e ∷ es) = Follows d e × AllFollow d es

-- each comes after each that was shown before it
abbrev pub IsChain : List ShownJournal → Type 0
IsChain [] = ⊤
IsChain (e ∷ es) = AllFollow e es × IsChain es

-- the first word is how many journals were shown, each of which comes after those before it. A history has two words, of which this one
-- leaves the second at 0
pub record IsKept (cells : List Cell) (log : List ShownJournal) : Type 0 where
  pub words : cells ≡ (length log, true) ∷ (0, true) ∷ []
  pub chain : IsChain log

-- the word of a history
abbrev pub head_of : Book → Named
head_of b = record { tracked = true; key = 0; book = b }

-- the journal was added to all that had been seen; or there were others
abbrev pub Adds : Step ShownJournal → View ShownJournal ℕ → ℕ → View ShownJournal ℕ → Type 0
Adds s v found w = MatchBool (found == s.old) (w.0 ≡ v.0 ++ s.ask ∷ []) (length w.0 ≡ found)

-- the journal that is shown
abbrev pub shown_by : Draft → ShownJournal
shown_by d = record { generation = d.generation.value; journal = d.journal.value }
