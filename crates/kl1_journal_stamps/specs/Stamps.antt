-- What contracts see of journals that were shown.
use Rattle.std.specs.Prelude.{⊤, ◌≡◌, ◌⊎◌, ◌<◌, ℕ, List, All, map, Option, Some, None}
use Rattle.logbook.specs.Pages.{Book}
pub use Rattle.logbook.specs.Pages.{book_coded}
use Rattle.kl1_model_server.specs.Journal.{Journal}
use Rattle.kl1_journal_stamps.specs.Later.{IsLater}

-- which history of shown journals it is
abbrev pub HistoryId : Type 0
HistoryId = Book

-- a journal that was shown, with its generation, and in which history that stands
pub record StampValue : Type 0 where
  pub history : HistoryId
  pub generation : ℕ
  pub journal : Journal

-- a history, and the journal that was shown last, with its generation
pub record ShownValue : Type 0 where
  pub history : HistoryId
  pub last : Option (ℕ × Journal)

-- a journal of a generation comes after another: its generation is later, or it is the same and the other has grown into it
abbrev pub ComesAfter : ℕ → Journal → ℕ → Journal → Type 0
ComesAfter g j h k = (g < h) ⊎ ((g ≡ h) × IsLater j k)

-- the journal of a stamp comes after that of another
abbrev pub IsAfter : StampValue → StampValue → Type 0
IsAfter s t = ComesAfter s.generation s.journal t.generation t.journal

-- it is the stamp of this journal of this generation
abbrev pub IsStampOf : Journal → ℕ → StampValue → Type 0
IsStampOf j generation s = (s.journal ≡ j) × (s.generation ≡ generation)

-- a journal of a generation may be shown after the last one
abbrev pub MayFollow : Option (ℕ × Journal) → ℕ → Journal → Type 0
MayFollow None h k = ⊤
MayFollow (Some l) h k = ComesAfter l.0 l.1 h k

-- no journal was shown of these yet
abbrev pub AreNew : List ShownValue → Type 0
AreNew shown = All (λ (h : ShownValue). h.last ≡ None) shown

-- which histories these are
abbrev pub histories_of : List ShownValue → List HistoryId
histories_of shown = map (λ (h : ShownValue). h.history) shown
