-- What the file of an account is to hold, note after note.
use Rattle.std.specs.Prelude.{⊤, ◌≡◌, ◌⊎◌, ◌<◌, ◌≤◌, ℕ, List, [], ◌∷◌, length}
use mathlib.Core.List.{IsPrefix}
use Rattle.kl1_model.specs.declared.rules.Rules.TheVariants.{Four}
use Rattle.kl1_model_server.specs.Journal.{Journal, new_journal}
use Rattle.kl1_model_server.specs.JournalText.{journal_lines}
use Rattle.kl1_log.specs.Deeds.{IsFile}
use Rattle.kl1_journal_stamps.specs.Later.{IsLater}
use Rattle.kl1_log.specs.Later.{last_run}
use Rattle.kl1_host_journals.specs.declared.edition.Edition.{Edition}

-- what a file is to hold of which nothing was noted
abbrev pub no_edition : Edition
no_edition = record { number = 0; generation = 0; journal = record { journal = new_journal Four [] 0; room = 0 }; text = [] }

-- the edition that was noted last
abbrev pub last_of : List Edition → Edition
last_of [] = no_edition
last_of (e ∷ []) = e
last_of (d ∷ e ∷ es) = last_of (e ∷ es)

-- the text of an edition stands in that of a later one: it is the beginning of that, unless a journal of a later generation was noted
abbrev pub StandsIn : Edition → Edition → Type 0
StandsIn d e = (d.generation < e.generation) ⊎ ((d.generation ≡ e.generation) × IsPrefix d.text e.text)

-- an edition may come after another: as many changes were noted, or more; if as many, the file is to hold the same; and the journal of the
-- same generation has grown
pub record Follows (d e : Edition) : Type 0 where
  pub number : d.number ≤ e.number
  pub same : d.number ≡ e.number → (d.generation ≡ e.generation) × (d.text ≡ e.text)
  pub text : StandsIn d e
  pub grown : d.generation ≡ e.generation → IsLater d.journal.journal e.journal.journal

-- an edition may come after these, of which the last decides
abbrev pub MayFollow : List Edition → Edition → Type 0
MayFollow [] e = ⊤
MayFollow (d ∷ es) e = Follows (last_of (d ∷ es)) e

-- each of these may come after one
abbrev pub AllFollow : Edition → List Edition → Type 0
AllFollow d [] = ⊤
AllFollow d (e ∷ es) = Follows d e × AllFollow d es

-- each edition may come after each that is before it
abbrev pub IsChain : List Edition → Type 0
IsChain [] = ⊤
IsChain (e ∷ es) = AllFollow e es × IsChain es

-- the text is a file of the journal that was noted
abbrev pub IsEdited : Edition → Type 0
IsEdited e = IsFile e.text e.journal.journal

-- the last text is a file of the journal that was noted last
abbrev pub IsUpToDate : List Edition → Type 0
IsUpToDate [] = ⊤
IsUpToDate (e ∷ es) = IsEdited (last_of (e ∷ es))

-- an edition is the note of this journal, in this generation
abbrev pub IsNoteOf : Edition → Journal → ℕ → Type 0
IsNoteOf e j generation = (e.journal.journal ≡ j) × (e.generation ≡ generation)

-- how many lines the journal has that was noted
abbrev pub lines_of : Edition → ℕ
lines_of e = length (journal_lines e.journal.journal)

-- how many reductions its last entry has if it is a run, or else 0
abbrev pub run_of : Edition → ℕ
run_of e = last_run e.journal.journal.entries
