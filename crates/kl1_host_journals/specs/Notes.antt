-- What is noted of an account's journal.
use Rattle.std.specs.Prelude.{◌≡◌, ◌+◌, ℕ, List}
use mathlib.Core.List.{IsPrefix}
use Rattle.kl1_model_server.specs.Journal.{Journal}
use Rattle.kl1_journal_stamps.specs.Later.{IsLater}
use Rattle.kl1_log.specs.Batches.{text_after}
use Rattle.kl1_log.specs.Waits.{IsUpTo, CountsOn, Keeps}
use Rattle.kl1_log.specs.declared.change.Change.{Change}
use Rattle.kl1_log.specs.declared.waiting.Waiting.{Waiting}
use Rattle.kl1_host_journals.specs.declared.notes.Notes.{Notes}

-- what waits for the file
abbrev pub waiting_of : Notes → Waiting
waiting_of n = n.waiting

-- the generation of the journal that was noted last
abbrev pub generation_of : Notes → ℕ
generation_of n = n.generation

-- how many changes were noted
abbrev pub number_of : Notes → ℕ
number_of n = n.waiting.noted

-- what the file is to get
abbrev pub change_of : Notes → Change
change_of n = n.waiting.change

-- A journal of a generation was taken in: what waited made of a file one of the journal that was noted before, and what waits now makes of
-- it one of this journal, if a journal of the same generation has only grown. Of a journal of the same generation bytes come after what
-- waited, and one of another generation is a change.
pub record TakesIn (old new : Notes) (j : Journal) (generation : ℕ) : Type 0 where
  pub file : (text : List ℕ) (before : Journal) → IsUpTo old.waiting text before → (generation ≡ old.generation → IsLater before j) → IsUpTo new.waiting text j
  pub now : new.generation ≡ generation
  pub counts : CountsOn old.waiting new.waiting
  pub longer : generation ≡ old.generation → (text : List ℕ) → IsPrefix (text_after text old.waiting.change) (text_after text new.waiting.change)
  pub one : (generation ≡ old.generation → ⊥) → new.waiting.noted ≡ old.waiting.noted + 1

-- the same waits for the same generation
pub record KeepsAll (old new : Notes) : Type 0 where
  pub waiting : Keeps old.waiting new.waiting
  pub generation : new.generation ≡ old.generation
