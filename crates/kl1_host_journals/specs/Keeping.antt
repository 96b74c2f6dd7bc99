-- What the next start reads of what was on disk.
use Rattle.std.specs.Prelude.{◌≡◌, ℕ, List, ◌++◌, take, Some}
use mathlib.Core.List.{IsPrefix}
use Rattle.kl1_model_server.specs.Journal.{Entry, Journal}
use Rattle.kl1_log.specs.Cuts.{recovered}
use Rattle.kl1_log.specs.Deeds.{deeds_of, IsFile}
use Rattle.kl1_log.specs.Files.{FileState, MayLeave}
use Rattle.kl1_host_journals.specs.declared.edition.Edition.{Edition}
use Rattle.kl1_host_journals.specs.Editions.{last_of}

-- of these bytes the next start reads a journal that has all deeds of this one, and then may have others
pub record IsReadWith (bytes : List ℕ) (j : Journal) : Type 0 where
  pub read : Journal
  pub is : recovered bytes ≡ Some read
  pub more : List Entry
  pub deeds : deeds_of read.entries ≡ deeds_of j.entries ++ more

-- Bytes begin with a text that is a file of a journal. While bytes are put after them that make them the file of another, each crash leaves
-- what the next start reads with all deeds of the first.
abbrev pub CrashesKeepDeeds : Type 0
CrashesKeepDeeds = (covered text bytes : List ℕ) (n : ℕ) (j k : Journal) → IsPrefix covered text → IsFile covered j → IsFile (text ++ bytes) k → IsReadWith (text ++ take n bytes) j

-- Of a file of which all is on disk that was noted last of `all`: whatever a crash leaves, the next start reads a journal that has all deeds
-- of the one that was noted last of `covered`, if none of a later generation was noted.
abbrev pub Keeps : List Edition → List Edition → FileState → Type 0
Keeps covered all s = (c : List ℕ) → MayLeave s c → (last_of covered).generation ≡ (last_of all).generation → IsReadWith c (last_of covered).journal.journal
