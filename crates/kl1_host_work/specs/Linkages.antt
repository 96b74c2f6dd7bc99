-- What is known of the file of an account that is linked with a journal.
use Rattle.std.specs.Prelude.{⊤, ◌≡◌, ℕ, Some, slice_get}
use Rattle.kl1_model_server.specs.Journal.{Journal}
use Rattle.kl1_journal_stamps.specs.Stamps.{StampValue}
use Rattle.kl1_log.specs.declared.disk.Disk as disk
use Rattle.kl1_log.specs.Batches.{text_of}
use Rattle.kl1_log.specs.LogFiles.{disk_of}
use Rattle.kl1_journal_stamps.specs.declared.shown_ids.ShownIds as shown_ids
use Rattle.kl1_host_journals.specs.declared.history.Naming as naming
use Rattle.kl1_host_journals.specs.declared.linking.Linked.{Linked as LinkedFile}
use Rattle.kl1_host_journals.specs.Editions.{IsNoteOf}
use Rattle.kl1_host_journals.specs.KeptFiles.{file_of}
use Rattle.kl1_host_journals.specs.Notebooks.{notes_of}
use Rattle.kl1_host_journals.specs.Notes.{waiting_of, generation_of}
use Rattle.kl1_host_journals.specs.Places.{edition_of}
use Rattle.kl1_host_journals.specs.StoredPlaces.{place_of}
use Rattle.kl1_host_journals.specs.Writtens.{stored_of}
use Rattle.kl1_host_journals.specs.Links.{IsUpToIf}
use Rattle.kl1_host_work.specs.declared.linking.Linkage.{Linkage}
use Rattle.kl1_host_work.specs.declared.linking.Linkage.TheVariants.{Unlinked, Linked, Failed}

module _ {D J : Type 0} {g : disk.Ghosts D} {h : naming.Ghosts J} {shown : shown_ids.Ghosts J} where
  -- what waits for a file makes it one of this journal, in this generation, with which its history begins
  abbrev pub IsLinked : LinkedFile D J g h shown → Journal → ℕ → Type 0
  IsLinked l j generation = IsUpToIf (waiting_of (notes_of l.notebook)) (text_of (g.known (disk_of (file_of l.file)))) j × (generation_of (notes_of l.notebook) ≡ generation) × IsNoteOf (edition_of (place_of (stored_of l.written))) j generation

  -- so, if it is linked
  abbrev pub IsLinkedIf : Linkage D J g h shown → Journal → ℕ → Type 0
  IsLinkedIf (Unlinked file own) j generation = ⊤
  IsLinkedIf (Linked l) j generation = IsLinked l j generation
  IsLinkedIf (Failed fault) j generation = ⊤

  -- a file that isn't linked yet is of this account
  abbrev pub IsOwnOf : ℕ → Linkage D J g h shown → Type 0
  IsOwnOf account (Unlinked file own) = own.account ≡ account
  IsOwnOf account (Linked l) = ⊥
  IsOwnOf account (Failed fault) = ⊤

  -- a file that isn't linked yet takes the stamps of the account that it is of
  abbrev pub Takes : Linkage D J g h shown → StampValue → Type 0
  Takes (Unlinked file own) s = slice_get shown.histories own.account ≡ Some s.history
  Takes (Linked l) s = ⊤
  Takes (Failed fault) s = ⊤

  -- a file that wasn't linked was shown a journal; else it stays as it is
  abbrev pub IsRead : Linkage D J g h shown → Linkage D J g h shown → Journal → ℕ → Type 0
  IsRead (Unlinked file own) after j generation = IsLinkedIf after j generation
  IsRead (Linked l) after j generation = after ≡ Linked l
  IsRead (Failed fault) after j generation = after ≡ Failed fault
