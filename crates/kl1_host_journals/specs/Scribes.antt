-- What a scribe shows.
use Rattle.std.specs.Prelude.{⊤, ◌≡◌, ◌≤◌, ◌⊎◌, true, Option, Some, None}
use Rattle.kl1_log.specs.declared.disk.Disk as disk
use Rattle.kl1_journal_stamps.specs.declared.shown_ids.ShownIds as shown_ids
use Rattle.kl1_host_journals.specs.declared.history.Naming as naming
use Rattle.kl1_host_journals.specs.declared.kept_file.KeptFile.{KeptFile}
use Rattle.kl1_host_journals.specs.declared.parcel.Parcel.{Parcel}
use Rattle.kl1_host_journals.specs.declared.place.Place.{Place}
use Rattle.kl1_host_journals.specs.declared.scribe.Scribe.{Scribe}
use Rattle.kl1_host_journals.specs.declared.written.Told.{Told}
use Rattle.kl1_host_journals.specs.KeptFiles.{place_of}
use Rattle.kl1_host_journals.specs.Places.{log_of, edition_of}
use Rattle.kl1_host_journals.specs.Tellings.{is_end}
use Rattle.kl1_host_journals.specs.TellingPlaces.{IsToldUpTo}

-- something is there
abbrev pub IsThere : {A : Type 0} → Option A → Type 0
IsThere None = ⊥
IsThere (Some a) = ⊤

module _ {D J : Type 0} {d : disk.Ghosts D} {g : naming.Ghosts J} {shown : shown_ids.Ghosts J} where
  -- the file
  abbrev pub file_of : Scribe D J d g shown → KeptFile D J d g shown
  file_of s = s.file

  -- what those were told last who wait
  abbrev pub told_of : Scribe D J d g shown → Option Told
  told_of s = s.told

  -- what was taken and isn't written, since memory was refused
  abbrev pub unwritten_of : Scribe D J d g shown → Option (Parcel J g shown)
  unwritten_of s = s.unwritten

  -- no more is written, and those were told so who wait
  abbrev pub IsEnded : Scribe D J d g shown → Type 0
  IsEnded s = is_end s.told ≡ true

  -- memory was refused for what was taken, which is written next
  abbrev pub IsPutOff : Scribe D J d g shown → Type 0
  IsPutOff s = IsThere s.unwritten

  -- all is in the file that it has, and those were told so who wait
  abbrev pub IsTold : Scribe D J d g shown → Type 0
  IsTold s = IsToldUpTo (place_of s.file) s.told

  -- all that was noted up to a place is in the file, and those were told so who wait, unless nothing was written now
  abbrev pub HasWritten : Place J g shown → Scribe D J d g shown → Scribe D J d g shown → Type 0
  HasWritten noted old new =
      ((edition_of noted).number ≤ (edition_of (place_of new.file)).number)
      × (IsTold new ⊎ (log_of (place_of new.file) ≡ log_of (place_of old.file)))
