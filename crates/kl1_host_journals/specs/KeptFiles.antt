-- The file of an account with what it holds.
use Rattle.kl1_log.specs.declared.disk.Disk as disk
use Rattle.kl1_log.specs.declared.log_file.LogFile.{LogFile}
use Rattle.kl1_journal_stamps.specs.declared.shown_ids.ShownIds as shown_ids
use Rattle.kl1_host_journals.specs.declared.history.Naming as naming
use Rattle.kl1_host_journals.specs.declared.place.Place.{Place}
use Rattle.kl1_host_journals.specs.declared.kept_file.KeptFile.{KeptFile}

module _ {D J : Type 0} {d : disk.Ghosts D} {g : naming.Ghosts J} {shown : shown_ids.Ghosts J} where
  -- the file
  abbrev pub file_of : KeptFile D J d g shown → LogFile D d
  file_of f = f.file

  -- what it holds
  abbrev pub place_of : KeptFile D J d g shown → Place J g shown
  place_of f = f.place
