-- How far the journal of an account is on disk, as those are told who wait for it.
use Rattle.kl1_journal_stamps.specs.declared.shown_ids.ShownIds as shown_ids
use Rattle.kl1_host_journals.specs.declared.history.Naming as naming
use Rattle.kl1_host_journals.specs.declared.stored.Stored.{Stored}
use Rattle.kl1_host_journals.specs.declared.written.Written.{Written}

module _ {J : Type 0} {g : naming.Ghosts J} {shown : shown_ids.Ghosts J} where
  -- the last receipt, with what the file held on disk when it was given
  abbrev pub stored_of : Written J g shown → Stored J g shown
  stored_of w = w.stored
