-- What of an account's journal was noted for its file, in its history.
use Rattle.kl1_journal_stamps.specs.declared.shown_ids.ShownIds as shown_ids
use Rattle.kl1_host_journals.specs.declared.history.Naming as naming
use Rattle.kl1_host_journals.specs.declared.history.History.{History}
use Rattle.kl1_host_journals.specs.declared.notes.Notes.{Notes}
use Rattle.kl1_host_journals.specs.declared.place.Place.{Place}
use Rattle.kl1_host_journals.specs.declared.notebook.Notebook.{Notebook}

module _ {J : Type 0} {g : naming.Ghosts J} {shown : shown_ids.Ghosts J} where
  -- what waits
  abbrev pub notes_of : Notebook J g shown → Notes
  notes_of n = n.notes

  -- all that was noted
  abbrev pub history_of : Notebook J g shown → History J g shown
  history_of n = n.history

  -- what had been noted when a change was taken last
  abbrev pub taken_of : Notebook J g shown → Place J g shown
  taken_of n = n.taken
