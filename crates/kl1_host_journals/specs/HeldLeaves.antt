-- A leave to write that waits for the disk.
use Rattle.kl1_log.specs.declared.receipt.Unsent.{Unsent}
use Rattle.kl1_journal_stamps.specs.declared.shown_ids.ShownIds as shown_ids
use Rattle.kl1_host_journals.specs.declared.history.Naming as naming
use Rattle.kl1_host_journals.specs.declared.leave.Connecting as connecting
use Rattle.kl1_host_journals.specs.declared.leave.SendPermit.{SendPermit}
use Rattle.kl1_host_journals.specs.declared.place.Place.{Place}
use Rattle.kl1_host_journals.specs.declared.held.Held.{Held}

module _ {J C : Type 0} {g : naming.Ghosts J} {shown : shown_ids.Ghosts J} {h : connecting.Ghosts C} where
  -- the leave, with the changes for which it waits
  abbrev pub unsent_of : Held J C g shown h → Unsent (SendPermit C h)
  unsent_of w = w.unsent

  -- what was noted up to the moment for which it waits
  abbrev pub place_of : Held J C g shown h → Place J g shown
  place_of w = w.place
