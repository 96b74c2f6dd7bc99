-- What is on disk, and what waits for that.
use Rattle.kl1_log.specs.declared.receipt.Receipt.{Receipt}
use Rattle.kl1_journal_stamps.specs.declared.shown_ids.ShownIds as shown_ids
use Rattle.kl1_host_journals.specs.declared.history.Naming as naming
use Rattle.kl1_host_journals.specs.declared.place.Place.{Place}
use Rattle.kl1_host_journals.specs.declared.stored.Stored.{Stored}

module _ {J : Type 0} {g : naming.Ghosts J} {shown : shown_ids.Ghosts J} where
  -- the receipt
  abbrev pub receipt_of : Stored J g shown → Receipt
  receipt_of s = s.receipt

  -- what was noted when it was given
  abbrev pub place_of : Stored J g shown → Place J g shown
  place_of s = s.place
