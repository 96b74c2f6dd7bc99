-- Up to where those were told who wait for the disk.
use Rattle.std.specs.Prelude.{◌≡◌, Option, Some, None}
use Rattle.kl1_log.specs.Receipts as receipts
use Rattle.kl1_journal_stamps.specs.declared.shown_ids.ShownIds as shown_ids
use Rattle.kl1_host_journals.specs.declared.history.Naming as naming
use Rattle.kl1_host_journals.specs.declared.place.Place.{Place}
use Rattle.kl1_host_journals.specs.declared.written.Told.{Told}
use Rattle.kl1_host_journals.specs.Places.{account_of, edition_of}
use Rattle.kl1_host_journals.specs.Tellings.{receipt_told}

module _ {J : Type 0} {g : naming.Ghosts J} {shown : shown_ids.Ghosts J} where
  -- they were told of all that was noted up to a place
  abbrev pub IsToldUpTo : Place J g shown → Option Told → Type 0
  IsToldUpTo p None = ⊥
  IsToldUpTo p (Some t) = (receipts.account_of (receipt_told t) ≡ account_of p) × (receipts.changes_of (receipt_told t) ≡ (edition_of p).number)
