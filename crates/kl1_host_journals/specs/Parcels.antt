-- What the scribe takes at once.
use Rattle.kl1_log.specs.declared.batch.Batch.{Batch}
use Rattle.kl1_journal_stamps.specs.declared.shown_ids.ShownIds as shown_ids
use Rattle.kl1_host_journals.specs.declared.history.Naming as naming
use Rattle.kl1_host_journals.specs.declared.place.Place.{Place}
use Rattle.kl1_host_journals.specs.declared.parcel.Parcel.{Parcel}

module _ {J : Type 0} {g : naming.Ghosts J} {shown : shown_ids.Ghosts J} where
  -- the batch
  abbrev pub batch_of : Parcel J g shown → Batch
  batch_of p = p.batch

  -- what the file is to hold before it
  abbrev pub begin_of : Parcel J g shown → Place J g shown
  begin_of p = p.from

  -- what the file is to hold after it
  abbrev pub end_of : Parcel J g shown → Place J g shown
  end_of p = p.to
