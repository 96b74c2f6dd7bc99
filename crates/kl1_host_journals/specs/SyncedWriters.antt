-- What a writer that waits shows.
use Rattle.kl1_journal_stamps.specs.declared.shown_ids.ShownIds as shown_ids
use Rattle.kl1_host_journals.specs.declared.history.Naming as naming
use Rattle.kl1_host_journals.specs.declared.leave.Connecting as connecting
use Rattle.kl1_host_journals.specs.Gates.{writer_behind}
use Rattle.kl1_host_journals.specs.declared.synced_writer.SyncedWriter.{SyncedWriter}

-- the writer to which it writes
abbrev pub writer_of : {T R J C : Type 0} {g : naming.Ghosts J} {shown : shown_ids.Ghosts J} {h : connecting.Ghosts C} → SyncedWriter T R J C g shown h → T
writer_of w = writer_behind w.gate
