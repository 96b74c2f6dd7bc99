-- What is written for each example journal. Made by tools/examples_as_definitions.
use Rattle.kl1_model_laws.proofs.HeadingJournalRows.{heading_journals_hold}
use Rattle.kl1_model_laws.proofs.EntryJournalRows.{entry_journals_hold}
use Rattle.kl1_model_laws.specs.JournalExamples.{JournalsHold}

-- all of them
pub journals_hold : JournalsHold
journals_hold = record { headings = heading_journals_hold; entries = entry_journals_hold }
