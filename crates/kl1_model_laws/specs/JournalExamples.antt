-- The example journals with what is written for them, by parts. Made by tools/examples_as_definitions from examples/journals.
use Rattle.kl1_model_laws.specs.HeadingJournalExamples.{HeadingJournalsHold}
use Rattle.kl1_model_laws.specs.EntryJournalExamples.{EntryJournalsHold}

-- each example journal has the output that stands beside it
pub record JournalsHold : Type 0 where
  pub headings : HeadingJournalsHold
  pub entries : EntryJournalsHold
