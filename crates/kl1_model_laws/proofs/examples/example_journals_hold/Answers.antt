use Rattle.kl1_model_laws.proofs.JournalRows.{journals_hold}
use Rattle.kl1_model_laws.proofs.examples.example_journals_hold.Goals as goal

pub returns : goal.returns
returns c = journals_hold
