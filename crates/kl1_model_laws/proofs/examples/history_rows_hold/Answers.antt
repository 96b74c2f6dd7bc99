use Rattle.kl1_model_laws.proofs.HistoryRowProofs.{history_rows_hold}
use Rattle.kl1_model_laws.proofs.examples.history_rows_hold.Goals as goal

pub returns : goal.returns
returns c = history_rows_hold
