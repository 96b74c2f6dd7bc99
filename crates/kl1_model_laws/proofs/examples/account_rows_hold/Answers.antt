use Rattle.kl1_model_laws.proofs.AccountRowProofs.{account_rows_hold}
use Rattle.kl1_model_laws.proofs.examples.account_rows_hold.Goals as goal

pub returns : goal.returns
returns c = account_rows_hold
