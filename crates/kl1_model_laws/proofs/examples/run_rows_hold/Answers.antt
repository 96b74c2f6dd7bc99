use Rattle.kl1_model_laws.proofs.RunRowProofs.{run_rows_hold}
use Rattle.kl1_model_laws.proofs.examples.run_rows_hold.Goals as goal

pub returns : goal.returns
returns c = run_rows_hold
