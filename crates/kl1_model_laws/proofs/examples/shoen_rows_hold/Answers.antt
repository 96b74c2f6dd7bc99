use Rattle.kl1_model_laws.proofs.ShoenRowProofs.{shoen_rows_hold}
use Rattle.kl1_model_laws.proofs.examples.shoen_rows_hold.Goals as goal

pub returns : goal.returns
returns c = shoen_rows_hold
