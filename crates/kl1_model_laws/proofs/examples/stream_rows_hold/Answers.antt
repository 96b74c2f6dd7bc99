use Rattle.kl1_model_laws.proofs.StreamRowProofs.{stream_rows_hold}
use Rattle.kl1_model_laws.proofs.examples.stream_rows_hold.Goals as goal

pub returns : goal.returns
returns c = stream_rows_hold
