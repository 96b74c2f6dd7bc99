use Rattle.kl1_model_laws.proofs.SubstituteRowProofs.{substitute_rows_hold}
use Rattle.kl1_model_laws.proofs.examples.substitute_rows_hold.Goals as goal

pub returns : goal.returns
returns c = substitute_rows_hold
