use Rattle.kl1_model_laws.proofs.GuardRowProofs.{guard_rows_hold}
use Rattle.kl1_model_laws.proofs.examples.guard_rows_hold.Goals as goal

pub returns : goal.returns
returns c = guard_rows_hold
