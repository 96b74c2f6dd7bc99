use Rattle.kl1_model_laws.proofs.SpellingRowProofs.{spelling_rows_hold}
use Rattle.kl1_model_laws.proofs.examples.spelling_rows_hold.Goals as goal

pub returns : goal.returns
returns c = spelling_rows_hold
