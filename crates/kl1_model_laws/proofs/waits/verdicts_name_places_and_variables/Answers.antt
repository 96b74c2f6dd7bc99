use Rattle.kl1_model.proofs.VerdictNames.{verdicts_answer, accepts_places, verdicts_name}
use Rattle.kl1_model_laws.proofs.waits.verdicts_name_places_and_variables.Goals as goal

pub returns : goal.returns
returns c = record { answers = verdicts_answer; places = accepts_places; names = verdicts_name }
