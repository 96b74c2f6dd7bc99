use Rattle.kl1_model.proofs.RelabelledSteps.{step_relabelled, shifts_stay, answer_relabelled}
use Rattle.kl1_model.proofs.GivenRenamed.{given_is_renamed}
use Rattle.kl1_model_laws.proofs.relabelling.steps_keep_to_other_numbers.Goals as goal

pub returns : goal.returns
returns c = record { steps = step_relabelled; shifts = shifts_stay; given = given_is_renamed; answers = answer_relabelled }
