use Rattle.kl1_model.proofs.RelabelledSteps.{first_relabelled, quiet_relabelled, run_relabelled}
use Rattle.kl1_model_laws.proofs.relabelling.choices_keep_to_other_numbers.Goals as goal

pub returns : goal.returns
returns c = record { first = first_relabelled; quiet = quiet_relabelled; runs = run_relabelled }
