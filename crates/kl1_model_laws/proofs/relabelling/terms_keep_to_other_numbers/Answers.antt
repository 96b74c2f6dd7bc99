use Rattle.kl1_model.proofs.Renaming.{mgu_renamed}
use Rattle.kl1_model.proofs.RenamedVerdicts.{patterns_renamed, verdict_renamed}
use Rattle.kl1_model_laws.proofs.relabelling.terms_keep_to_other_numbers.Goals as goal

pub returns : goal.returns
returns c = record { equations = mgu_renamed; matches = patterns_renamed; verdicts = verdict_renamed }
