use Rattle.kl1_model.proofs.Comparisons.{compare_plain}
use Rattle.kl1_model.proofs.PlainTests.{tests_stand}
use Rattle.kl1_model.proofs.PlainVerdicts.{matches_stand, verdicts_stand}
use Rattle.kl1_model_laws.proofs.waits.answers_are_what_they_were.Goals as goal

pub returns : goal.returns
returns c = record { comparisons = compare_plain; tests = tests_stand; matches = matches_stand; verdicts = verdicts_stand }
