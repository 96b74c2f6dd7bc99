-- The example scripts with what is written for them, by parts. Made by tools/examples_as_definitions from examples/scripts.
use Rattle.kl1_model_laws.specs.ShoenExamples.{ShoenExamplesHold}
use Rattle.kl1_model_laws.specs.LineExamples.{LineExamplesHold}
use Rattle.kl1_model_laws.specs.ProgramExamples.{ProgramExamplesHold}

-- each example script has the output that stands beside it
pub record ExamplesHold : Type 0 where
  pub shoens : ShoenExamplesHold
  pub lines : LineExamplesHold
  pub programs : ProgramExamplesHold
