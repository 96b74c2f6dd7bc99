-- What is written for each example script. Made by tools/examples_as_definitions.
use Rattle.kl1_model_laws.proofs.ShoenExampleRows.{shoen_examples_hold}
use Rattle.kl1_model_laws.proofs.LineExampleRows.{line_examples_hold}
use Rattle.kl1_model_laws.proofs.ProgramExampleRows.{program_examples_hold}
use Rattle.kl1_model_laws.specs.Examples.{ExamplesHold}

-- all of them
pub examples_hold : ExamplesHold
examples_hold = record { shoens = shoen_examples_hold; lines = line_examples_hold; programs = program_examples_hold }
