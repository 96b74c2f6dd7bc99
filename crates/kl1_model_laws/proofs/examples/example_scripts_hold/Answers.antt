use Rattle.kl1_model_laws.proofs.ExampleRows.{examples_hold}
use Rattle.kl1_model_laws.proofs.examples.example_scripts_hold.Goals as goal

pub returns : goal.returns
returns c = examples_hold
