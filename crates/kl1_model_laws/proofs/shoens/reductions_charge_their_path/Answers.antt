use Rattle.kl1_model.proofs.TreeGrows.{charges_path}
use Rattle.kl1_model.proofs.TreeSteps.{reductions_charge, monitors_charge_nobody, others_charge_nobody}
use Rattle.kl1_model_laws.proofs.shoens.reductions_charge_their_path.Goals as goal

pub returns : goal.returns
returns c = record { path = charges_path; reductions = reductions_charge; monitors = monitors_charge_nobody; others = others_charge_nobody }
