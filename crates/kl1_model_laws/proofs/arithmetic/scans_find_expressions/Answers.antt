use Rattle.kl1_model.proofs.ScanFinds.{scan_is}
use Rattle.kl1_model_laws.proofs.arithmetic.scans_find_expressions.Goals as goal

pub returns : goal.returns
returns c = scan_is
