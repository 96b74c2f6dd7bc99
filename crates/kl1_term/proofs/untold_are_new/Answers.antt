use Rattle.kl1_term.proofs.Untold.{untold_hold}
use Rattle.kl1_term.proofs.untold_are_new.Goals as goal

pub returns : goal.returns
returns c = untold_hold
