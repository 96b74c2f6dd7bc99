use Rattle.kl1_model.proofs.LexSteps.{fronts_leave_less}
use Rattle.kl1_read.proofs.front.front_of.Goals as goal

pub returns-clause-less : goal.returns-clause-less
returns-clause-less c = rw c.begun_front.ensures (fronts_leave_less c.args.bytes.now)
