use Rattle.std.proofs.Common.{arith}
use Rattle.kl1_read.proofs.Follows.{otherwise_stands}
use Rattle.kl1_read.proofs.modules.otherwise_on.Goals as goal

pub returns-in-None : goal.returns-in-None
returns-in-None c = otherwise_stands c.args.line c.args.before.now c.args.pending (omega (arith, c.in-len1-up.len_at_least)) c.in-None.is
