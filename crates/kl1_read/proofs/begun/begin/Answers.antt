use Rattle.std.proofs.Common.{arith}
use Rattle.kl1_read.proofs.PrimarySteps.{bad_begins, empty_begins}
use Rattle.kl1_read.proofs.begun.begin.Goals as goal

pub returns-in-empty-clause-value : goal.returns-in-empty-clause-value
returns-in-empty-clause-value c = bad_begins _ (empty_begins c.args.tokens.now (omega (arith, c.in-empty.len_below)))
