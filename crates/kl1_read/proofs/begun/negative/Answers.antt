use Rattle.std.proofs.Common.{arith}
use Rattle.kl1_read.proofs.PrimarySteps.{bad_begins, empty_negative}
use Rattle.kl1_read.proofs.begun.negative.Goals as goal

pub returns-in-empty-clause-value : goal.returns-in-empty-clause-value
returns-in-empty-clause-value c = bad_begins _ (empty_negative c.args.tokens.now (omega (arith, c.in-empty.len_below)))
