use Rattle.std.proofs.Common.{map, ap}
use Rattle.kl1_read.specs.Views.{numbered_token}
use Rattle.kl1_read.proofs.PrimarySteps.{bad_begins, group_begins, other_sign, token_of}
use Rattle.kl1_read.proofs.begun.open.Goals as goal

pub returns-in-Open-clause-value : goal.returns-in-Open-clause-value
returns-in-Open-clause-value c = group_begins c.args.sign (map numbered_token c.args.rest.now) (ap token_of c.in-Open.is)

pub returns-in_default-clause-value : goal.returns-in_default-clause-value
returns-in_default-clause-value c = bad_begins _ (other_sign c.args.sign (map numbered_token c.args.rest.now) c.in_default.not-Open c.in_default.not-OpenList)
