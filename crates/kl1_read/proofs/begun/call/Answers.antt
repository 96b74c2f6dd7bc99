use Rattle.std.proofs.Common.{map}
use Rattle.kl1_read.specs.Views.{numbered_token}
use Rattle.kl1_read.proofs.PrimarySteps.{bad_begins, call_gone, call_begins}
use Rattle.kl1_read.proofs.begun.call.Goals as goal

pub returns-in-None-clause-value : goal.returns-in-None-clause-value
returns-in-None-clause-value c = bad_begins _ (call_gone c.args.text.now c.args._quotes (map numbered_token c.args.rest.now) c.in-None.ensures.value)

pub returns-in-Some-clause-value : goal.returns-in-Some-clause-value
returns-in-Some-clause-value c =
    call_begins c.args.text c.args._quotes c.new.result (map numbered_token c.args.rest.now) (map numbered_token c.in-Some.inside.now) c.new.ensures.items c.in-Some.ensures.value
