use Rattle.std.proofs.Common.{map}
use Rattle.kl1_read.specs.Views.{numbered_token}
use Rattle.kl1_read.proofs.PartSteps.{elements_follow}
use Rattle.kl1_read.proofs.closed.close_elements.Goals as goal

pub returns-in-Some-clause-value : goal.returns-in-Some-clause-value
returns-in-Some-clause-value c =
    elements_follow c.args.elements.items c.args.piece c.push.new.self (map numbered_token c.args.tokens.now) (map numbered_token c.in-Some.behind.now) c.in_ok-push.ensures.items c.in-Some.ensures.value
