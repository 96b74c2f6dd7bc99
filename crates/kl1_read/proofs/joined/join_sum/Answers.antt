use Rattle.std.proofs.Common.{map, sym}
use Rattle.kl1_read.specs.Views.{numbered_token}
use Rattle.kl1_read.proofs.PartSteps.{relation_follows}
use Rattle.kl1_read.proofs.joined.join_sum.Goals as goal

pub returns-in-Some-infix_in_front-clause-value : goal.returns-in-Some-infix_in_front-clause-value
returns-in-Some-infix_in_front-clause-value c =
    rw (sym c.in-None.ensures.value, c.requires.sum, c.requires.product, c.requires.colon) (relation_follows c.args.sum c.in-Some-infix_in_front.name (map numbered_token c.args.tokens.now) (map numbered_token c.in-Some-infix_in_front.behind.now) c.in-Some-infix_in_front.ensures.value)
