use Rattle.kl1_match_verdict.proofs.Rising.{rising_step, rising_end}
use Rattle.kl1_match_verdict.proofs.alike.are_rising.Goals as goal

pub loop-rest-preserved : goal.loop-rest-preserved
loop-rest-preserved g c = λ later. c.loop-rest.invariant (rising_step c.first-item.result c.loop-rest.rest.now c.loop-rest.last c.in-len1-up.len_at_least c.first-item.is c.if-first-last.false later)

pub returns : goal.returns
returns g c = λ yes. c.loop-rest.invariant (rising_end c.loop-rest.rest.now c.loop-rest.last c.in_default.len_below)
