use Rattle.std.proofs.Common.{◌≤◌, ◌∙◌, arith}
use Rattle.kl1_pool_tickets.specs.declared.serving.TheConstants.{MOST_STEPS}
use Rattle.kl1_pool.proofs.GoingOn.{whole_on}
use Rattle.kl1_pool.proofs.pool_account.PoolAccount.turn.Goals as goal

pub returns-clause-again : goal.returns-clause-again
returns-clause-again g c = λ f fits.
    let few : c.steps_within-steps.result.done ≤ MOST_STEPS = omega (arith, c.steps_within-steps.ensures.few, c.min-most.ensures) in
    c.whole_goes_on-again.ensures ∙ whole_on MOST_STEPS c.steps_within-steps.result.done _ _ _ _ few (c.is_over-is_over.ensures f) (c.quiet.ensures f fits)
