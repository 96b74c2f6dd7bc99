use Rattle.std.proofs.Common.{◌≤◌, ◌∙◌, arith}
use Rattle.kl1_journal.specs.Keeping.{kept_of}
use Rattle.kl1_command.proofs.Runs.{all_done}
use Rattle.kl1_pool.specs.declared.turn.TheConstants.{MOST_GRANTED_STEPS}
use Rattle.kl1_pool.proofs.GoingOn.{short_on}
use Rattle.kl1_pool.proofs.pool_account.PoolAccount.short_turn.Goals as goal

pub returns-clause-steps : goal.returns-clause-steps
returns-clause-steps g c = λ f fits.
    all_done (kept_of f c.args.self.now.held) (kept_of f c.first_steps-steps.new.self.held) c.first_steps-steps.result.done (c.first_steps-steps.ensures.goes f fits)

pub returns-clause-again : goal.returns-clause-again
returns-clause-again g c = λ f fits.
    let few : c.first_steps-steps.result.done ≤ MOST_GRANTED_STEPS = omega (arith, c.first_steps-steps.ensures.few, c.min-most.ensures) in
    c.short_goes_on-again.ensures ∙ short_on c.args.more MOST_GRANTED_STEPS c.first_steps-steps.result.done _ _ _ _ few (c.is_over-is_over.ensures f) (c.quiet.ensures f fits)
