use Rattle.std.proofs.Common.{subst}
use Rattle.kl1_user_events.specs.Views.{reply_of}
use Rattle.kl1_command.specs.Stepping.{IsEnd}
use Rattle.kl1_command.proofs.Runs.{run_whole, run_quiet, run_stopped}
use Rattle.kl1_command.proofs.run.answer_to.Goals as goal

pub returns-in-Done-clause-does : goal.returns-in-Done-clause-does
returns-in-Done-clause-does c = λ s after most h end.
    run_whole s after c.args.steps.done most h (subst (λ o. IsEnd most c.args.steps.done o after) c.in-Done.is end)

pub returns-in-Quiet-clause-does : goal.returns-in-Quiet-clause-does
returns-in-Quiet-clause-does c = λ s after most h end.
    run_quiet s after c.args.steps.done most h (subst (λ o. IsEnd most c.args.steps.done o after) c.in-Quiet.is end)

pub returns-in-Refused-clause-does : goal.returns-in-Refused-clause-does
returns-in-Refused-clause-does c = λ s after most h end.
    run_stopped s after c.args.steps.done most c.in-Refused.refusal (reply_of c.stopped.result) h (subst (λ o. IsEnd most c.args.steps.done o after) c.in-Refused.is end) (c.stopped.ensures.reply after)
