use Rattle.kl1_ready.proofs.Words.{ap, sym, ◌∙◌, or_right, is_monitor, is_enabled_at}
use Rattle.kl1_ready.proofs.looking.may_step.Goals as goal

pub returns-then-goal-running : goal.returns-then-goal-running
returns-then-goal-running c =
    let flag = is_enabled_at c.args.shoens.now.shoens c.args.shoens.now.work in
    sym (or_right (is_monitor c.args.goal.now) (flag c.args.goal.now.shoen) (ap flag c.if-goal-running.true ∙ c.requires))
