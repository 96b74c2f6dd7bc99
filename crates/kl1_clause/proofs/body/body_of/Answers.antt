use Rattle.kl1_clause.proofs.Bodies.{no_goals, next_goal}
use Rattle.kl1_clause.proofs.body.body_of.Goals as goal

pub loop-goal-init : goal.loop-goal-init
loop-goal-init c = rw c.new-row.ensures.items (rw c.new-modules.ensures.items (no_goals c.args.names.now))

pub loop-goal-preserved : goal.loop-goal-preserved
loop-goal-preserved c =
    next_goal c.args.names.now c.loop-goal.names c.put_goal.new.names c.loop-goal.row.items c.put_goal.new.row.items c.loop-goal.modules.items c.put_goal.new.modules.items c.args.goals.now
    c.loop-goal.goal-index c.goal-item.result c.loop-goal-test.true c.goal-item.is c.loop-goal.invariant c.in_ok-put_goal.ensures
