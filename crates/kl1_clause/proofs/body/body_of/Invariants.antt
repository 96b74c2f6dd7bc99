-- the goals so far are put
use Rattle.std.proofs.Common.{map, take}
use Rattle.kl1_model.specs.Module.{goals_of}
use Rattle.kl1_read.specs.Sources.{goal_of_parts}
use Rattle.kl1_clause.specs.Bodies.{IsBody}
use Rattle.kl1_clause.proofs.body.body_of.Given as goal

abbrev pub invariant-loop-goal : goal.invariant-loop-goal
invariant-loop-goal l = IsBody l.initial.names l.names l.row.items l.modules.items (goals_of (map goal_of_parts (take l.goal-index l.goals)))
