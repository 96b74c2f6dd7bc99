-- the structures counted so far, with those of the goals that are left, are those of all
use Rattle.std.proofs.Common.{◌≡◌, ◌+◌, map, drop}
use Rattle.kl1_model.specs.Module.{goals_of}
use Rattle.kl1_model.specs.Nodes.{goals_nodes}
use Rattle.kl1_read.specs.Sources.{goal_of_parts}
use Rattle.kl1_clause.proofs.node_count.goals_nodes.Given as goal

abbrev pub invariant-loop-goal : goal.invariant-loop-goal
invariant-loop-goal l = l.count + goals_nodes (goals_of (map goal_of_parts (drop l.goal-index l.goals))) ≡ goals_nodes (goals_of (map goal_of_parts l.goals))
