-- the priorities so far, with those of the goals that are left, are those of all
use Rattle.std.proofs.Common.{◌≡◌, ◌++◌, map, drop}
use Rattle.kl1_read.specs.Sources.{goal_of_parts}
use Rattle.kl1_clause.specs.Clauses.{priorities_of}
use Rattle.kl1_clause.proofs.compiled_clause.priorities_of.Given as goal

abbrev pub invariant-loop-goal : goal.invariant-loop-goal
invariant-loop-goal l = l.priorities.items ++ priorities_of (map goal_of_parts (drop l.goal-index l.goals)) ≡ priorities_of (map goal_of_parts l.goals)
