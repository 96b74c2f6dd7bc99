-- the greatest number of a variable so far, with that of the goals that are left, is that of all
use Rattle.std.proofs.Common.{◌≡◌, max, map, drop}
use Rattle.kl1_model.specs.Term.{terms_of}
use Rattle.kl1_model.specs.Meaning.{highest_in}
use Rattle.kl1_model.specs.Module.{goals_of}
use Rattle.kl1_read.specs.Sources.{goal_of_parts}
use Rattle.kl1_clause.proofs.compiled_clause.fresh_among.Given as goal

abbrev pub invariant-loop-goal : goal.invariant-loop-goal
invariant-loop-goal l = max l.most (highest_in (terms_of (goals_of (map goal_of_parts (drop l.goal-index l.goals))))) ≡ highest_in (terms_of (goals_of (map goal_of_parts l.goals)))
