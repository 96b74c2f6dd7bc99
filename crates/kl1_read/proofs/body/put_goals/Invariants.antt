use Rattle.std.proofs.Common.{◌≡◌, map, reverse, vec_len}
use Rattle.kl1_model.specs.Module.{each_of}
use Rattle.kl1_read.specs.Sources.{goal_of_parts}
use Rattle.kl1_read.specs.Statements.{fit_named}
use Rattle.kl1_read.specs.BodyGoals.{goal_of_term}
use Rattle.kl1_read.proofs.Clauses.{given_before}
use Rattle.kl1_read.proofs.body.put_goals.Given as goal

-- what the terms that are left are, before the goals so far, is what all are
abbrev pub invariant-loop-term : goal.invariant-loop-term
invariant-loop-term l = given_before (reverse (map goal_of_parts l.goals.items)) (each_of (fit_named l.module_name) (map goal_of_term l.terms.items)) ≡ each_of (fit_named l.module_name) (map goal_of_term l.fn.terms.items)

abbrev pub decreases-loop-term : goal.decreases-loop-term
decreases-loop-term l = vec_len l.terms
