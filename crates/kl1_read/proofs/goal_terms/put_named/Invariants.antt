use Rattle.std.proofs.Common.{◌≡◌, ◌++◌, map}
use Rattle.kl1_model.specs.Module.{without_priority}
use Rattle.kl1_read.specs.BodyGoals.{goal_of_term}
use Rattle.kl1_read.proofs.goal_terms.put_named.Given as goal

-- the goals so far, with those that the terms that are left are, are the others and those of all terms
abbrev pub invariant-loop-term : goal.invariant-loop-term
invariant-loop-term l =
    map goal_of_term l.goals.items ++ map without_priority l.term-iterator.rest.items ≡ map goal_of_term l.fn.goals.items ++ map without_priority l.initial.term-iterator.rest.items
