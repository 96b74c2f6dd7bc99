use Rattle.std.proofs.Common.{◌≡◌, map, length}
use Rattle.kl1_read.specs.Views.{numbered_token}
use Rattle.kl1_read.specs.BodyGoals.{goal_of_term, written_goals, terms_after, with_front}
use Rattle.kl1_read.proofs.goal_terms.read_on.Given as goal

-- the goals so far, with what comes of the terms that were read and of the tokens that are left, are all goals
abbrev pub invariant-goals : goal.invariant-goals
invariant-goals l =
    with_front (map goal_of_term l.goals.items) (terms_after written_goals l.terms.items (map numbered_token l.rest)) ≡ terms_after written_goals l.fn.terms.items (map numbered_token l.tokens)

abbrev pub decreases-goals : goal.decreases-goals
decreases-goals l = length l.rest
