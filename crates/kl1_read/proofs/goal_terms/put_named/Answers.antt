use Rattle.std.proofs.Common.{map, ap, ◌∙◌, arith}
use Rattle.std.proofs.lemmas.List.{map-append}
use Rattle.kl1_read.specs.BodyGoals.{goal_of_term}
use Rattle.kl1_read.proofs.BodyGoals.{named_put}
use Rattle.kl1_read.proofs.goal_terms.put_named.Goals as goal

pub returns-in_ok-push-in-Some-2 : goal.returns-in_ok-push-in-Some-2
returns-in_ok-push-in-Some-2 c =
    named_put c.args.priority c.args.terms.items c.pop.new.self.items c.into_iter-term-iterator.result.rest.items c.loop-term.term-iterator.rest.items c.in-Some.last (map goal_of_term c.args.goals.now.items) (map goal_of_term c.loop-term.goals.items) (map goal_of_term c.push-in-Some.new.self.items)
    c.in-Some.ensures.items
    c.into_iter-term-iterator.ensures.into_iter_gives.0
    (omega (arith, c.in-None-term.ensures.steps.0, c.loop-term.term-iterator.rest.ok.0))
    c.loop-term.invariant
    (ap (map goal_of_term) c.in_ok-push-in-Some-2.ensures.items ∙ map-append goal_of_term c.loop-term.goals.items _)
