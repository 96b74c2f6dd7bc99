use Rattle.kl1_ready.proofs.Plans.{substitute_found, nothing_found, move_found, no_predicate}
use Rattle.kl1_ready.proofs.planning.plan_substitute.Goals as goal

pub returns-in_default : goal.returns-in_default
returns-in_default c program w places text =
    let given = c.given_way.ensures in
    nothing_found {w = w} {places = places} {text = text} {p = no_predicate} c.in_default.is (substitute_found c.requires.substitutes c.requires.cell (given.inside no_predicate places text) given.moves)

pub returns : goal.returns
returns c program w places text =
    let given = c.given_way.ensures in
    let found = c.located_or_none in
    move_found _ c.in-Some.is (substitute_found c.requires.substitutes c.requires.cell (given.inside found.result.predicate places text) given.moves) found.ensures.some
