use Rattle.kl1_store.specs.Meaning.{term_of}
use Rattle.kl1_goals_moves.proofs.Substituting.{moves_as}
use Rattle.kl1_goals_moves.proofs.substitute.substitute_move.Goals as goal

pub returns : goal.returns
returns g c = λ f r.
    moves_as (term_of f c.args.store.now.held c.args.term) c.args.clause c.look_at_goal.result c.giving_way.result c.if-clause-ne0.false c.giving_way.ensures (c.look_at_goal.ensures.look f r)
