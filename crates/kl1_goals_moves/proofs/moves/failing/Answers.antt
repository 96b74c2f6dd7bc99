use Rattle.kl1_goals_moves.proofs.Taking.{are_clauses}
use Rattle.kl1_goals_moves.proofs.moves.failing.Goals as goal

pub choose-requires-clause-clauses : goal.choose-requires-clause-clauses
choose-requires-clause-clauses g c = are_clauses c.args.predicate.names.now c.args.predicate.clauses.now c.requires.predicate
