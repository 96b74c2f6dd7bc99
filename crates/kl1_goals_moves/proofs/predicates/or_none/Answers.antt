use Rattle.std.proofs.Common.{[], refl}
use Rattle.kl1_goals_moves.proofs.predicates.or_none.Goals as goal

pub returns-in-None-clause-some : goal.returns-in-None-clause-some
returns-in-None-clause-some g c = record { texts = []; count = refl; meant = []; are = tt }
