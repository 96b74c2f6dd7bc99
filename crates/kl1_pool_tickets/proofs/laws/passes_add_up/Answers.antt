use Rattle.std.proofs.Common.{refl, sym, subst}
use Rattle.kl1_pool_tickets.specs.Laws.{PassMoved}
use Rattle.kl1_pool_tickets.proofs.AddingUp.{adds_up, put_one, take_one, cut_keeps, join_keeps}
use Rattle.kl1_pool_tickets.proofs.laws.passes_add_up.Goals as goal

pub returns-clause-rule : goal.returns-clause-rule
returns-clause-rule c items views kept = adds_up items views kept

pub returns-clause-put : goal.returns-clause-put
returns-clause-put c v x w is = subst (PassMoved 1 0 x v) (sym is) (put_one v x)

pub returns-clause-take : goal.returns-clause-take
returns-clause-take c v x w is = (subst (PassMoved 0 1 x v) (sym is.0) (take_one v x), is.1)

pub returns-clause-cut : goal.returns-clause-cut
returns-clause-cut c v = cut_keeps v

pub returns-clause-join : goal.returns-clause-join
returns-clause-join c = (join_keeps, refl, refl, refl)
