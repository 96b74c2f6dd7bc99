use Rattle.kl1_store.specs.Meaning.{term_of}
use Rattle.kl1_goals_moves.proofs.Looks.{allowance_as}
use Rattle.kl1_goals_moves.proofs.order.look_at_allowance.Goals as goal

pub returns-clause-look : goal.returns-clause-look
returns-clause-look g c = λ f. allowance_as f (term_of f c.args.store.now.held c.args.cell) c.top_of.result c.allowance_by.result c.allowance_by.ensures (c.top_of.ensures.top f)
