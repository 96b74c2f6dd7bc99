use Rattle.kl1_store.specs.Meaning.{term_of}
use Rattle.kl1_goals_moves.proofs.Looks.{number_as}
use Rattle.kl1_goals_moves.proofs.order.number_at.Goals as goal

pub returns : goal.returns
returns g c = λ f. number_as f (term_of f c.args.store.now.held c.args.cell) c.top_of.result c.number_by.result c.number_by.ensures (c.top_of.ensures.top f)
