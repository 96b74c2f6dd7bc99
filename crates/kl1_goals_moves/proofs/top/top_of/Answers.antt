use Rattle.kl1_goals_moves.proofs.Tops.{walked_top}
use Rattle.kl1_goals_moves.proofs.top.top_of.Goals as goal

pub returns-clause-top : goal.returns-clause-top
returns-clause-top g c = λ f. walked_top f c.args.store.now.held c.walk.result c.args.cell c.mark.ensures.formed c.walk.ensures.inside c.walk.ensures.walked (c.walk.ensures.means f)
