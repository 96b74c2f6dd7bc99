use Rattle.kl1_store.specs.Meaning.{term_of}
use Rattle.kl1_goals_moves.proofs.Looks.{callee_as_look}
use Rattle.kl1_goals_moves.proofs.order.look_at_callee.Goals as goal

pub returns-clause-look : goal.returns-clause-look
returns-clause-look g c = λ f.
    callee_as_look f (term_of f c.args.store.now.held c.args.left) (term_of f c.args.store.now.held c.args.right) c.top_of.result c.top_of-2.result c.callee_by.result c.callee_by.ensures (c.top_of.ensures.top f) (c.top_of-2.ensures.top f)
