use Rattle.kl1_goals_moves.proofs.Callees.{colon_kind}
use Rattle.kl1_goals_moves.proofs.kind.kind_of_two.Goals as goal

pub returns-then-is_built_in-clause-inside : goal.returns-then-is_built_in-clause-inside
returns-then-is_built_in-clause-inside g c = c.kind_of_callee.ensures.inside c.args.store.now.held c.called.ensures.inside

pub returns-then-is_built_in-clause-kind : goal.returns-then-is_built_in-clause-kind
returns-then-is_built_in-clause-kind g c = λ f r.
    colon_kind f c.args.store.now.held c.args.name c.args.left c.args.right c.called.result c.kind_of_callee.result c.mark.ensures.formed (c.if-is_built_in.ensures f r) c.called.ensures.inside (c.called.ensures.called f) (c.kind_of_callee.ensures.kind f r)
