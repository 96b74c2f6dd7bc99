use Rattle.kl1_goals_moves.proofs.Callees.{in_module_kind}
use Rattle.kl1_goals_moves.proofs.kind.kind_of_qualified.Goals as goal

pub returns-in-Some-clause-inside : goal.returns-in-Some-clause-inside
returns-in-Some-clause-inside g c = c.kind_of_callee.ensures.inside c.args.store.now.held c.called_in.ensures.inside

pub returns-in-Some-clause-kind : goal.returns-in-Some-clause-kind
returns-in-Some-clause-kind g c = λ f r.
    in_module_kind f c.args.store.now.held c.args.goal c.in-Some.name c.called_in.result c.kind_of_callee.result c.mark.ensures.formed c.in-Some.is c.called_in.ensures.inside (c.called_in.ensures.called f) (c.kind_of_callee.ensures.kind f r)
