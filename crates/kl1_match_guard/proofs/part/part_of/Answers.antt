use Rattle.kl1_match_guard.proofs.Parts.{operation_scanned}
use Rattle.kl1_match_guard.proofs.part.part_of.Goals as goal

pub returns-in-Some-clause-means : goal.returns-in-Some-clause-means
returns-in-Some-clause-means g c = λ f reads.
    let view = c.args.view.now in
    operation_scanned (g.T.View.number view) (g.T.View.term f view) (g.T.View.term f view c.args.at) (f c.in-Structure.name) (g.T.View.arguments f view c.in-Structure.structure) c.in-Structure.count c.argument.result c.argument-in-Some.result c.in-Some.operator
    (c.in-Structure.ensures.means f) c.if-count-ne2.false (c.argument.ensures.means f) (c.argument-in-Some.ensures.means f) (c.in-Some.ensures f reads)
