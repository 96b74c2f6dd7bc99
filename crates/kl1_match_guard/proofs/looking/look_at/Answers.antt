use Rattle.std.proofs.Common.{◌∙◌}
use Rattle.kl1_match_guard.proofs.Outcomes.{found_looks, known_waits}
use Rattle.kl1_match_guard.proofs.looking.look_at.Goals as goal

pub returns-in_default-clause-value : goal.returns-in_default-clause-value
returns-in_default-clause-value g c = λ f reads.
    let view = c.args.view.now in
    c.decide.ensures.value (g.T.View.number view)
    ∙ found_looks f (g.T.View.number view) (g.T.View.arguments f view) c.args.type_test c.form_of.result (g.T.View.term f view c.args.at) c.is_found.result
    (c.form_of.ensures.means f) c.in_default.not-Variable (c.is_found.ensures f (g.T.View.number view) (g.T.View.arguments f view) (g.T.View.term f view c.args.at) reads)

pub returns-in_default-clause-waits : goal.returns-in_default-clause-waits
returns-in_default-clause-waits g c = known_waits (g.T.View.IsFree c.args.view.now) c.decide.result c.decide.ensures.known
