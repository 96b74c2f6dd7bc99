use Rattle.std.proofs.Common.{subst}
use Rattle.std.proofs.lemmas.Result.{on_ok_weaker}
use Rattle.kl1_match.specs.Bodies.{BuildsBody}
use Rattle.kl1_match.proofs.Bodies.{instance_is}
use Rattle.kl1_match.proofs.instances.put_instance.Goals as goal

pub returns-clause-goals : goal.returns-clause-goals
returns-clause-goals g c =
    let mid = c.put_variables.new.store.held in
    let new = c.put_body.new.store.held in
    on_ok_weaker c.put_body.result (λ b.
    instance_is g.N.NameValue.built c.args.names.now c.args.clause.now c.args.places.now c.args.store.now.held mid new c.put_variables.new.cells.items c.put_body.new.goals.items
    c.in_ok-put_variables.ensures.variables (subst (λ xs. BuildsBody g.N.NameValue.built c.args.names.now c.args.clause.now mid new xs c.put_body.new.goals.items) c.as_slice.ensures.value b)) c.put_body.ensures.body
