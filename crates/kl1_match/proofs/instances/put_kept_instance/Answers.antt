use Rattle.std.proofs.Common.{subst}
use Rattle.std.proofs.lemmas.Result.{on_ok_weaker}
use Rattle.kl1_match.specs.Bodies.{BuildsBody}
use Rattle.kl1_match.specs.Kept.{kept_places}
use Rattle.kl1_match.proofs.Bodies.{instance_is}
use Rattle.kl1_match.proofs.instances.put_kept_instance.Goals as goal

pub returns-clause-goals : goal.returns-clause-goals
returns-clause-goals g c =
    let mid = c.fill_variables.new.store.held in
    let new = c.put_body.new.store.held in
    on_ok_weaker c.put_body.result (λ b.
    instance_is g.N.NameValue.built c.args.names.now c.args.clause.now (kept_places c.args.scratch.now) c.args.store.now.held mid new c.fill_variables.new.cells.items c.put_body.new.goals.items
    c.in_ok-fill_variables.ensures.variables (subst (λ xs. BuildsBody g.N.NameValue.built c.args.names.now c.args.clause.now mid new xs c.put_body.new.goals.items) c.as_slice.ensures.value b)) c.put_body.ensures.body
