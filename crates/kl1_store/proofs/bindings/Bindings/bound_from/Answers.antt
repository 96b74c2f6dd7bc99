use Rattle.std.proofs.Common.{drop, ap, ◌∙◌}
use Rattle.kl1_store.specs.Slots.{variables_of, Trail}
use Rattle.kl1_store.proofs.Placed.{variables_from}
use Rattle.kl1_store.proofs.bindings.Bindings.bound_from.Goals as goal

pub returns : goal.returns
returns g c =
    let s = c.self.inside in
    c.drop_first.ensures
    ∙ (variables_from c.args.from s.variables.items s.values.cells c.self.invariant.paired
    ∙ ap (λ (v : Trail g.row.N.Denot). variables_of (drop c.args.from v.bindings)) c.self.view_is)
