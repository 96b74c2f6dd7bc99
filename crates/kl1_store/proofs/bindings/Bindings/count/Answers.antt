use Rattle.std.proofs.Common.{length, sym, ap, ◌∙◌}
use Rattle.kl1_store.specs.Slots.{Trail}
use Rattle.kl1_store.proofs.Placed.{length-bindings_in}
use Rattle.kl1_store.proofs.bindings.Bindings.count.Goals as goal

pub returns : goal.returns
returns g c =
    let s = c.self.inside in
    c.len.ensures ∙ s.variables.ok.0
    ∙ sym (length-bindings_in s.variables.items s.values.cells c.self.invariant.paired)
    ∙ ap (λ (v : Trail g.row.N.Denot). length v.bindings) c.self.view_is
