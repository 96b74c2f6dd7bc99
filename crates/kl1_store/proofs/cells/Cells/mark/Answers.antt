use Rattle.std.proofs.Common.{ℕ, length, sym, ap, ◌∙◌}
use Rattle.kl1_store.specs.Held.{Stored, sizes_of}
use Rattle.kl1_store.specs.Inside.{shapes_in}
use Rattle.kl1_store.proofs.Laid.{length-shapes_in}
use Rattle.kl1_store.proofs.cells.Cells.mark.Goals as goal

pub returns-clause-sizes : goal.returns-clause-sizes
returns-clause-sizes g c =
    let s = c.self.inside in
    ap (λ (m : ℕ). record { variables = m; structures = c.len.result; bindings = c.count.result }) c.variables.ensures
    ∙ ap (λ (m : ℕ). record { variables = s.bindings.variables; structures = m; bindings = c.count.result }) (c.len.ensures ∙ s.nodes.ok.0 ∙ sym (length-shapes_in s.arguments.cells s.nodes.items))
    ∙ ap (λ (m : ℕ). record { variables = s.bindings.variables; structures = length (shapes_in s.arguments.cells s.nodes.items); bindings = m }) c.count.ensures
    ∙ ap (λ (v : Stored g.row.N.Denot). sizes_of v.held) c.self.view_is
