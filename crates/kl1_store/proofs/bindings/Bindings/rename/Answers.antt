use Rattle.std.proofs.Common.{◌≡◌, length, sym, ap, ◌∙◌}
use Rattle.kl1_store.specs.Renames.{cell_renamed, binding_renamed, mapped_from}
use Rattle.kl1_store.specs.Slots.{Trail}
use Rattle.kl1_store.proofs.Changed.{length-mapped}
use Rattle.kl1_store.proofs.Placed.{bindings_renamed_in}
use Rattle.kl1_store.proofs.bindings.Bindings.rename.Goals as goal

pub invariant_of-self : goal.invariant_of-self
invariant_of-self g c =
    let s = c.self.inside in
    let h = g.R.Renaming.becomes c.args.names.now in
    let count : length c.rename.new.self.cells ≡ length s.values.cells = ap length c.rename.ensures.cells ∙ length-mapped (cell_renamed h) c.args.first s.values.cells in
    record { placed = c.self.invariant.placed; paired = c.self.invariant.paired ∙ sym count; few = c.self.invariant.few }

pub returns-clause-bindings : goal.returns-clause-bindings
returns-clause-bindings g c =
    let s = c.self.inside in
    let h = g.R.Renaming.becomes c.args.names.now in
    bindings_renamed_in h s.variables.items s.values.cells c.rename.new.self.cells c.args.first c.rename.ensures.cells
    ∙ ap (λ (v : Trail g.row.N.Denot). mapped_from (binding_renamed h) c.args.first v.bindings) c.self.view_is
