use Rattle.std.proofs.Common.{◌<◌, ◌≤◌, length, sym, ap, ◌∙◌, arith}
use Rattle.kl1_store.specs.Held.{Stored}
use Rattle.kl1_store.specs.Inside.{held_in}
use Rattle.kl1_store.specs.Renames.{cell_renamed, node_renamed, renamed_since}
use Rattle.kl1_store.proofs.Changed.{mapped_past}
use Rattle.kl1_store.proofs.OtherNames.{AreRenamed, are_renamed, start_there, start_past}
use Rattle.kl1_store.proofs.cells.Cells.rename.Goals as goal

-- the lists, if structures came since the mark
since : (g : _) (c : goal.After-rename_nodes g) →
    AreRenamed (g.R.Renaming.becomes c.args.names.now) c.args.mark c.rename.new.self.variables c.rename_nodes.new.nodes.items c.rename-then-first-len.new.self.cells c.rename.new.self.bindings
    (held_in c.self.inside.bindings.variables c.self.inside.nodes.items c.self.inside.arguments.cells c.self.inside.bindings.bindings)
since g c =
    let s = c.self.inside in
    let lt : c.args.mark.structures < length s.nodes.items = omega (arith, c.if-first-len.true, c.len.ensures, s.nodes.ok.0) in
    are_renamed (g.R.Renaming.becomes c.args.names.now) c.args.mark c.index.result.now.start s.bindings.variables c.rename.new.self.variables s.nodes.items c.rename_nodes.new.nodes.items s.arguments.cells c.rename-then-first-len.new.self.cells s.bindings.bindings c.rename.new.self.bindings
    c.self.invariant c.rename.ensures.variables (sym (start_there s.nodes.items c.args.mark.structures (length s.arguments.cells) c.index.result.now lt c.index.ensures))
    c.rename.ensures.bindings c.rename-then-first-len.ensures.cells c.rename_nodes.ensures.items

-- and if none came
none : (g : _) (c : goal.Else-first-len g) →
    AreRenamed (g.R.Renaming.becomes c.args.names.now) c.args.mark c.rename.new.self.variables c.self.inside.nodes.items c.self.inside.arguments.cells c.rename.new.self.bindings
    (held_in c.self.inside.bindings.variables c.self.inside.nodes.items c.self.inside.arguments.cells c.self.inside.bindings.bindings)
none g c =
    let s = c.self.inside in
    let h = g.R.Renaming.becomes c.args.names.now in
    let le : length s.nodes.items ≤ c.args.mark.structures = omega (arith, c.if-first-len.false, c.len.ensures, s.nodes.ok.0) in
    are_renamed h c.args.mark (length s.arguments.cells) s.bindings.variables c.rename.new.self.variables s.nodes.items s.nodes.items s.arguments.cells s.arguments.cells s.bindings.bindings c.rename.new.self.bindings
    c.self.invariant c.rename.ensures.variables (sym (start_past s.nodes.items c.args.mark.structures (length s.arguments.cells) le))
    c.rename.ensures.bindings
    (sym (mapped_past (cell_renamed h) (length s.arguments.cells) s.arguments.cells (omega arith)))
    (sym (mapped_past (node_renamed h) c.args.mark.structures s.nodes.items le))

pub invariant_of-self : goal.invariant_of-self
invariant_of-self g c = (since g c).inside

pub invariant_of-self-else-first-len : goal.invariant_of-self-else-first-len
invariant_of-self-else-first-len g c = (none g c).inside

pub returns-then-first-len-clause-held : goal.returns-then-first-len-clause-held
returns-then-first-len-clause-held g c = (since g c).held ∙ ap (λ (v : Stored g.row.N.Denot). renamed_since (g.R.Renaming.becomes c.args.names.now) c.args.mark v.held) c.self.view_is

pub returns-else-first-len-clause-held : goal.returns-else-first-len-clause-held
returns-else-first-len-clause-held g c = (none g c).held ∙ ap (λ (v : Stored g.row.N.Denot). renamed_since (g.R.Renaming.becomes c.args.names.now) c.args.mark v.held) c.self.view_is
