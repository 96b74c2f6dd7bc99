use Rattle.std.proofs.Common.{length, sym, ap, ◌∙◌, arith}
use Rattle.std.proofs.lemmas.List.{length-map}
use Rattle.kl1_store.specs.Renames.{cell_renamed, mapped_from}
use Rattle.kl1_store.specs.Words.{unpacked, Listed}
use Rattle.kl1_store.proofs.Changed.{mapped_past}
use Rattle.kl1_store.proofs.Listing.{cells_renamed, words_renamed}
use Rattle.kl1_store.proofs.words.Words.rename.Goals as goal

pub invariant_of-self : goal.invariant_of-self
invariant_of-self g c =
    let s = c.self.inside in
    let new = c.rename_cells.new.cells in
    let all = words_renamed s.words.items s.wide.items new.items s.memory s.words.cap s.wide.cap c.self.invariant c.rename_cells.ensures.count in
    record {
      packed = all.packed;
      order = all.order;
      held = all.held;
      few = all.few;
      words_serve = all.words_serve;
      wide_serve = omega (arith, all.wide_serve, c.rename_cells.ensures.capacity);
    }

pub returns-then-first-len-clause-cells : goal.returns-then-first-len-clause-cells
returns-then-first-len-clause-cells g c =
    let s = c.self.inside in
    let h = g.R.Renaming.becomes c.args.names.now in
    cells_renamed h s.words.items s.wide.items c.rename_cells.new.cells.items c.args.first c.wide_before-wide.result c.wide_before-wide.ensures c.rename_cells.ensures.items
    ∙ ap (λ (v : Listed g.row.N.Denot). mapped_from (cell_renamed h) c.args.first v.cells) c.self.view_is

pub returns-else-first-len-clause-cells : goal.returns-else-first-len-clause-cells
returns-else-first-len-clause-cells g c =
    let s = c.self.inside in
    let h = g.R.Renaming.becomes c.args.names.now in
    let e = ap (λ (v : Listed g.row.N.Denot). length v.cells) c.self.view_is in
    sym (mapped_past (cell_renamed h) c.args.first c.args.self.now.cells (omega (arith, e, length-map s.words.items (unpacked s.wide.items), c.if-first-len.false, c.len.ensures, s.words.ok.0)))
