use Rattle.std.proofs.Common.{take, ap, ◌∙◌, arith}
use Rattle.kl1_store.specs.Words.{Listed}
use Rattle.kl1_store.proofs.Listing.{words_cut, cells_cut}
use Rattle.kl1_store.proofs.words.Words.truncate.Goals as goal

pub invariant_of-self : goal.invariant_of-self
invariant_of-self g c =
    let s = c.self.inside in
    let all = words_cut s.words.items c.truncate-then-count-len.new.self.items s.wide.items c.truncate.new.self.items s.memory s.words.cap s.wide.cap c.args.count c.wide_before-wide.result c.self.invariant c.wide_before-wide.ensures c.truncate-then-count-len.ensures.items c.truncate.ensures.items in
    record {
      packed = all.packed;
      order = all.order;
      held = all.held;
      few = all.few;
      words_serve = omega (arith, all.words_serve, c.truncate-then-count-len.ensures.capacity);
      wide_serve = omega (arith, all.wide_serve, c.truncate.ensures.capacity);
    }

pub returns-then-count-len-clause-cells : goal.returns-then-count-len-clause-cells
returns-then-count-len-clause-cells g c =
    let s = c.self.inside in
    cells_cut s.words.items c.truncate-then-count-len.new.self.items s.wide.items c.truncate.new.self.items c.args.count c.wide_before-wide.result c.self.invariant.packed c.wide_before-wide.ensures c.truncate-then-count-len.ensures.items c.truncate.ensures.items
    ∙ ap (λ (v : Listed g.row.N.Denot). take c.args.count v.cells) c.self.view_is
