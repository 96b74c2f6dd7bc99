use Rattle.std.proofs.Common.{◌+◌, ℕ, List, length, get_or, sym, ap, ◌∙◌, arith, subst}
use Rattle.kl1_shoen_paths.specs.declared.shoen.Shoen.{Shoen}
use Rattle.kl1_shoen_paths.specs.Tracked.{Tracked}
use Rattle.kl1_shoen.specs.Shoens.{AreCounted, counted_under}
use Rattle.kl1_shoen.proofs.Counting.{counted_open}
use Rattle.kl1_shoen.proofs.counted.CountedShoens.push.Goals as goal

pub invariant_of-self : goal.invariant_of-self
invariant_of-self g c =
    let i = c.self.inside in
    let v = c.self.invariant in
    let s = c.args.shoen in
    let few = ap (λ (t : Tracked (Shoen g.row.N.Denot)). length t.now) c.self.view_is in
    let room = ap (λ (t : Tracked (Shoen g.row.N.Denot)). t.room) c.self.view_is in
    let counts = c.recount.new.children.now in
    record {
      now = subst (λ (ss : List (Shoen g.row.N.Denot)). AreCounted ss counts) (sym c.push.ensures.now)
          (counted_open i.shoens.now i.children.now counts s v.now (omega (arith, few, c.requires.parent))
          (c.recount.ensures.len ∙ ap (λ (l : List ℕ). length l) c.push-2.ensures.now)
          (λ n. c.recount.ensures.counts n ∙ ap (λ (l : List ℕ). get_or l n 0 + counted_under n s.parent s.life) c.push-2.ensures.now));
      kept = subst (λ (ss : List (Shoen g.row.N.Denot)). AreCounted ss c.recount.new.children.kept) (sym c.push.ensures.kept)
          (subst (λ (cs : List ℕ). AreCounted i.shoens.kept cs) (sym (c.recount.ensures.kept ∙ c.push-2.ensures.kept)) v.kept);
      shoens_room = omega (arith, v.shoens_room, c.push.ensures.room);
      children_room = omega (arith, v.children_room, c.push-2.ensures.room, c.recount.ensures.room);
      changes = omega (arith, v.changes, c.push-2.ensures.changes, c.recount.ensures.changes, room, c.requires.room);
    }
