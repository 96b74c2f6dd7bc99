use Rattle.std.proofs.Common.{◌≡◌, ◌<◌, ℕ, List, length, get_or, sym, ap, ◌∙◌, arith, subst}
use Rattle.kl1_shoen_paths.specs.declared.shoen.Shoen.{Shoen}
use Rattle.kl1_shoen_paths.specs.Tracked.{Tracked}
use Rattle.kl1_shoen.specs.Shoens.{AreCounted}
use Rattle.kl1_shoen.proofs.Counting.{counted_put, counted_few, counted_some, parent_counted, got_any}
use Rattle.kl1_shoen.proofs.counted.CountedShoens.put.Goals as goal

pub recount-requires-clause-place : goal.recount-requires-clause-place
recount-requires-clause-place g c =
    let i = c.self.inside in
    let x = c.item_at-was.result in
    let len = ap (λ (t : Tracked (Shoen g.row.N.Denot)). length t.now) c.self.view_is in
    let within : c.args.place < length i.shoens.now = omega (arith, len, c.requires.place) in
    let was : x ≡ get_or i.shoens.now c.args.place x = c.item_at-was.ensures ∙ ap (λ (l : List (Shoen g.row.N.Denot)). get_or l c.args.place x) c.items.ensures in
    parent_counted i.shoens.now i.children.now c.args.place x c.self.invariant.now within was

pub recount-requires-clause-some : goal.recount-requires-clause-some
recount-requires-clause-some g c =
    let i = c.self.inside in
    let x = c.item_at-was.result in
    let len = ap (λ (t : Tracked (Shoen g.row.N.Denot)). length t.now) c.self.view_is in
    let within : c.args.place < length i.shoens.now = omega (arith, len, c.requires.place) in
    let was : x ≡ get_or i.shoens.now c.args.place x = c.item_at-was.ensures ∙ ap (λ (l : List (Shoen g.row.N.Denot)). get_or l c.args.place x) c.items.ensures in
    counted_some i.shoens.now i.children.now c.args.place x c.self.invariant.now within was

pub recount-requires-clause-few : goal.recount-requires-clause-few
recount-requires-clause-few g c = counted_few c.self.inside.shoens.now c.self.inside.children.now c.item_at-was.result.parent c.self.invariant.now

pub invariant_of-self : goal.invariant_of-self
invariant_of-self g c =
    let i = c.self.inside in
    let x = c.item_at-was.result in
    let len = ap (λ (t : Tracked (Shoen g.row.N.Denot)). length t.now) c.self.view_is in
    let within : c.args.place < length i.shoens.now = omega (arith, len, c.requires.place) in
    let was : x ≡ get_or i.shoens.now c.args.place x = c.item_at-was.ensures ∙ ap (λ (l : List (Shoen g.row.N.Denot)). get_or l c.args.place x) c.items.ensures in
    let parent : c.args.shoen.parent ≡ x.parent =
    c.requires.parent
    ∙ ap (λ (t : Tracked (Shoen g.row.N.Denot)). (get_or t.now c.args.place c.args.shoen).parent) (sym c.self.view_is)
    ∙ ap (λ (s : Shoen g.row.N.Denot). s.parent) (got_any i.shoens.now c.args.place x c.args.shoen within was) in
    let v = c.self.invariant in
    record {
      now = subst (λ (ss : List (Shoen g.row.N.Denot)). AreCounted ss c.recount.new.children.now) (sym c.put.ensures.now)
          (counted_put i.shoens.now i.children.now c.recount.new.children.now c.args.place x c.args.shoen v.now within was parent c.recount.ensures.len c.recount.ensures.counts);
      kept = subst (λ (ss : List (Shoen g.row.N.Denot)). AreCounted ss c.recount.new.children.kept) (sym c.put.ensures.kept)
          (subst (λ (cs : List ℕ). AreCounted i.shoens.kept cs) (sym c.recount.ensures.kept) v.kept);
      shoens_room = omega (arith, v.shoens_room, c.put.ensures.room);
      children_room = omega (arith, v.children_room, c.recount.ensures.room);
      changes = (let e = ap (λ (t : Tracked (Shoen g.row.N.Denot)). t.changes) c.self.view_is in omega (arith, v.changes, c.recount.ensures.changes, e, c.requires.changes));
    }
