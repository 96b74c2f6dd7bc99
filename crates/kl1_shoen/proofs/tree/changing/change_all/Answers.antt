use Rattle.std.proofs.Common.{◌≡◌, [], ℕ, List, map, sym, ap, ◌∙◌, arith, subst}
use Rattle.std.proofs.lemmas.List.{nil_from_length}
use Rattle.kl1_shoen_paths.specs.declared.shoen.Shoen.{Shoen}
use Rattle.kl1_shoen.specs.Shoens.{parents_in, AreBelow, AreNumbered}
use Rattle.kl1_shoen.proofs.Belows.{changed_among, changed_last, changed_none_left, changed_whole}
use Rattle.kl1_shoen.proofs.tree.changing.change_all.Goals as goal

pub loop-last-init : goal.loop-last-init
loop-last-init g c =
    let xs = c.args.shoens.now.now in
    let n = c.args.number in
    let ns = c.below.new.out.items in
    let same = c.reserve_changes.ensures.now in
    record {
      now = ap (λ (hs : List (Shoen g.row.N.Denot)). map (changed_among c.args.change ns) hs) same ∙ changed_whole c.args.change xs n ns c.requires.numbered (subst (λ (hs : List (Shoen g.row.N.Denot)). AreBelow hs n ns) c.items.ensures c.in_ok-below.ensures);
      numbered = subst (λ (hs : List (Shoen g.row.N.Denot)). AreNumbered 0 hs) (sym same) c.requires.numbered;
      parents = ap (λ (hs : List (Shoen g.row.N.Denot)). parents_in hs) same;
      changes = omega (arith, c.in_ok-reserve_changes.ensures.changes, c.len.ensures);
      kept = c.reserve_changes.ensures.kept;
      room = c.reserve_changes.ensures.room;
    }

pub loop-last-preserved : goal.loop-last-preserved
loop-last-preserved g c =
    let hs = c.loop-last.shoens.now in
    let rest = c.pop.new.self.items in
    let i = c.loop-last.invariant in
    let r = c.change_reserved.ensures in
    record {
      now = ap (λ (l : List (Shoen g.row.N.Denot)). map (changed_among c.args.change rest) l) r.now ∙ changed_last c.args.change rest c.in-Some.last hs c.requires.once ∙ sym (ap (λ (ns : List ℕ). map (changed_among c.args.change ns) hs) c.in-Some.ensures.items) ∙ i.now;
      numbered = r.numbered;
      parents = r.parents ∙ i.parents;
      changes = omega (arith, i.changes, r.changes, c.in-Some.ensures.cases);
      kept = r.kept ∙ i.kept;
      room = r.room ∙ i.room;
    }

pub returns-clause-ok : goal.returns-clause-ok
returns-clause-ok g c =
    let hs = c.loop-last.shoens.now in
    let ok = c.loop-last.below.ok in
    let empty : c.loop-last.below.items ≡ [] = nil_from_length c.loop-last.below.items (let z = c.in_default.ensures.cases.0 in omega (arith, z, ok)) in
    sym (ap (λ (ns : List ℕ). map (changed_among c.args.change ns) hs) empty ∙ changed_none_left c.args.change hs) ∙ c.loop-last.invariant.now
