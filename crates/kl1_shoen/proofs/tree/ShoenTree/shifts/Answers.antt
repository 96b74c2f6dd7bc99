use Rattle.std.proofs.Common.{◌≡◌, length, take, subst}
use Rattle.kl1_shoen_paths.specs.Tracked.{IsTrail}
use Rattle.kl1_shoen.specs.Shoens.{Tree, AreCharged, parents_in}
use Rattle.kl1_shoen.proofs.Shifting.{told_whole}
use Rattle.kl1_shoen.proofs.tree.ShoenTree.shifts.Goals as goal

pub returns : goal.returns
returns g c =
    let t = c.args.self.now in
    let i = c.self.inside in
    let trail = c.trail.result.now in
    let charge_trail = c.trail-2.result.now in
    let mid = c.add_changed.new.out.items in
    let after = c.add_charged.new.out.items in
    let adds = c.in_ok-add_charged.ensures.adds in
    told_whole t i.charges.now i.charges.kept trail charge_trail c.clear.new.self.items mid after (record {
      now = subst (λ (u : Tree g.row.N.Denot). AreCharged u.shoens i.charges.now u.work) c.self.view_is c.self.invariant.0;
      kept = subst (λ (u : Tree g.row.N.Denot). AreCharged u.kept i.charges.kept u.kept_work) c.self.view_is c.self.invariant.1;
      grown = subst (λ (u : Tree g.row.N.Denot). parents_in u.kept ≡ take (length u.kept) (parents_in u.shoens)) c.self.view_is (let l = c.self.invariant.2 in l.grown);
      changes = subst (λ (u : Tree g.row.N.Denot). IsTrail u.shoens u.kept trail) c.self.view_is c.trail.ensures;
      charged = c.trail-2.ensures;
    }) c.clear.ensures.items c.in_ok-add_changed.ensures.adds adds c.in_ok-add_changed.ensures.covers c.in_ok-add_charged.ensures.covers
