use Rattle.std.proofs.Common.{◌≡◌, sym, ap, subst, arith}
use Rattle.kl1_store.specs.Held.{Held}
use Rattle.kl1_store.specs.Levels.{AreLevels}
use Rattle.kl1_store.proofs.Fingering.{fingers_same}
use Rattle.kl1_store.proofs.Resting.{rests_same}
use Rattle.kl1_store.proofs.store.Store.reserve.Goals as goal

pub invariant_of-self-2 : goal.invariant_of-self-2
invariant_of-self-2 g c =
    let old = c.self.inside.cells.held in
    let new = c.reserve.new.self.held in
    let same = c.reserve.ensures.same in
    let P : Held g.row.N.Denot → Type 0 = λ h. AreLevels h c.self.inside.levels in
    record {
      levels = subst P (sym same) c.self.invariant.levels;
      covered = let e = ap (λ (h : Held g.row.N.Denot). h.variables) same in omega (arith, e, c.reserve_heads.ensures.covered, c.self.invariant.covered);
      rests = rests_same g.N.NameValue.built old new c.self.inside.rests.items same c.self.invariant.rests;
      fingers = fingers_same g.N.NameValue.built old new c.self.inside.fingers same c.self.invariant.fingers;
    }
