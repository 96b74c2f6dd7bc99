use Rattle.kl1_store.specs.Hooks.{Kept}
use Rattle.std.proofs.Common.{sym, subst}
use Rattle.kl1_store.specs.Fingers.{IsFinger}
use Rattle.kl1_store.proofs.store.Store.keep_finger.Goals as goal

pub invariant_of-self : goal.invariant_of-self
invariant_of-self g c =
    let s = c.self.inside in
    let R : Kept g.row.N.Denot → Type 0 = λ k. IsFinger g.N.NameValue.built k.held c.args.finger in
    record {
      levels = c.self.invariant.levels;
      covered = c.self.invariant.covered;
      rests = c.self.invariant.rests;
      fingers = c.keep.ensures s.cells.held c.mark-now.ensures.formed c.mark-now.ensures.sizes (subst R (sym c.self.view_is) c.requires) c.self.invariant.fingers;
    }
