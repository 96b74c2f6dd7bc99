use Rattle.std.proofs.Common.{sym, subst}
use Rattle.kl1_store.specs.Held.{IsIn}
use Rattle.kl1_store.specs.Hooks.{Kept}
use Rattle.kl1_store.specs.Fingers.{IsFinger}
use Rattle.kl1_store.proofs.store.Store.finger.Goals as goal

pub returns-clause-right : goal.returns-clause-right
returns-clause-right g c =
    let s = c.self.inside in
    let I : Kept g.row.N.Denot → Type 0 = λ k. IsIn k.held c.args.list in
    let R : Kept g.row.N.Denot → Type 0 = λ k. IsFinger g.N.NameValue.built k.held c.furthest.result in
    subst R c.self.view_is (c.furthest.ensures.right s.cells.held (subst I (sym c.self.view_is) c.requires) c.self.invariant.fingers)
