use Rattle.std.proofs.Common.{◌≤◌, ap, sym, arith, subst}
use Rattle.kl1_store.specs.declared.point.Point.{Point}
use Rattle.kl1_store.specs.Held.{Held}
use Rattle.kl1_store.specs.Sound.{Grown}
use Rattle.kl1_store.specs.Hooks.{Kept}
use Rattle.kl1_store.specs.Fingers.{AreFingers}
use Rattle.kl1_store.specs.Keeping.{kept_in}
use Rattle.kl1_store.specs.Spending.{FreesRoom}
use Rattle.kl1_store.proofs.Rooms.{frees_kept}
use Rattle.kl1_store.proofs.Resting.{no_rests}
use Rattle.kl1_store.proofs.store.Store.back.Goals as goal

no_more : (g : _) (c : goal.After-forget_rests g) → c.take_back.new.cells.held.variables ≤ c.self.inside.cells.held.variables
no_more g c =
    let k = c.requires.0 in
    let G : Kept g.row.N.Denot → Type 0 = λ s. Grown k.held s.held in
    let grown = subst G (sym c.self.view_is) c.requires.1.1.1.held in
    let v = grown.variables in
    let e = ap (λ (h : Held g.row.N.Denot). h.variables) (c.take_back.ensures.held k.held (ap (λ (p : Point). p.sizes) c.requires.1.0) grown) in
    omega arith

cut_back : (g : _) (c : goal.After-forget_rests g) → AreFingers g.N.NameValue.built c.take_back.new.cells.held c.cut.new.self
cut_back g c =
    let s = c.self.inside in
    let k = c.requires.0 in
    let G : Kept g.row.N.Denot → Type 0 = λ s. Grown k.held s.held in
    let A : Held g.row.N.Denot → Type 0 = λ h. AreFingers g.N.NameValue.built h c.cut.new.self in
    let grown = subst G (sym c.self.view_is) c.requires.1.1.1.held in
    let sizes = ap (λ (p : Point). p.sizes) c.requires.1.0 in
    subst A (sym (c.take_back.ensures.held k.held sizes grown)) (c.cut.ensures s.cells.held k.held sizes grown c.self.invariant.fingers)

pub invariant_of-self : goal.invariant_of-self
invariant_of-self g c = record { levels = c.take_back.ensures.levels; covered = let n = no_more g c in omega arith; rests = no_rests g.N.NameValue.built c.take_back.new.cells.held c.forget_rests.new.rests.items c.forget_rests.ensures; fingers = cut_back g c }

pub returns-clause-room : goal.returns-clause-room
returns-clause-room g c =
    let s = c.self.inside in
    let new = c.take_back.new.cells in
    let P : Kept g.row.N.Denot → Type 0 = λ k. FreesRoom k.held k.room new.held (kept_in new c.keep.new.self).room in
    subst P c.self.view_is (frees_kept s.cells new s.hooks c.keep.new.self c.take_back.ensures.room c.self.invariant.covered c.keep.ensures.serves c.keep.ensures.memory (no_more g c))

pub returns-clause-held : goal.returns-clause-held
returns-clause-held g c = λ k e grown.
    let G : Kept g.row.N.Denot → Type 0 = λ s. Grown k.held s.held in
    c.take_back.ensures.held k.held (ap (λ (p : Point). p.sizes) e) (subst G (sym c.self.view_is) grown.held)
