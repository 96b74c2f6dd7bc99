use Rattle.std.proofs.Common.{sym, ap, ◌∙◌, subst, arith}
use Rattle.kl1_store.specs.Held.{Held}
use Rattle.kl1_store.specs.Sound.{Grown}
use Rattle.kl1_store.specs.Hooks.{Kept}
use Rattle.kl1_store.specs.Constants.{Rebinds}
use Rattle.kl1_store.proofs.Constants.{Grown-binding}
use Rattle.kl1_store.proofs.Fingering.{fingers_bound}
use Rattle.kl1_store.proofs.Resting.{no_rests}
use Rattle.kl1_store.proofs.store.Store.rebind_constant.Goals as goal

pub invariant_of-self : goal.invariant_of-self
invariant_of-self g c =
    let s = c.self.inside in
    let b = c.requires.bound in
    let built = g.N.NameValue.built in
    let is = ap (λ (k : Kept g.row.N.Denot). k.held) c.self.view_is ∙ b.bound in
    let G : Held g.row.N.Denot → Type 0 = λ h. Grown b.before h in
    let grown = subst G (sym is) (Grown-binding b.before c.args.variable b.constant) in
    record {
      levels = c.rebind.ensures.levels;
      covered = omega (arith, c.rebind.ensures.count, c.self.invariant.covered);
      rests = no_rests built c.rebind.new.cells.held c.forget_rests.new.rests.items c.forget_rests.ensures;
      fingers = fingers_bound built b.before c.rebind.new.cells.held c.args.variable c.args.constant c.cut.new.self
          (c.rebind.ensures.held b.before b.constant b.marked is) (c.cut.ensures s.cells.held b.before b.marked grown c.self.invariant.fingers);
    }

pub returns-clause-held : goal.returns-clause-held
returns-clause-held g c =
    let R : Kept g.row.N.Denot → Type 0 = λ k. Rebinds c.args.mark.sizes c.args.variable c.args.constant k.held c.rebind.new.cells.held in
    subst R c.self.view_is c.rebind.ensures.held
