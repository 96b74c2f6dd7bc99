use Rattle.std.proofs.Common.{◌≡◌, ap, ◌∙◌, arith}
use Rattle.kl1_store.specs.Held.{Held}
use Rattle.kl1_store.specs.Renames.{held_renamed, unnamed}
use Rattle.kl1_store.proofs.Bare.{bare_since, levels_alike}
use Rattle.kl1_store.proofs.Resting.{no_rests}
use Rattle.kl1_store.proofs.store.Store.rename.Goals as goal

pub invariant_of-self : goal.invariant_of-self
invariant_of-self g c =
    let s = c.self.inside in
    let held = c.rename.ensures.held in
    let alike = ap (held_renamed unnamed) held ∙ bare_since _ c.args.mark.sizes s.cells.held in
    let many : c.rename.new.self.held.variables ≡ s.cells.held.variables = ap (λ (h : Held (Unit {0})). h.variables) alike in
    record {
      levels = levels_alike s.cells.held c.rename.new.self.held s.levels alike c.self.invariant.levels;
      covered = omega (arith, many, c.self.invariant.covered);
      rests = no_rests g.N.NameValue.built c.rename.new.self.held c.forget_rests.new.rests.items c.forget_rests.ensures;
      fingers = c.let_go.ensures c.rename.new.self.held;
    }
