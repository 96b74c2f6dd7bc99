use Rattle.std.proofs.Common.{◌≡◌, false, subst, sym, ap, arith}
use Rattle.kl1_store.specs.declared.cell.Cell.TheVariants.{Variable}
use Rattle.kl1_store.specs.declared.unified.Unified.TheVariants.{Bound}
use Rattle.kl1_store.specs.Held.{Held, is_bound, with_binding}
use Rattle.kl1_store.specs.Hooks.{Kept}
use Rattle.kl1_store.specs.Levels.{AreLevels}
use Rattle.kl1_store.specs.Unification.{UnifiesAs}
use Rattle.kl1_store.proofs.Fingering.{fingers_bound}
use Rattle.kl1_store.proofs.Constants.{constant_free, levels_constant, unifies_constant}
use Rattle.kl1_store.proofs.Resting.{rests_bound}
use Rattle.kl1_store.proofs.store.Store.bind_constant.Goals as goal

pub bind-requires-clause-free : goal.bind-requires-clause-free
bind-requires-clause-free g c = λ f. constant_free f c.self.inside.cells.held c.args.variable c.args.constant c.requires.constant

pub invariant_of-self : goal.invariant_of-self
invariant_of-self g c =
    let s = c.self.inside in
    let P : Held g.row.N.Denot → Type 0 = λ k. AreLevels k s.levels in
    let U : Kept g.row.N.Denot → Type 0 = λ k. is_bound c.args.variable k.held.bindings ≡ false in
    let unbound = subst U (sym c.self.view_is) c.requires.unbound in
    record {
      levels = subst P (sym c.in-Ok.ensures.ok) (levels_constant s.cells.held c.args.variable c.args.constant s.levels unbound c.self.invariant.levels c.requires.constant);
      rests = rests_bound g.N.NameValue.built s.cells.held c.bind.new.self.held c.args.variable c.args.constant s.rests.items c.in-Ok.ensures.ok c.self.invariant.rests;
      covered = let e = ap (λ (h : Held g.row.N.Denot). h.variables) c.in-Ok.ensures.ok in let v = c.self.invariant.covered in omega arith;
      fingers = fingers_bound g.N.NameValue.built s.cells.held c.bind.new.self.held c.args.variable c.args.constant s.fingers c.in-Ok.ensures.ok c.self.invariant.fingers;
    }

pub returns-clause-unifies : goal.returns-clause-unifies
returns-clause-unifies g c =
    let h = c.args.self.now.held in
    let P : Held g.row.N.Denot → Type 0 = λ k. UnifiesAs g.N.NameValue.built h k (Variable c.args.variable) c.args.constant Bound in
    let B : Kept g.row.N.Denot → Type 0 = λ k. c.bind.new.self.held ≡ with_binding k.held c.args.variable c.args.constant in
    subst P (sym (subst B c.self.view_is c.in-Ok.ensures.ok)) (unifies_constant g.N.NameValue.built h c.args.variable c.args.constant c.requires.unbound c.requires.constant)
