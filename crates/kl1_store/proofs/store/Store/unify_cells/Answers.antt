use Rattle.std.proofs.Common.{Bool, subst, arith}
use Rattle.kl1_store.specs.declared.unified.Unified.TheVariants.{Bound, Clash}
use Rattle.kl1_store.specs.Hooks.{Kept}
use Rattle.kl1_store.specs.Unifies.{SettlesAs, equation_of}
use Rattle.kl1_store.specs.Unification.{SettlesTo}
use Rattle.kl1_store.proofs.Fingering.{fingers_solved}
use Rattle.kl1_store.proofs.Resting.{rests_unified}
use Rattle.kl1_store.proofs.Unifying.{unifies}
use Rattle.kl1_store.proofs.store.Store.unify_cells.Goals as goal

pub returns-then-branch-clause-ok : goal.returns-then-branch-clause-ok
returns-then-branch-clause-ok g c =
    let old = c.self.inside.cells.held in
    let new = c.unify_cells.new.cells.held in
    let P : Bool → Type 0 = λ b. SettlesAs g.N.NameValue.built old new (λ f. equation_of f old c.args.left c.args.right) b in
    let Q : Kept g.row.N.Denot → Type 0 = λ s. SettlesTo g.N.NameValue.built s.held new c.args.left c.args.right Bound in
    subst Q c.self.view_is (unifies g.N.NameValue.built old new c.args.left c.args.right c.in_ok-unify_cells.ensures.grown (subst P c.if-branch.true c.in_ok-unify_cells.ensures.settled))

pub invariant_of-self : goal.invariant_of-self
invariant_of-self g c =
    let s = c.self.inside in
    let done = c.unify_cells.ensures in
    record {
      levels = done.levels;
      covered = omega (arith, done.grown.variables, c.self.invariant.covered);
      rests = rests_unified g.N.NameValue.built s.cells.held c.unify_cells.new.cells.held s.rests.items done.grown c.self.invariant.rests;
      fingers = fingers_solved g.N.NameValue.built s.cells.held c.unify_cells.new.cells.held s.fingers done.grown c.self.invariant.fingers;
    }

pub invariant_of-self-then-branch : goal.invariant_of-self-then-branch
invariant_of-self-then-branch g c =
    let s = c.self.inside in
    let done = c.unify_cells.ensures in
    record {
      levels = done.levels;
      covered = omega (arith, done.grown.variables, c.self.invariant.covered);
      rests = rests_unified g.N.NameValue.built s.cells.held c.unify_cells.new.cells.held s.rests.items done.grown c.self.invariant.rests;
      fingers = fingers_solved g.N.NameValue.built s.cells.held c.unify_cells.new.cells.held s.fingers done.grown c.self.invariant.fingers;
    }

pub invariant_of-self-2 : goal.invariant_of-self-2
invariant_of-self-2 g c =
    let s = c.self.inside in
    let done = c.unify_cells.ensures in
    record {
      levels = done.levels;
      covered = omega (arith, done.grown.variables, c.self.invariant.covered);
      rests = rests_unified g.N.NameValue.built s.cells.held c.unify_cells.new.cells.held s.rests.items done.grown c.self.invariant.rests;
      fingers = fingers_solved g.N.NameValue.built s.cells.held c.unify_cells.new.cells.held s.fingers done.grown c.self.invariant.fingers;
    }

pub returns-clause-ok : goal.returns-clause-ok
returns-clause-ok g c =
    let old = c.self.inside.cells.held in
    let new = c.unify_cells.new.cells.held in
    let P : Bool → Type 0 = λ b. SettlesAs g.N.NameValue.built old new (λ f. equation_of f old c.args.left c.args.right) b in
    let Q : Kept g.row.N.Denot → Type 0 = λ s. SettlesTo g.N.NameValue.built s.held new c.args.left c.args.right Clash in
    subst Q c.self.view_is (subst P c.if-branch.false c.in_ok-unify_cells.ensures.settled)
