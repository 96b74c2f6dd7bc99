use Rattle.std.proofs.Common.{◌≡◌, false, subst, sym, ap, arith}
use Rattle.kl1_store.specs.Held.{is_bound}
use Rattle.kl1_store.specs.Hooks.{Kept}
use Rattle.kl1_store.proofs.Fingering.{fingers_constant}
use Rattle.kl1_store.proofs.Constants.{constant_free, kept_constant, took_constant}
use Rattle.kl1_store.proofs.Resting.{rests_constant}
use Rattle.kl1_store.proofs.store.Store.unify_constant.Goals as goal

pub bind-requires-clause-free : goal.bind-requires-clause-free
bind-requires-clause-free g c = λ f. constant_free f c.self.inside.cells.held c.args.variable c.args.constant c.requires.constant

pub invariant_of-self : goal.invariant_of-self
invariant_of-self g c =
    let s = c.self.inside in
    let U : Kept g.row.N.Denot → Type 0 = λ k. is_bound c.args.variable k.held.bindings ≡ false in
    let unbound = subst U (sym c.self.view_is) c.requires.unbound in
    let p = kept_constant s.cells.held c.bind.new.self.held c.args.variable c.args.constant s.levels c.bind.result unbound c.self.invariant.levels c.requires.constant c.bind.ensures.ok c.bind.ensures.err in
    record {
      levels = p.0;
      rests = rests_constant g.N.NameValue.built s.cells.held c.bind.new.self.held c.args.variable c.args.constant c.bind.result s.rests.items c.bind.ensures.ok c.bind.ensures.err c.self.invariant.rests;
      covered = let v = c.self.invariant.covered in omega (arith, p.1, v);
      fingers = fingers_constant g.N.NameValue.built s.cells.held c.bind.new.self.held c.args.variable c.args.constant c.bind.result s.fingers c.bind.ensures.ok c.bind.ensures.err c.self.invariant.fingers;
    }

pub returns-clause-unifies : goal.returns-clause-unifies
returns-clause-unifies g c =
    took_constant g.N.NameValue.built c.self.inside.cells.held c.args.self.now.held c.bind.new.self.held c.args.variable c.args.constant c.bind.result
    (ap (λ (k : Kept g.row.N.Denot). k.held) c.self.view_is) c.requires.unbound c.requires.constant c.bind.ensures.ok
