use Rattle.std.proofs.Common.{◌≡◌, ℕ, [], ◌∷◌, length, arith}
use Rattle.kl1_store.proofs.Fingering.{fingers_build}
use Rattle.kl1_store.proofs.Levelling.{levels_build, same_variables}
use Rattle.kl1_store.proofs.Resting.{rests_build}
use Rattle.kl1_store.proofs.store.Store.build_pair.Goals as goal

pub invariant_of-self : goal.invariant_of-self
invariant_of-self g c =
    let old = c.self.inside.cells.held in
    let new = c.build_pair.new.self.held in
    let P : ℕ → Type 0 = λ s. s ≡ length old.structures in
    let parts = c.args.first ∷ c.args.second ∷ [] in
    let e = same_variables old new c.args.name parts P c.build_pair.result c.build_pair.ensures.ok c.build_pair.ensures.err in
    record {
      levels = levels_build old new c.args.name parts P c.build_pair.result c.self.inside.levels c.build_pair.ensures.ok c.build_pair.ensures.err c.self.invariant.levels;
      covered = omega (arith, e, c.self.invariant.covered);
      rests = rests_build g.N.NameValue.built old new c.args.name parts P c.build_pair.result c.self.inside.rests.items c.build_pair.ensures.ok c.build_pair.ensures.err c.self.invariant.rests;
      fingers = fingers_build g.N.NameValue.built old new c.args.name parts P c.build_pair.result c.self.inside.fingers c.build_pair.ensures.ok c.build_pair.ensures.err c.self.invariant.fingers;
    }
