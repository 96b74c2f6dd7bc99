use Rattle.std.proofs.Common.{◌≡◌, ℕ, length, reverse, arith}
use Rattle.kl1_store.specs.Tops.{firsts}
use Rattle.kl1_store.proofs.Fingering.{fingers_build}
use Rattle.kl1_store.proofs.Levelling.{levels_build, same_variables}
use Rattle.kl1_store.proofs.Resting.{rests_build}
use Rattle.kl1_store.proofs.store.Store.build_top.Goals as goal

pub invariant_of-self : goal.invariant_of-self
invariant_of-self g c =
    let old = c.self.inside.cells.held in
    let new = c.build_top.new.self.held in
    let P : ℕ → Type 0 = λ s. s ≡ length old.structures in
    let top = firsts c.args.missing c.args.count (reverse c.args.stack.now.items) in
    let e = same_variables old new c.args.name top P c.build_top.result c.build_top.ensures.ok c.build_top.ensures.err in
    record {
      levels = levels_build old new c.args.name top P c.build_top.result c.self.inside.levels c.build_top.ensures.ok c.build_top.ensures.err c.self.invariant.levels;
      covered = omega (arith, e, c.self.invariant.covered);
      rests = rests_build g.N.NameValue.built old new c.args.name top P c.build_top.result c.self.inside.rests.items c.build_top.ensures.ok c.build_top.ensures.err c.self.invariant.rests;
      fingers = fingers_build g.N.NameValue.built old new c.args.name top P c.build_top.result c.self.inside.fingers c.build_top.ensures.ok c.build_top.ensures.err c.self.invariant.fingers;
    }
