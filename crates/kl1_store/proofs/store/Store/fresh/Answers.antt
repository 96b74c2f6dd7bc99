use Rattle.std.proofs.Common.{◌≡◌, ℕ, arith}
use Rattle.kl1_store.proofs.Fingering.{fingers_fresh}
use Rattle.kl1_store.proofs.Levelling.{levels_fresh}
use Rattle.kl1_store.proofs.Resting.{rests_variable, fresh_covered}
use Rattle.kl1_store.proofs.store.Store.fresh.Goals as goal

pub invariant_of-self-2 : goal.invariant_of-self-2
invariant_of-self-2 g c =
    let s = c.self.inside in
    let new = c.fresh.new.self.held in
    let P : ℕ → Type 0 = λ v. v ≡ s.cells.held.variables in
    let k = c.in_ok-cover.ensures in
    record {
      levels = levels_fresh s.cells.held new P c.fresh.result s.levels c.fresh.ensures.ok c.fresh.ensures.err c.self.invariant.levels;
      covered = fresh_covered s.cells.held new c.cover.new.self.covered c.fresh.result c.fresh.ensures.ok c.fresh.ensures.err (omega (arith, k.covers, c.variables.ensures));
      fingers = fingers_fresh g.N.NameValue.built s.cells.held new P c.fresh.result s.fingers c.fresh.ensures.ok c.fresh.ensures.err c.self.invariant.fingers;
      rests = rests_variable g.N.NameValue.built s.cells.held new P c.fresh.result s.rests.items c.fresh.ensures.ok c.fresh.ensures.err c.self.invariant.rests;
    }
