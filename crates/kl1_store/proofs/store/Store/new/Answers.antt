use Rattle.std.proofs.Common.{ap, arith, length}
use Rattle.kl1_store.specs.Held.{Held}
use Rattle.kl1_store.specs.declared.levels.Levels.{Levels}
use Rattle.kl1_store.proofs.Levelling.{levels_new}
use Rattle.kl1_store.proofs.Resting.{no_rests}
use Rattle.kl1_store.proofs.store.Store.new.Goals as goal

pub invariant_of-result : goal.invariant_of-result
invariant_of-result g c =
    let ls : Levels = record { variables = c.new-2.result; structures = c.new-3.result } in
    let e = ap (λ (h : Held g.row.N.Denot). h.variables) c.new.ensures in
    record { levels = levels_new c.new.result.held ls c.new.ensures (ap length c.new-3.ensures.items); covered = omega arith; rests = no_rests g.N.NameValue.built c.new.result.held c.new-8.result.items c.new-8.ensures.items; fingers = c.new-9.ensures c.new.result.held }
