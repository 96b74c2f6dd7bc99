use Rattle.std.proofs.Common.{List, subst, sym}
use Rattle.kl1_store.specs.declared.merge.Merge.{Merge}
use Rattle.kl1_store.specs.Merged.{Respects}
use Rattle.kl1_store.proofs.merges.Merges.root.Goals as goal

pub returns-clause-same : goal.returns-clause-same
returns-clause-same c = λ S r.
    let P : List Merge → Type 0 = λ l. Respects S l in
    (c.find_root.ensures c.self.inside.merges.items c.self.invariant).same S (subst P (sym c.self.view_is) r)
