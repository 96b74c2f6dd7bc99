use Rattle.kl1_store.proofs.Lists.{IsInside-more}
use Rattle.kl1_store.proofs.cells.Cells.fresh.Goals as goal

pub invariant_of-self : goal.invariant_of-self
invariant_of-self g c =
    let s = c.self.inside in
    let new = c.fresh.new.self in
    IsInside-more s.bindings.variables new.variables s.nodes.items s.arguments.cells s.bindings.bindings new.bindings c.self.invariant c.fresh.ensures.more c.fresh.ensures.few c.fresh.ensures.same
