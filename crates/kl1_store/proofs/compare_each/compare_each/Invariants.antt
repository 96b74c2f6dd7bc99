use Rattle.std.proofs.Common.{length}
use Rattle.kl1_store.specs.Unbound.{AreUnbound}
use Rattle.kl1_store.proofs.ComparingEach.{EachLeft}
use Rattle.kl1_store.proofs.compare_each.compare_each.Given as goal

-- what is left, with what was found, comes to the whole, and what was found is unbound
abbrev pub invariant-loop-rest : goal.invariant-loop-rest
invariant-loop-rest g l =
    (AreUnbound l.cells.held l.fn.waits.items → AreUnbound l.cells.held l.waits.items)
    × EachLeft g.N.NameValue.built l.cells.held l.fn.terms l.rest l.fn.waits.items l.waits.items

abbrev pub decreases-loop-rest : goal.decreases-loop-rest
decreases-loop-rest g l = length l.rest
