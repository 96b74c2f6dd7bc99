use Rattle.kl1_store.specs.Unbound.{AreUnbound}
use Rattle.kl1_store.proofs.Advancing.{work}
use Rattle.kl1_store.proofs.Comparing.{IsLeft}
use Rattle.kl1_store.proofs.compare.compare.Given as goal

-- what is left, with what was found, comes to the whole, and what was found is unbound
abbrev pub invariant-loop-frame : goal.invariant-loop-frame
invariant-loop-frame g l =
    (AreUnbound l.cells.held l.fn.waits.items → AreUnbound l.cells.held l.waits.items)
    × IsLeft g.N.NameValue.built l.cells.held l.fn.left l.fn.right l.fn.waits.items l.waits.items l.pairs.keys l.frames.items

abbrev pub decreases-loop-frame : goal.decreases-loop-frame
decreases-loop-frame g l = work l.cells.held l.frames.items
