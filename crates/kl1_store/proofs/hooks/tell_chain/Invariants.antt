use Rattle.kl1_store.proofs.Chaining.{Tells}
use Rattle.kl1_store.proofs.hooks.tell_chain.Given as goal

-- what was told, and what hangs below the place, are the whole
abbrev pub invariant-loop-at : goal.invariant-loop-at
invariant-loop-at l = Tells l.variable l.links.items l.fn.told.items l.told.items l.at

abbrev pub decreases-loop-at : goal.decreases-loop-at
decreases-loop-at l = l.at
