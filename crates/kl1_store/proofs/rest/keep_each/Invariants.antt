use Rattle.std.proofs.Common.{length}
use Rattle.std.specs.List.{All}
use Rattle.kl1_store.specs.Remembers.{IsRemembered}
use Rattle.kl1_store.specs.Resting.{AreRests}
use Rattle.kl1_store.proofs.rest.keep_each.Given as goal

-- what is kept is so, and what is left is remembered
abbrev pub invariant-loop-rest : goal.invariant-loop-rest
invariant-loop-rest g l = AreRests g.N.NameValue.built l.cells.held l.rests.items × All (IsRemembered g.N.NameValue.built l.cells.held) l.rest

abbrev pub decreases-loop-rest : goal.decreases-loop-rest
decreases-loop-rest g l = length l.rest
