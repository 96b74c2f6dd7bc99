use Rattle.std.proofs.Common.{◌≡◌, length}
use Rattle.std.specs.List.{All}
use Rattle.kl1_store.specs.Remembers.{IsRemembered}
use Rattle.kl1_store.proofs.remembering.recall.Given as goal

-- what is left is remembered, and nothing was added yet
abbrev pub invariant-loop-rest : goal.invariant-loop-rest
invariant-loop-rest g l = All (IsRemembered g.N.NameValue.built l.cells.held) l.rest × (l.waits.items ≡ l.fn.waits.items)

abbrev pub decreases-loop-rest : goal.decreases-loop-rest
decreases-loop-rest g l = length l.rest
