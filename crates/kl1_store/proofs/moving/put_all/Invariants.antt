use Rattle.std.proofs.Common.{◌≡◌, ◌+◌, length, ◌++◌}
use Rattle.kl1_store.proofs.moving.put_all.Given as goal

-- what was put and what is left to put are all cells, and room was used up for what was put
abbrev pub invariant-loop-rest : goal.invariant-loop-rest
invariant-loop-rest g l = (l.list.cells ++ l.rest ≡ l.initial.list.cells ++ l.cells) × (l.list.room + length l.cells ≡ l.initial.list.room + length l.rest)

abbrev pub decreases-loop-rest : goal.decreases-loop-rest
decreases-loop-rest g l = length l.rest
