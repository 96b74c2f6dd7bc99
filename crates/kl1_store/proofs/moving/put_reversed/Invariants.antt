use Rattle.std.proofs.Common.{◌≡◌, ◌+◌, ◌≤◌, length, reverse, take, ◌++◌}
use Rattle.kl1_store.proofs.moving.put_reversed.Given as goal

-- what was put and what is left to put are all cells, and room was used up for what was put
abbrev pub invariant-loop-left : goal.invariant-loop-left
invariant-loop-left g l =
    (l.list.cells ++ reverse (take l.left l.cells) ≡ l.initial.list.cells ++ reverse l.cells)
    × (l.list.room + length l.cells ≡ l.initial.list.room + l.left)
    × (l.left ≤ length l.cells)

abbrev pub decreases-loop-left : goal.decreases-loop-left
decreases-loop-left g l = l.left
