use Rattle.std.proofs.Common.{◌≡◌, ◌+◌, ◌≤◌, length, reverse, ◌++◌}
use Rattle.std.specs.Vec.{vec_capacity}
use Rattle.kl1_store.specs.Tops.{firsts, others}
use Rattle.kl1_store.proofs.moving.move_or_fill.Given as goal

-- what is moved and what is to be moved are the first `count`, and what will be left are the others
abbrev pub invariant-loop-left : goal.invariant-loop-left
invariant-loop-left g l =
    (l.list.cells ++ firsts l.missing l.left (reverse l.stack.items) ≡ l.initial.list.cells ++ firsts l.initial.missing l.initial.count (reverse l.initial.stack.items))
    × (others l.left (reverse l.stack.items) ≡ others l.initial.count (reverse l.initial.stack.items))
    × (length l.list.cells + l.left ≡ length l.initial.list.cells + l.initial.count)
    × (l.list.room + l.initial.count ≡ l.initial.list.room + l.left)
    × (vec_capacity l.stack ≡ vec_capacity l.initial.stack)
    × (length l.stack.items ≤ length l.initial.stack.items)

abbrev pub decreases-loop-left : goal.decreases-loop-left
decreases-loop-left g l = l.left
