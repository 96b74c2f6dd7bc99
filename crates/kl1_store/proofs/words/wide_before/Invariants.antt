use Rattle.std.proofs.Common.{length}
use Rattle.kl1_store.proofs.Ordering.{Skips}
use Rattle.kl1_store.proofs.words.wide_before.Given as goal

-- the words since `count` so far are of cells by themselves
abbrev pub invariant-loop-place : goal.invariant-loop-place
invariant-loop-place g l = Skips l.words.items l.count l.place (length l.wide.items)
