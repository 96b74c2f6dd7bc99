use Rattle.std.proofs.Common.{◌≡◌, ◌≤◌, length, vec_len, vec_capacity}
use Rattle.kl1_match.specs.Spans.{cells_left, IsSpan, AreSpans}
use Rattle.kl1_match.proofs.arguments.is_left.Given as goal

-- the cells that are left stay, and the list gets no longer
abbrev pub invariant-loop-span : goal.invariant-loop-span
invariant-loop-span g l = record {
  span : IsSpan l.store.held l.span;
  behind : AreSpans l.store.held l.behind.items;
  same : cells_left l.store.held l.span l.behind.items ≡ cells_left l.store.held l.fn.span l.fn.behind.items;
  capacity : vec_capacity l.behind ≡ vec_capacity l.fn.behind;
  len : vec_len l.behind ≤ vec_len l.fn.behind;
}

abbrev pub decreases-loop-span : goal.decreases-loop-span
decreases-loop-span g l = length l.behind.items
