use Rattle.std.proofs.Common.{◌≤◌, ◌+◌, ◌<◌, [], true, length, ◌-◌, vec_len, vec_capacity}
use Rattle.kl1_match.specs.Spans.{cells_left, IsSpan, AreSpans}
use Rattle.kl1_match.specs.Kept.{places_behind}
use Rattle.kl1_match.proofs.Trying.{GivesKept}
use Rattle.kl1_match.proofs.agreeing.agrees_with_in_order.Given as goal

-- what is left of the row and of the cells gives the outcome, if nothing is waited for, and there is room for what the rest of
-- the row can put
abbrev pub invariant-loop-at : goal.invariant-loop-at
invariant-loop-at g l = record {
  span : IsSpan l.store.held l.span;
  behind : AreSpans l.store.held l.behind.items;
  gives : GivesKept g.N.NameValue.built l.names l.clause l.store.held l.fn.goal l.at true (cells_left l.store.held l.span l.behind.items) (places_behind l.cells.items) [] [];
  behind_room : length l.row ≤ vec_capacity l.behind;
  behind_len : vec_len l.behind ≤ l.at;
  room : length l.row + 1 ≤ vec_capacity l.cells;
  len : vec_len l.cells ≤ l.at + 1;
  first : 0 < vec_len l.cells;
}

abbrev pub decreases-loop-at : goal.decreases-loop-at
decreases-loop-at g l = length l.row - l.at
