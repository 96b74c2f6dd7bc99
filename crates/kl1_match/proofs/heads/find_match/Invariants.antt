use Rattle.std.proofs.Common.{◌≡◌, ◌≤◌, true, length, ◌-◌, vec_len, vec_capacity}
use Rattle.kl1_match.specs.Spans.{cells_left, IsSpan, AreSpans}
use Rattle.kl1_match.proofs.Trying.{keeps_of, GivesKept}
use Rattle.kl1_match.proofs.heads.find_match.Given as goal

-- what is left of the row and of the cells gives the verdict, and there is room for what the rest of the row can put
abbrev pub invariant-loop-at : goal.invariant-loop-at
invariant-loop-at g l = record {
  span : IsSpan l.store.held l.span;
  behind : AreSpans l.store.held l.behind.items;
  gives : GivesKept g.N.NameValue.built l.names l.clause l.store.held l.fn.goal l.at (keeps_of g.row.KEEP) (cells_left l.store.held l.span l.behind.items) l.places.items l.fn.awaited.items l.awaited.items;
  behind_room : length l.row ≤ vec_capacity l.behind;
  behind_len : vec_len l.behind ≤ l.at;
  room : (keeps_of g.row.KEEP) ≡ true → length l.row ≤ vec_capacity l.places;
  len : vec_len l.places ≤ l.at;
}

abbrev pub decreases-loop-at : goal.decreases-loop-at
decreases-loop-at g l = length l.row - l.at
