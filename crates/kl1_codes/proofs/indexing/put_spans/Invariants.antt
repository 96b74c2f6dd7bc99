use Rattle.std.proofs.Common.{◌+◌, ◌≤◌, length, vec_len, vec_capacity}
use Rattle.kl1_codes.specs.Numbered.{own_names}
use Rattle.kl1_codes.specs.Indexes.{Spans, IsInOrder}
use Rattle.kl1_codes.proofs.indexing.put_spans.Given as goal

-- the index has the spans of the clauses from the place on, and room for those before it
abbrev pub invariant-loop-start : goal.invariant-loop-start
invariant-loop-start l = record {
  below : l.start ≤ length l.clauses;
  order : IsInOrder l.index.items;
  spans : Spans l.row (own_names l.code) l.code.clauses l.start l.index.items;
  used : vec_len l.index + l.start ≤ length l.clauses;
  room : length l.clauses ≤ vec_capacity l.index;
}

abbrev pub decreases-loop-start : goal.decreases-loop-start
decreases-loop-start l = l.start
