-- Where the clauses that pass a test stand in a list.
use Rattle.std.specs.Prelude.{◌≡◌, ℕ, ◌-◌, ◌<◌, ◌≤◌, Bool, List, [], take, drop, Option, Some, None}
use Rattle.kl1_model.specs.Module.{Clause}
use Rattle.kl1_clause.specs.Predicates.{from_first, front_run}
use Rattle.kl1_codes.specs.declared.span.Span.{Span}

-- a span begins and ends within `count` places
pub record IsWithin (count : ℕ) (s : Span) : Type 0 where
  pub some : s.start < s.end
  pub last : s.end ≤ count

-- the clauses from a place on begin to pass a test where the span does, and it has the run of those that do
pub record IsSpan (test : Clause → Bool) (cs : List Clause) (place : ℕ) (s : Span) : Type 0 where
  pub first : from_first test (drop place cs) ≡ drop s.start cs
  pub run : front_run test (drop s.start cs) ≡ take (s.end - s.start) (drop s.start cs)

-- the clauses from a place on that pass a test begin in this span, or there is none
abbrev pub SpanIs : (Clause → Bool) → List Clause → ℕ → Option Span → Type 0
SpanIs test cs place None = from_first test (drop place cs) ≡ []
SpanIs test cs place (Some s) = IsSpan test cs place s
