-- Lists of predicates with the spans of their clauses.
use Rattle.std.specs.Prelude.{◌≡◌, ℕ, ◌+◌, ◌<◌, ◌≤◌, ◌==◌, if◌then◌else◌, Option, None, List, cond, length, map, slice_index_or, Some, IfSome}
use Rattle.std.specs.declared.cmp.Ordering.{Ordering}
use Rattle.std.specs.declared.cmp.Ordering.TheVariants.{Less, Greater}
use Rattle.std.specs.Ordering.{nat_cmp, ordering_then, eq_by_cmp}
use Rattle.std.specs.List.Sorted.{IsStrictlySortedBy}
use Rattle.std.specs.Map.{lookup, keys_of}
use Rattle.kl1_model.specs.Module.{Clause, Module, is_of}
use Rattle.kl1_text.specs.Reading.{Reads}
use Rattle.kl1_text.specs.BuiltIns.{built_in_of}
use Rattle.kl1_text.specs.declared.cell_name.CellName.{CellName}
use Rattle.kl1_clause.specs.declared.compiled_clause.CompiledClause.{CompiledClause}
use Rattle.kl1_clause.specs.Instructions.{text_in}
use Rattle.kl1_codes.specs.declared.span.Span.{Span}
use Rattle.kl1_codes.specs.Numbered.{built, own_names, number_by}
use Rattle.kl1_codes.specs.Spans.{IsWithin, SpanIs}

-- the key of a predicate: the number of its name and its number of arguments
abbrev pub Key : Type 0
Key = ℕ × ℕ

abbrev pub key_by : CellName → ℕ → Key
key_by name count = (name.number, count)

-- the order of keys: by the number of the name first
abbrev pub key_order : Key → Key → Ordering
key_order a b = ordering_then (nat_cmp a.0 b.0) (nat_cmp a.1 b.1)

-- keys with their spans
abbrev pub Rows : Type 0
Rows = List (Key × Span)

-- the span of a key
abbrev pub span_at : Rows → Key → Option Span
span_at rows key = lookup (eq_by_cmp key_order key) rows

-- the keys rise, so none comes twice
abbrev pub IsInOrder : Rows → Type 0
IsInOrder rows = IsStrictlySortedBy key_order (keys_of rows)

-- a key stands at this place
pub record IsAt (rows : Rows) (key : Key) (place : ℕ) : Type 0 where
  pub within : place < length rows
  pub is : (d : Key × Span) → (slice_index_or rows place d).0 ≡ key

-- a key would stand at this place: after the less, and before the greater
pub record IsGap (rows : Rows) (key : Key) (place : ℕ) : Type 0 where
  pub within : place ≤ length rows
  pub less : (i : ℕ) (d : Key × Span) → i < place → key_order (slice_index_or rows i d).0 key ≡ Less
  pub greater : (i : ℕ) (d : Key × Span) → place ≤ i → i < length rows → key_order (slice_index_or rows i d).0 key ≡ Greater

-- a key has this span, and each other key that which it had
abbrev pub HasPut : Rows → Rows → Key → Span → Type 0
HasPut old new key s = (q : Key) → span_at new q ≡ cond (eq_by_cmp key_order q key) (Some s) (span_at old q)

-- where a run that begins at a place ends, by the span of the same predicate from the next place on: with that span if
-- it begins right there, and else alone
abbrev pub end_by : ℕ → Option Span → ℕ
end_by start None = start + 1
end_by start (Some s) = if s.start == start + 1 then s.end else start + 1

-- this is the key of a compiled clause, if these are the numbers of its code
pub record IsKeyOf (row : List CellName) (c : CompiledClause) (key : Key) : Type 0 where
  pub name : CellName
  pub is : key ≡ key_by name c.count
  pub reads : (f : CellName → List ℕ) → Reads built f → f name ≡ text_in (map f row) c.name

-- these are the spans of the clauses from a place on, of each predicate, however names are read
pub record Spans (row : List CellName) (names : List (List ℕ)) (clauses : List Clause) (place : ℕ) (rows : Rows) : Type 0 where
  pub within : (key : Key) → IfSome (span_at rows key) (IsWithin (length clauses))
  pub spans : (f : CellName → List ℕ) → Reads built f → map f row ≡ names → (name : CellName) (count : ℕ) → SpanIs (is_of (f name) count) clauses place (span_at rows (key_by name count))

-- these are the spans of a module's predicates, with room for those under other numbers
pub record IsIndexed (content : Module) (row : List CellName) (rows : Rows) (capacity : ℕ) : Type 0 where
  pub named : length row ≡ length (own_names content)
  pub order : IsInOrder rows
  pub spans : Spans row (own_names content) content.clauses 0 rows
  pub room : length content.clauses ≤ capacity

-- a module's spans are as in `IsIndexed`, and this is the number of its own name
pub record IsFiled (content : Module) (number : CellName) (row : List CellName) (rows : Rows) (capacity : ℕ) : Type 0 where
  pub number_is : number ≡ number_by row (built_in_of content.name)
  pub index : IsIndexed content row rows capacity
