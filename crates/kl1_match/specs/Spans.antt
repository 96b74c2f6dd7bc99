-- Cells that are still to be matched.
use Rattle.std.specs.Prelude.{◌≤◌, List, [], ◌∷◌, ◌++◌, length, take, drop}
use Rattle.kl1_store.specs.declared.cell.Cell.{Cell}
use Rattle.kl1_store.specs.Held.{Held}
use Rattle.kl1_store.specs.Places.{all_arguments}
use Rattle.kl1_match.specs.declared.span.Span.{Span}

-- arguments of structures that stand in a row
abbrev pub span_cells : {N : Type 0} → Held N → Span → List (Cell N)
span_cells h s = drop s.next (take s.end (all_arguments h))

-- the store has them all
abbrev pub IsSpan : {N : Type 0} → Held N → Span → Type 0
IsSpan h s = s.end ≤ length (all_arguments h)

abbrev pub AreSpans : {N : Type 0} → Held N → List Span → Type 0
AreSpans h [] = Unit {0}
AreSpans h (s ∷ ss) = IsSpan h s × AreSpans h ss

-- the cells of rows of arguments, those of the last row first
abbrev pub cells_behind : {N : Type 0} → Held N → List Span → List (Cell N)
cells_behind h [] = []
cells_behind h (s ∷ ss) = cells_behind h ss ++ span_cells h s

-- the cells of a row, and then those of the rows after it
abbrev pub cells_left : {N : Type 0} → Held N → Span → List Span → List (Cell N)
cells_left h s ss = span_cells h s ++ cells_behind h ss
