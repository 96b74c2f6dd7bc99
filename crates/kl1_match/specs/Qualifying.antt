-- Cells in the modules of a clause's goals.
use Rattle.std.specs.Prelude.{List, [], ◌∷◌, Option, Some, None}
use Rattle.kl1_model.specs.declared.built_in.BuiltIn.{BuiltIn}
use Rattle.kl1_store.specs.declared.cell.Cell.{Cell}
use Rattle.kl1_store.specs.declared.qualified.Qualified.{Qualified}
use Rattle.kl1_clause.specs.declared.name.Name.{Name}
use Rattle.kl1_match.specs.TestTerms.{name_of}

-- the name of a module, if there is one and the names of the code's list are these
abbrev pub module_at : {N : Type 0} → (BuiltIn → N) → List N → Option Name → Option N
module_at built names None = None
module_at built names (Some n) = Some (name_of built names n)

-- cells in modules, one for each
abbrev pub qualified_each : {N : Type 0} → List (Option N) → List (Cell N) → List (Qualified N)
qualified_each [] xs = []
qualified_each (m ∷ ms) [] = []
qualified_each (m ∷ ms) (x ∷ xs) = record { module_name = m; cell = x } ∷ qualified_each ms xs
