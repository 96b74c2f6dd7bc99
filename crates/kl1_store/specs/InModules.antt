-- Goals in modules.
use Rattle.std.specs.Prelude.{ℕ, List, map, codes, Option, Some, None}
use Rattle.kl1_model.specs.Term.{Term, atom, structure, none, more}
use Rattle.kl1_store.specs.declared.cell.Cell.{Cell}
use Rattle.kl1_store.specs.declared.qualified.Qualified.{Qualified}
use Rattle.kl1_store.specs.Held.{Held, AreIn}
use Rattle.kl1_store.specs.Meaning.{term_of}

-- a goal in the module of a name, or a goal that is whole
abbrev pub in_module : {N : Type 0} → (N → List ℕ) → Option N → Term → Term
in_module f None t = t
in_module f (Some m) t = structure (codes ":") (more (atom (f m)) (more t none))

-- what is to be reduced, as a term
abbrev pub qualified_term : {N : Type 0} → (N → List ℕ) → Held N → Qualified N → Term
qualified_term f h q = in_module f q.module_name (term_of f h q.cell)

-- the terms of what is to be reduced, one for each
abbrev pub qualified_list : {N : Type 0} → (N → List ℕ) → Held N → List (Qualified N) → List Term
qualified_list f h qs = map (qualified_term f h) qs

-- the cells of what is to be reduced
abbrev pub cells_of : {N : Type 0} → List (Qualified N) → List (Cell N)
cells_of qs = map (λ q. q.cell) qs

-- what is to be reduced is of this store
abbrev pub AreQualifiedIn : {N : Type 0} → Held N → List (Qualified N) → Type 0
AreQualifiedIn h qs = AreIn h (cells_of qs)
