-- What an instance of a clause's body is, in cells.
use Rattle.std.specs.Prelude.{◌≡◌, ℕ, ◌+◌, ◌-◌, List, [], ◌∷◌, map, length}
use Rattle.kl1_model.specs.declared.built_in.BuiltIn.{BuiltIn}
use Rattle.kl1_model.specs.Term.{Replacement}
use Rattle.kl1_model.specs.Module.{Clause}
use Rattle.kl1_model.specs.Instance.{body_instance}
use Rattle.kl1_text.specs.Reading.{Reads}
use Rattle.kl1_store.specs.declared.cell.Cell.{Cell}
use Rattle.kl1_store.specs.declared.qualified.Qualified.{Qualified}
use Rattle.kl1_store.specs.Held.{Held, IsIn}
use Rattle.kl1_store.specs.Meaning.{term_of}
use Rattle.kl1_store.specs.InModules.{qualified_list, AreQualifiedIn}
use Rattle.kl1_clause.specs.declared.compiled_clause.CompiledClause.{CompiledClause}
use Rattle.kl1_clause.specs.Clauses.{IsCompiled}
use Rattle.kl1_match.specs.declared.place.Place.{Place}

-- a compiled clause is some clause, if its code has as many names as these
pub record IsClause {N : Type 0} (names : List N) (compiled : CompiledClause) : Type 0 where
  pub texts : List (List ℕ)
  pub count : length texts ≡ length names
  pub clause : Clause
  pub is : IsCompiled texts compiled clause

-- the cells of places are of the store
abbrev pub AreThere : {N : Type 0} → Held N → List (Place N) → Type 0
AreThere h [] = Unit {0}
AreThere h (p ∷ ps) = IsIn h p.cell × AreThere h ps

-- the term at a place
abbrev pub replacement_of : {N : Type 0} → (N → List ℕ) → Held N → Place N → Replacement
replacement_of f h p = record { number = p.variable; by = term_of f h p.cell }

-- the terms at places
abbrev pub replacements_of : {N : Type 0} → (N → List ℕ) → Held N → List (Place N) → List Replacement
replacements_of f h ps = map (replacement_of f h) ps

-- each cell that was there means what it meant
abbrev pub AreKept : {N : Type 0} → (N → List ℕ) → Held N → Held N → Type 0
AreKept {N = N} f old new = (x : Cell N) → IsIn old x → term_of f new x ≡ term_of f old x

-- these are the goals of the clause's body, for one reading of the names
pub record GoalsAre {N : Type 0} (f : N → List ℕ) (clause : Clause) (places : List (Place N)) (old new : Held N) (goals : List (Qualified N)) : Type 0 where
  pub terms : qualified_list f new goals ≡ body_instance clause (replacements_of f old places) (old.variables - 1)
  pub kept : AreKept f old new

-- these are the goals of the body of a compiled clause
pub record IsInstance {N : Type 0} (built : BuiltIn → N) (names : List N) (compiled : CompiledClause) (places : List (Place N)) (old new : Held N) (goals : List (Qualified N)) : Type 0 where
  pub inside : AreQualifiedIn new goals
  pub variables : new.variables ≡ old.variables + compiled.fresh_variables
  pub goals_are : (f : N → List ℕ) → Reads built f → (clause : Clause) → IsCompiled (map f names) compiled clause → GoalsAre f clause places old new goals
