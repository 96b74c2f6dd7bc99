-- Bodies of clauses built in a store.
use Rattle.std.specs.Prelude.{◌≡◌, ℕ, List, map}
use Rattle.kl1_model.specs.declared.built_in.BuiltIn.{BuiltIn}
use Rattle.kl1_model.specs.Term.{Term, substituted}
use Rattle.kl1_model.specs.Module.{Clause, goals_of}
use Rattle.kl1_text.specs.Reading.{Reads}
use Rattle.kl1_store.specs.declared.cell.Cell.{Cell}
use Rattle.kl1_store.specs.declared.qualified.Qualified.{Qualified}
use Rattle.kl1_store.specs.Held.{Held}
use Rattle.kl1_store.specs.InModules.{qualified_list, AreQualifiedIn}
use Rattle.kl1_clause.specs.declared.compiled_clause.CompiledClause.{CompiledClause}
use Rattle.kl1_clause.specs.Clauses.{IsCompiled}
use Rattle.kl1_match.specs.Instances.{AreKept}
use Rattle.kl1_match.specs.Steps.{Agrees}

-- these are the goals of a clause's body with what cells mean in place of its variables, for one reading of the names
pub record BodyBuilt {N : Type 0} (f : N → List ℕ) (clause : Clause) (old new : Held N) (variables : List (Cell N)) (goals : List (Qualified N)) : Type 0 where
  pub terms : (e : ℕ → Term) → Agrees f old variables e → qualified_list f new goals ≡ map (substituted e) (goals_of clause.body)
  pub kept : AreKept f old new

-- these are the goals of the body of a compiled clause with what cells mean in place of its variables
pub record BuildsBody {N : Type 0} (built : BuiltIn → N) (names : List N) (compiled : CompiledClause) (old new : Held N) (variables : List (Cell N)) (goals : List (Qualified N)) : Type 0 where
  pub count : new.variables ≡ old.variables
  pub inside : AreQualifiedIn new goals
  pub body_is : (f : N → List ℕ) → Reads built f → (clause : Clause) → IsCompiled (map f names) compiled clause → BodyBuilt f clause old new variables goals
