-- The clauses of one predicate among those of a module.
use Rattle.std.specs.Prelude.{◌≡◌, ℕ, Bool, if◌then◌else◌, List, [], ◌∷◌, length, map, Option, Some, None}
use Rattle.kl1_model.specs.Module.{Clause}
use Rattle.kl1_clause.specs.declared.compiled_clause.CompiledClause.{CompiledClause}
use Rattle.kl1_clause.specs.declared.predicate.Predicate.{Predicate}
use Rattle.kl1_clause.specs.Clauses.{clause_in, AreCompiled}

-- the clauses that compiled clauses mean, if the names of the code are these
abbrev pub clauses_in : List (List ℕ) → List CompiledClause → List Clause
clauses_in names cs = map (clause_in names) cs

-- compiled clauses are what they mean
abbrev pub AreWhole : List (List ℕ) → List CompiledClause → Type 0
AreWhole names cs = AreCompiled names cs (clauses_in names cs)

-- the first clause that passes a test, with those after it
abbrev pub from_first : (Clause → Bool) → List Clause → List Clause
from_first test [] = []
from_first test (c ∷ cs) = if test c then c ∷ cs else from_first test cs

-- the clauses up to the first that does not pass a test
abbrev pub front_run : (Clause → Bool) → List Clause → List Clause
front_run test [] = []
front_run test (c ∷ cs) = if test c then c ∷ front_run test cs else []

-- compiled clauses are some clauses, if their code has as many names as these
pub record AreSome {N : Type 0} (names : List N) (clauses : List CompiledClause) : Type 0 where
  pub texts : List (List ℕ)
  pub count : length texts ≡ length names
  pub meant : List Clause
  pub are : AreCompiled texts clauses meant

-- if names are read like this, what is found of clauses is them compiled; nothing is found if there is none
abbrev pub FoundAs : {N : Type 0} → (N → List ℕ) → List Clause → Option (Predicate N) → Type 0
FoundAs f clauses None = clauses ≡ []
FoundAs f clauses (Some p) = AreCompiled (map f p.names.now) p.clauses.now clauses
