-- The clauses of a predicate as they are looked up.
use Rattle.std.proofs.Common.{◌≡◌, ℕ, zero, suc, ◌<◌, List, [], ◌∷◌, length, filter, take, get_or, ap, subst, ◌∙◌, arith}
use Rattle.kl1_model.specs.Module.{Clause, Module, is_of}
use Rattle.kl1_model.specs.State.{names_of_module, with_names}
use Rattle.kl1_clause.specs.declared.code.Code.TheInside.{Inside}
use Rattle.kl1_clause.specs.declared.compiled_clause.CompiledClause.{CompiledClause}
use Rattle.kl1_clause.specs.Clauses.{clause_in, IsCompiled, AreCompiled}
use Rattle.kl1_clause.specs.Codes.{module_in, IsSound}
use Rattle.kl1_clause.specs.Predicates.{clauses_in, AreWhole, from_first, front_run}
use Rattle.kl1_clause.proofs.Soundness.{names_as}
use Rattle.kl1_clause.proofs.Together.{together, run_is_all}

-- one of compiled clauses
pub whole_at : (names : List (List ℕ)) (cs : List CompiledClause) (i : ℕ) (d : CompiledClause) → i < length cs → AreWhole names cs → IsCompiled names (get_or cs i d) (clause_in names (get_or cs i d))
whole_at names [] i d h w = absurd (omega arith)
whole_at names (c ∷ cs) zero d h w = w.0
whole_at names (c ∷ cs) (suc i) d h w = whole_at names cs i d (omega arith) w.1

-- the first `i` of compiled clauses
pub whole_front : (names : List (List ℕ)) (cs : List CompiledClause) (i : ℕ) → AreWhole names cs → AreWhole names (take i cs)
whole_front names cs zero w = tt
whole_front names [] (suc i) w = tt
whole_front names (c ∷ cs) (suc i) w = (w.0, whole_front names cs i w.1)

-- what is found in a code by the name and the number of arguments of a predicate are the clauses of the predicate of its module
pub found_is : (c : Inside) (m : Module) (name : List ℕ) (count : ℕ) (names : List (List ℕ)) (all behind found : List CompiledClause) → IsSound c → module_in c ≡ m → names ≡ c.names → all ≡ c.clauses.items → clauses_in names behind ≡ from_first (is_of name count) (clauses_in names all) → clauses_in names found ≡ front_run (is_of name count) (clauses_in names behind) → AreWhole names found → AreCompiled (with_names [] (names_of_module m)) found (filter (is_of name count) m.clauses)
found_is c m name count names all behind found sound view names_are all_are from_first_is run_is whole =
    let test = is_of name count in
    let all_mean : clauses_in names all ≡ (module_in c).clauses = ap (λ (ns : List (List ℕ)). clauses_in ns all) names_are ∙ ap (clauses_in c.names) all_are in
    let joined : front_run test (from_first test (module_in c).clauses) ≡ filter test (module_in c).clauses = run_is_all test (module_in c).clauses (together c.source.items (module_in c) name count sound.meant) in
    let found_are : clauses_in names found ≡ filter test m.clauses = run_is ∙ (ap (front_run test) (from_first_is ∙ ap (from_first test) all_mean) ∙ (joined ∙ ap (λ (x : Module). filter test x.clauses) view)) in
    subst (λ (ns : List (List ℕ)). AreCompiled ns found (filter test m.clauses)) (names_are ∙ names_as c m sound view)
    (subst (λ (ds : List Clause). AreCompiled names found ds) found_are whole)
