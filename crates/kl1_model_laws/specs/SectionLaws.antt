-- The clauses of a predicate of a module that was read stand in order of their sections; so its candidates are the open ones.
use Rattle.std.specs.Prelude.{◌≡◌, ℕ, IsTrue, List, filter}
use Rattle.kl1_model.specs.declared.rules.Rules.{Rules}
use Rattle.kl1_model.specs.Term.{Terms}
use Rattle.kl1_model.specs.Module.{Module, is_of, good, read_module}
use Rattle.kl1_model.specs.Match.{Call, clauses_of, candidates_of}
use Rattle.kl1_model.specs.code.Sections.{candidates_from}
use Rattle.kl1_model.specs.laws.WaitsLaws.{are_in_order, accepting_from, is_open}
use Rattle.kl1_model.specs.Event.{Event}
use Rattle.kl1_model_laws.specs.Reached.{reached}

-- the clauses of each predicate of a module that was read stand in order of their sections
abbrev pub SectionsAreInOrder : Type 0
SectionsAreInOrder = (source name : List ℕ) (count : ℕ) (m : Module) → read_module source ≡ good m → IsTrue (are_in_order (filter (is_of name count) m.clauses))

-- so the candidates among the clauses of a predicate of a module that was read are those that accept and above whose nearest
-- `otherwise` each clause rejects
abbrev pub CandidatesOfModulesAreOpen : Type 0
CandidatesOfModulesAreOpen =
    (source name : List ℕ) (count : ℕ) (m : Module) (n : ℕ) (ts : Terms) → read_module source ≡ good m →
    candidates_from n (filter (is_of name count) m.clauses) ts
    ≡ filter (λ k. is_open (filter (is_of name count) m.clauses) ts k.clause) (accepting_from n (filter (is_of name count) m.clauses) ts)

-- so it is of each call in each account, whatever was done to it since it was fresh
abbrev pub CandidatesOfCallsAreOpen : Type 0
CandidatesOfCallsAreOpen =
    (rules : Rules) (name : List ℕ) (es : List Event) (call : Call) →
    let clauses = clauses_of (reached rules name es).modules call in
    candidates_of (reached rules name es).modules call ≡ filter (λ k. is_open clauses call.arguments k.clause) (accepting_from 1 clauses call.arguments)
