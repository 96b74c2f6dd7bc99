-- The bodies of clauses that goals commit to, by cells.
use Rattle.std.proofs.Common.{◌≡◌, ℕ, zero, suc, ◌+◌, ◌-◌, List, [], ◌∷◌, length, map, get_or, sym, ap, ◌∙◌, subst}
use Rattle.std.specs.Prelude.{Option, Some, slice_get, slice_index_or}
use Rattle.std.proofs.lemmas.List.{length-map}
use Rattle.kl1_model.specs.declared.built_in.BuiltIn.{BuiltIn}
use Rattle.kl1_model.specs.Match.{Candidate}
use Rattle.kl1_model.specs.Instance.{body_instance, body_priorities}
use Rattle.kl1_text.specs.Reading.{Reads}
use Rattle.kl1_store.specs.declared.qualified.Qualified.{Qualified}
use Rattle.kl1_store.specs.Held.{Held}
use Rattle.kl1_clause.specs.declared.compiled_clause.CompiledClause.{CompiledClause}
use Rattle.kl1_clause.specs.declared.predicate.Predicate.{Predicate}
use Rattle.kl1_clause.specs.Clauses.{IsCompiled}
use Rattle.kl1_match.specs.declared.place.Place.{Place}
use Rattle.kl1_match.specs.Instances.{IsInstance}
use Rattle.kl1_goals_moves.specs.Moves.{IsCandidate}
use Rattle.kl1_goals_moves.specs.Bodies.{IsBody, AreNeeds}

at_place : (cs : List CompiledClause) (place : ℕ) (x y : CompiledClause) → slice_get cs place ≡ Some y → get_or cs place x ≡ y
at_place [] place x y e = absurd (cc)
at_place (c ∷ cs) zero x y e = cc
at_place (c ∷ cs) (suc place) x y e = at_place cs place x y e

pub body_of : {N : Type 0} (built : BuiltIn → N) (f : N → List ℕ) (p : Predicate N) (place : ℕ) (compiled : CompiledClause) (places at : List (Place N)) (old new : Held N) (goals : List (Qualified N)) (k : Candidate) → Reads built f →
    compiled ≡ slice_index_or p.clauses.now place compiled → at ≡ places → IsInstance built p.names.now compiled at old new goals → IsCandidate f old p place places k → IsBody f k old new goals
body_of {N = N} built f p place compiled places at old new goals k r here same i is =
    let found : is.compiled ≡ compiled = sym (here ∙ at_place p.clauses.now place compiled is.compiled is.at) in
    let P : CompiledClause → Type 0 = λ x. IsCompiled (map f p.names.now) x k.clause in
    let Q : List (Place N) → Type 0 = λ l. IsInstance built p.names.now compiled l old new goals in
    let c = subst P found is.is in
    let j = subst Q same i in
    let b = j.goals_are f r k.clause c in
    record {
      terms = b.terms ∙ ap (λ rs. body_instance k.clause rs (old.variables - 1)) is.places_are;
      variables = j.variables ∙ ap (λ n. old.variables + n) c.fresh_variables;
      kept = b.kept;
    }

-- the clause at a place is the candidate's
candidate_there : {N : Type 0} (f : N → List ℕ) (h : Held N) (p : Predicate N) (place : ℕ) (places : List (Place N)) (x : CompiledClause) (k : Candidate) → x ≡ slice_index_or p.clauses.now place x → IsCandidate f h p place places k → IsCompiled (map f p.names.now) x k.clause
candidate_there {N = N} f h p place places x k here is =
    let P : CompiledClause → Type 0 = λ c. IsCompiled (map f p.names.now) c k.clause in
    subst P (sym (here ∙ at_place p.clauses.now place x is.compiled is.at)) is.is

pub priorities_there : {N : Type 0} (f : N → List ℕ) (h : Held N) (p : Predicate N) (place : ℕ) (places : List (Place N)) (x : CompiledClause) (k : Candidate) (found : List (Option ℕ)) → x ≡ slice_index_or p.clauses.now place x → found ≡ x.priorities.items → IsCandidate f h p place places k → found ≡ body_priorities k.clause
priorities_there f h p place places x k found here own is = own ∙ (candidate_there f h p place places x k here is).priorities

pub needs_there : {N : Type 0} (f : N → List ℕ) (h : Held N) (p : Predicate N) (place : ℕ) (places : List (Place N)) (x : CompiledClause) (k : Candidate) (goals : ℕ) → x ≡ slice_index_or p.clauses.now place x → goals ≡ length x.priorities.items → IsCandidate f h p place places k →
    AreNeeds k.clause (record { goals = goals; variables = x.fresh_variables; nodes = x.nodes })
needs_there f h p place places x k goals here own is =
    let c = candidate_there f h p place places x k here is in
    record { goals = own ∙ ap length c.priorities ∙ length-map k.clause.body (λ g. g.priority); variables = c.fresh_variables; nodes = c.nodes }
