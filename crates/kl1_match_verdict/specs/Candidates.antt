-- Which clause of a predicate is a candidate, by the sections between its `otherwise`s.
use Rattle.std.specs.Prelude.{◌≡◌, ℕ, suc, ◌<◌, ◌≤◌, ◌==◌, Bool, true, false, List, ◌∷◌, map, drop, find, get_or, Option, Some, None}
use Rattle.kl1_model.specs.declared.built_in.BuiltIn.{BuiltIn}
use Rattle.kl1_model.specs.Term.{Terms}
use Rattle.kl1_model.specs.Module.{Clause}
use Rattle.kl1_model.specs.Match.{Candidate}
use Rattle.kl1_model.specs.code.Sections.{candidates_from, candidates_within}
use Rattle.kl1_model.specs.code.Waits.{least_clause}
use Rattle.kl1_text.specs.Reading.{Reads}
use Rattle.kl1_store.specs.declared.cell.Cell.{Cell}
use Rattle.kl1_store.specs.Held.{Held}
use Rattle.kl1_store.specs.Meaning.{term_of}
use Rattle.kl1_clause.specs.declared.compiled_clause.CompiledClause.{CompiledClause}
use Rattle.kl1_clause.specs.Clauses.{AreCompiled}
use Rattle.kl1_match.specs.declared.place.Place.{Place}
use Rattle.kl1_match.specs.declared.scratch.Scratch.{Scratch}
use Rattle.kl1_match.specs.Instances.{AreThere, replacements_of}
use Rattle.kl1_match.specs.Kept.{kept_places}
use Rattle.kl1_match.specs.Verdicts.{arguments_of_goal}

-- the section of the clause at a place
abbrev pub section_at : List CompiledClause → ℕ → ℕ
section_at cs place = get_or (map (λ c. c.section) cs) place 0

-- the clauses from one place to another stand in the section of the last
abbrev pub IsRun : List CompiledClause → ℕ → ℕ → Type 0
IsRun cs start place = (i : ℕ) → start ≤ i → i ≤ place → section_at cs i ≡ section_at cs place

-- the candidate numbered `number`
abbrev pub numbered : ℕ → List Candidate → Option Candidate
numbered number ks = find (λ k. k.number == number) ks

-- the clause at a place is a candidate, with these terms at the places of its head's variables
pub record IsTaken {N : Type 0} (f : N → List ℕ) (h : Held N) (clauses : List CompiledClause) (names : List (List ℕ)) (cs : List Clause) (ts : Terms) (place : ℕ) (places : List (Place N)) : Type 0 where
  pub clause : Clause
  pub others : List Clause
  pub at : drop place cs ≡ clause ∷ others
  pub found : numbered (suc place) (candidates_from 1 cs ts) ≡ Some (record { number = suc place; clause = clause; places = replacements_of f h places })

-- that, or there is no such candidate, if the answer is no
abbrev pub TakenAs : {N : Type 0} → (N → List ℕ) → Held N → List CompiledClause → List (List ℕ) → List Clause → Terms → ℕ → List (Place N) → Bool → Type 0
TakenAs f h clauses names cs ts place places true = IsTaken f h clauses names cs ts place places
TakenAs f h clauses names cs ts place places false = numbered (suc place) (candidates_from 1 cs ts) ≡ None

-- whether a clause is a candidate, for each reading of the names; its places are of the store
pub record Takes {N : Type 0} (built : BuiltIn → N) (names : List N) (clauses : List CompiledClause) (place : ℕ) (h : Held N) (goal : Cell N) (places : List (Place N)) (answer : Bool) : Type 0 where
  pub inside : answer ≡ true → AreThere h places
  pub taken : (f : N → List ℕ) → Reads built f → (cs : List Clause) → AreCompiled (map f names) clauses cs → TakenAs f h clauses (map f names) cs (arguments_of_goal (term_of f h goal)) place places answer

-- if it is the least clause that accepts the goal, for a reading of the names, the clause at a place is a candidate with these terms at the
-- places of its head's variables
pub record TakesLeast {N : Type 0} (built : BuiltIn → N) (names : List N) (clauses : List CompiledClause) (place : ℕ) (h : Held N) (goal : Cell N) (places : List (Place N)) : Type 0 where
  pub taken : (f : N → List ℕ) → Reads built f → (cs : List Clause) → AreCompiled (map f names) clauses cs → least_clause cs (arguments_of_goal (term_of f h goal)) ≡ Some (suc place) →
      IsTaken f h clauses (map f names) cs (arguments_of_goal (term_of f h goal)) place places

-- the places that the scratch keeps, or those in a list
abbrev pub found_places : {N : Type 0} → Bool → Scratch N → List (Place N) → List (Place N)
found_places true scratch places = kept_places scratch
found_places false scratch places = places

-- the first `count` clauses reject, and the candidates are those from there on
abbrev pub AllReject : {N : Type 0} → (BuiltIn → N) → List N → List CompiledClause → Held N → Cell N → ℕ → Type 0
AllReject {N = N} built names clauses h goal count = (f : N → List ℕ) → Reads built f → (cs : List Clause) → AreCompiled (map f names) clauses cs →
    candidates_from 1 cs (arguments_of_goal (term_of f h goal)) ≡ candidates_from (suc count) (drop count cs) (arguments_of_goal (term_of f h goal))

-- one of the first `count` doesn't, and the candidates are those of its section
pub record OneDoesNot {N : Type 0} (built : BuiltIn → N) (names : List N) (clauses : List CompiledClause) (h : Held N) (goal : Cell N) (count : ℕ) : Type 0 where
  pub at : ℕ
  pub below : at < count
  pub within : (f : N → List ℕ) → Reads built f → (cs : List Clause) → AreCompiled (map f names) clauses cs →
      candidates_from 1 cs (arguments_of_goal (term_of f h goal)) ≡ candidates_within (section_at clauses at) (suc at) (drop at cs) (arguments_of_goal (term_of f h goal))

-- whether the first `count` clauses reject
abbrev pub RejectAs : {N : Type 0} → (BuiltIn → N) → List N → List CompiledClause → Held N → Cell N → ℕ → Bool → Type 0
RejectAs built names clauses h goal count true = AllReject built names clauses h goal count
RejectAs built names clauses h goal count false = OneDoesNot built names clauses h goal count
