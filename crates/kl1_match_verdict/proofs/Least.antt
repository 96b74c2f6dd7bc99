-- The least clause that accepts, among the candidates.
use Rattle.std.proofs.Common.{◌≡◌, ℕ, zero, suc, ◌+◌, ◌<◌, ◌==◌, Bool, true, false, if◌then◌else◌, List, [], ◌∷◌, ◌++◌, length, map, drop, get_or, refl, sym, ap, ◌∙◌, arith}
use Rattle.std.specs.Prelude.{Option, Some, None}
use Rattle.std.proofs.lemmas.Bool.{cond-true, eq-eqb}
use Rattle.kl1_model.specs.declared.built_in.BuiltIn.{BuiltIn}
use Rattle.kl1_model.specs.Term.{Terms, Replacement}
use Rattle.kl1_model.specs.Module.{Clause}
use Rattle.kl1_model.specs.Match.{Candidate, candidate_by, is_no, places_of, verdict, Match, match_patterns, each_answer, guard_answer}
use Rattle.kl1_model.specs.code.Sections.{candidates_within, candidates_from}
use Rattle.kl1_model.specs.Answer.{Answer, yes, no, wait, together}
use Rattle.kl1_model.proofs.LeastClause.{first_number, all_no, least-chosen, are_from, are_from_within}
use Rattle.kl1_store.specs.declared.cell.Cell.{Cell}
use Rattle.kl1_store.specs.Held.{Held}
use Rattle.kl1_store.specs.Meaning.{term_of}
use Rattle.kl1_clause.specs.declared.compiled_clause.CompiledClause.{CompiledClause}
use Rattle.kl1_match.specs.declared.place.Place.{Place}
use Rattle.kl1_match.specs.declared.verdict.Verdict.{Verdict}
use Rattle.kl1_match.specs.declared.verdict.Verdict.TheVariants.{Accepts, Rejects, Suspends}
use Rattle.kl1_match.specs.Instances.{replacements_of}
use Rattle.kl1_match.specs.Verdicts.{arguments_of_goal, GivesMatch, IsTried}
use Rattle.kl1_match_verdict.specs.Candidates.{numbered, TakesLeast}
use Rattle.kl1_match_verdict.proofs.Choosing.{there}
use Rattle.kl1_match_verdict.proofs.Candidates.{first_of, none_numbered, at_front, behind_front, same_first}

-- ---- candidates by their numbers

-- what the clause makes a candidate numbered `j`
abbrev made_by : ℕ → Clause → Terms → Option Candidate
made_by j c ts = first_of (candidate_by j c (places_of c ts) (verdict c ts))

none_there : (x : Candidate) → None ≡ Some x → ⊥
none_there x e = absurd (cc)

-- the candidate with a number is what the clause there makes
made_within : (j k n s : ℕ) (cs rest : List Clause) (c : Clause) (ts : Terms) (x : Candidate) → drop k cs ≡ c ∷ rest → j ≡ n + k → numbered j (candidates_within s n cs ts) ≡ Some x → made_by j c ts ≡ Some x
made_within j zero n s [] rest c ts x e is found = absurd (cc)
made_within j (suc k) n s [] rest c ts x e is found = absurd (cc)
made_within j zero n s (d ∷ ds) rest c ts x e is found = by (d.section == s) found
  where
    later : List Candidate
    later = candidates_within s (suc n) ds ts

    by : (b : Bool) → numbered j (if b then candidate_by n d (places_of d ts) (verdict d ts) ++ later else []) ≡ Some x → made_by j c ts ≡ Some x
    by true q = ap (λ y. made_by j y ts) (sym (same_first e)) ∙ sym (at_front j n d (places_of d ts) later (verdict d ts) (omega (arith, is)) (are_from_within s (suc n) ds ts)) ∙ q
    by false q = absurd (cc)
made_within j (suc k) n s (d ∷ ds) rest c ts x e is found = by (d.section == s) (made_within j k (suc n) s ds rest c ts x e (omega (arith, is))) found
  where
    later : List Candidate
    later = candidates_within s (suc n) ds ts

    by : (b : Bool) → (numbered j later ≡ Some x → made_by j c ts ≡ Some x) → numbered j (if b then candidate_by n d (places_of d ts) (verdict d ts) ++ later else []) ≡ Some x → made_by j c ts ≡ Some x
    by true next q = next (sym (behind_front j n d (places_of d ts) later (verdict d ts) (omega (arith, is))) ∙ q)
    by false next q = absurd (cc)

made_from : (j k n : ℕ) (cs rest : List Clause) (c : Clause) (ts : Terms) (x : Candidate) → drop k cs ≡ c ∷ rest → j ≡ n + k → numbered j (candidates_from n cs ts) ≡ Some x → made_by j c ts ≡ Some x
made_from j zero n [] rest c ts x e is found = absurd (cc)
made_from j (suc k) n [] rest c ts x e is found = absurd (cc)
made_from j zero n (d ∷ ds) rest c ts x e is found = by (is_no (verdict d ts)) found
  where
    by : (b : Bool) → numbered j (if b then candidates_from (suc n) ds ts else candidates_within d.section n (d ∷ ds) ts) ≡ Some x → made_by j c ts ≡ Some x
    by true q = let none = none_numbered j (suc n) (candidates_from (suc n) ds ts) (omega (arith, is)) (are_from (suc n) ds ts) in absurd (none_there x (sym none ∙ q))
    by false q = made_within j zero n d.section (d ∷ ds) rest c ts x e is q
made_from j (suc k) n (d ∷ ds) rest c ts x e is found = by (is_no (verdict d ts)) (made_from j k (suc n) ds rest c ts x e (omega (arith, is))) found
  where
    by : (b : Bool) → (numbered j (candidates_from (suc n) ds ts) ≡ Some x → made_by j c ts ≡ Some x) → numbered j (if b then candidates_from (suc n) ds ts else candidates_within d.section n (d ∷ ds) ts) ≡ Some x → made_by j c ts ≡ Some x
    by true next q = next q
    by false next q = made_within j (suc k) n d.section (d ∷ ds) rest c ts x e is q

-- ---- the first candidate

-- a candidate with this number is found
record IsFirst (j : ℕ) (ks : List Candidate) : Type 0 where
  pub first : Candidate
  pub found : numbered j ks ≡ Some first

-- the least number of a clause that accepts, if it isn't 0, is that of the first candidate
first_found : (rejected : Bool) (j : ℕ) (ks : List Candidate) → (if rejected then Some 0 else first_number ks) ≡ Some (suc j) → IsFirst (suc j) ks
first_found true j ks e = absurd (cc)
first_found false j [] e = absurd (cc)
first_found false j (k ∷ ks) e = record { first = k; found = cond-true (k.number == suc j) (Some k) (numbered (suc j) ks) (eq-eqb k.number (suc j) (cc)) }

-- a clause that makes a candidate accepts
accepts_if_made : (j : ℕ) (c : Clause) (ps : List Replacement) (v : Answer) (x : Candidate) → first_of (candidate_by j c ps v) ≡ Some x → v ≡ yes
accepts_if_made j c ps yes x e = refl
accepts_if_made j c ps no x e = absurd (cc)
accepts_if_made j c ps (wait vs) x e = absurd (cc)

-- ---- its match agrees

first_agrees : (o p : Answer) → together o p ≡ yes → o ≡ yes
first_agrees yes p e = refl
first_agrees no p e = absurd (cc)
first_agrees (wait vs) yes e = absurd (cc)
first_agrees (wait vs) no e = absurd (cc)
first_agrees (wait vs) (wait ws) e = absurd (cc)

match_agrees : (c : Clause) (ts : Terms) → verdict c ts ≡ yes → (match_patterns c.patterns ts).answer ≡ yes
match_agrees c ts e =
    let m = match_patterns c.patterns ts in
    first_agrees m.answer (each_answer m.places) (first_agrees (together m.answer (each_answer m.places)) (guard_answer m.places c.tests) e)

no_is_not : no ≡ yes → ⊥
no_is_not e = absurd (cc)

-- the places that a match reached are those that are kept, also if it waits
reached : {N : Type 0} (f : N → List ℕ) (h : Held N) (places : List (Place N)) (named : List ℕ) (given : Verdict) (m : Match) → GivesMatch f h places named given m → m.answer ≡ yes → m.places ≡ replacements_of f h places
reached f h places named Accepts m g e = g.1
reached f h places named Rejects m g e = absurd (no_is_not (sym g ∙ e))
reached f h places named Suspends m g e = g.1

module _ {N : Type 0} (built : BuiltIn → N) (names : List N) (clauses : List CompiledClause) (h : Held N) (goal : Cell N) where
  -- what a match alone gives of the clause at a place, if that is the least that accepts
  pub takes_least : (place : ℕ) (x : CompiledClause) (places : List (Place N)) (before after : List ℕ) (given : Verdict) → place < length clauses →
      IsTried built names (get_or clauses place x) h goal places before after given → TakesLeast built names clauses place h goal places
  takes_least place x places before after given lt v = record {
    taken = λ f reads cs a least.
        let ts = arguments_of_goal (term_of f h goal) in
        let t = there (map f names) clauses cs place x a lt in
        let c = t.clause in
        let first = first_found (all_no cs ts) place (candidates_from 1 cs ts) (sym (least-chosen 1 cs ts) ∙ least) in
        let made = made_from (suc place) place 1 cs (drop (suc place) cs) c ts first.first t.left (omega arith) first.found in
        let accepts = accepts_if_made (suc place) c (places_of c ts) (verdict c ts) first.first made in
        let places_are = reached f h places v.named given (match_patterns c.patterns ts) (v.gives f reads c t.is) (match_agrees c ts accepts) in
        record {
          clause = c;
          others = drop (suc place) cs;
          at = t.left;
          found = first.found ∙ sym made ∙ ap (λ w. first_of (candidate_by (suc place) c (places_of c ts) w)) accepts ∙ ap (λ ps. first_of (candidate_by (suc place) c ps yes)) places_are;
        };
  }
