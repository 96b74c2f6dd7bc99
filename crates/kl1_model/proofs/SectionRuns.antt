-- The walk along the clauses gives the candidates of the first section in which some clause doesn't reject.
use Rattle.std.proofs.Common.{◌≡◌, ℕ, suc, ◌+◌, ◌==◌, ◌||◌, not, Bool, true, false, if◌then◌else◌, List, [], ◌∷◌, ◌++◌, refl, sym, ap, ◌∙◌, arith}
use Rattle.std.specs.Prelude.{Option, Some, None, find, flat_map, unwrap_or}
use Rattle.std.specs.List.{list_any, enumerate_from, onto_first}
use Rattle.std.proofs.lemmas.Bool.{cond-true, cond-false, eq-eqb, eqb-true, ne_eqb, false≢true}
use Rattle.kl1_model.specs.Term.{Terms, Replacement}
use Rattle.kl1_model.specs.Module.{Clause, Module}
use Rattle.kl1_model.specs.Match.{Answer, yes, no, wait, Call, clauses_of, Candidate, candidate_by, candidates_of, is_no, places_of, sections_of, verdict}
use Rattle.kl1_model.specs.code.Sections.{candidates_within, candidates_from}

-- a clause with its number
abbrev Numbered : Type 0
Numbered = ℕ × Clause

-- a clause as a candidate, if it accepts
abbrev accepted : Terms → Numbered → List Candidate
accepted ts c = candidate_by c.0 c.1 (places_of c.1 ts) (verdict c.1 ts)

-- whether some clause of a section doesn't reject
abbrev is_open : Terms → List Numbered → Bool
is_open ts run = list_any (λ c. not (is_no (verdict c.1 ts))) run

-- the candidates of the first section that is open
abbrev chosen : Terms → List (List Numbered) → List Candidate
chosen ts runs = flat_map (accepted ts) (unwrap_or (find (is_open ts) runs) [])

-- the first section
abbrev front : List (List Numbered) → List Numbered
front [] = []
front (run ∷ runs) = run

-- a clause before others, in one section with the first of them or in another
abbrev before : Bool → Numbered → List (List Numbered) → List (List Numbered)
before b x runs = if b then onto_first x runs else (x ∷ []) ∷ runs

none_by : (n : ℕ) (c : Clause) (ps : List Replacement) (v : Answer) → is_no v ≡ true → candidate_by n c ps v ≡ []
none_by n c ps yes e = absurd (false≢true e)
none_by n c ps no e = refl
none_by n c ps (wait vs) e = absurd (false≢true e)

one_more : (b : Bool) (f : Numbered → List Candidate) (x : Numbered) (run : List Numbered) (o : Option (List Numbered)) → f x ≡ [] → flat_map f (unwrap_or (if b then Some (x ∷ run) else o) []) ≡ flat_map f (unwrap_or (if b then Some run else o) [])
one_more true f x run o e = ap (λ (ks : List Candidate). ks ++ flat_map f run) e
one_more false f x run o e = refl

-- a clause that rejects gives nothing
rejecting_joins : (ts : Terms) (x : Numbered) (runs : List (List Numbered)) → is_no (verdict x.1 ts) ≡ true → chosen ts (onto_first x runs) ≡ chosen ts runs
rejecting_joins ts x [] e = ap (λ b. flat_map (accepted ts) (unwrap_or (if not b || false then Some (x ∷ []) else None) [])) e
rejecting_joins ts x (run ∷ runs) e =
    ap (λ b. flat_map (accepted ts) (unwrap_or (if not b || is_open ts run then Some (x ∷ run) else find (is_open ts) runs) [])) e
    ∙ one_more (is_open ts run) (accepted ts) x run (find (is_open ts) runs) (none_by x.0 x.1 (places_of x.1 ts) (verdict x.1 ts) e)

rejecting : (ts : Terms) (b : Bool) (x : Numbered) (runs : List (List Numbered)) → is_no (verdict x.1 ts) ≡ true → chosen ts (before b x runs) ≡ chosen ts runs
rejecting ts true x runs e = rejecting_joins ts x runs e
rejecting ts false x runs e = ap (λ b. flat_map (accepted ts) (unwrap_or (if not b || false then Some (x ∷ []) else find (is_open ts) runs) [])) e

-- one that doesn't opens its section
standing_joins : (ts : Terms) (x : Numbered) (runs : List (List Numbered)) → is_no (verdict x.1 ts) ≡ false → chosen ts (onto_first x runs) ≡ accepted ts x ++ flat_map (accepted ts) (front runs)
standing_joins ts x [] e = ap (λ b. flat_map (accepted ts) (unwrap_or (if not b || false then Some (x ∷ []) else None) [])) e
standing_joins ts x (run ∷ runs) e = ap (λ b. flat_map (accepted ts) (unwrap_or (if not b || is_open ts run then Some (x ∷ run) else find (is_open ts) runs) [])) e

standing : (ts : Terms) (b : Bool) (x : Numbered) (runs : List (List Numbered)) → is_no (verdict x.1 ts) ≡ false → chosen ts (before b x runs) ≡ accepted ts x ++ flat_map (accepted ts) (front (if b then runs else []))
standing ts true x runs e = standing_joins ts x runs e
standing ts false x runs e = ap (λ b. flat_map (accepted ts) (unwrap_or (if not b || false then Some (x ∷ []) else find (is_open ts) runs) [])) e

front_before : (b : Bool) (x : Numbered) (runs : List (List Numbered)) → front (before b x runs) ≡ x ∷ front (if b then runs else [])
front_before true x [] = refl
front_before true x (run ∷ runs) = refl
front_before false x runs = refl

within_first : (n : ℕ) (c : Clause) (cs : List Clause) (ts : Terms) → candidates_within c.section n (c ∷ cs) ts ≡ candidate_by n c (places_of c ts) (verdict c ts) ++ candidates_within c.section (suc n) cs ts
within_first n c cs ts = cond-true (c.section == c.section) (candidate_by n c (places_of c ts) (verdict c ts) ++ candidates_within c.section (suc n) cs ts) [] (eq-eqb c.section c.section refl)

-- the clauses after one that are of its section
next_within : (ts : Terms) (n : ℕ) (c d : Clause) (cs : List Clause) (runs : List (List Numbered)) (b : Bool) → c.section == d.section ≡ b → flat_map (accepted ts) (front runs) ≡ candidates_within d.section (suc n) (d ∷ cs) ts →
    flat_map (accepted ts) (front (if b then runs else [])) ≡ candidates_within c.section (suc n) (d ∷ cs) ts
next_within ts n c d cs runs true e is = is ∙ ap (λ s. candidates_within s (suc n) (d ∷ cs) ts) (sym (eqb-true c.section d.section e))
next_within ts n c d cs runs false e is =
    sym
    (cond-false (d.section == c.section) (candidate_by (suc n) d (places_of d ts) (verdict d ts) ++ candidates_within c.section (suc (suc n)) cs ts) []
    (ne_eqb d.section c.section (λ same. false≢true (sym e ∙ eq-eqb c.section d.section (sym same)))))

-- the first section is that of the first clause
run_within : (ts : Terms) (n : ℕ) (c : Clause) (cs : List Clause) → flat_map (accepted ts) (front (sections_of (enumerate_from n (c ∷ cs)))) ≡ candidates_within c.section n (c ∷ cs) ts
run_within ts n c [] = sym (within_first n c [] ts)
run_within ts n c (d ∷ ds) =
    let one : n + 1 ≡ suc n = omega arith in
    let runs = sections_of (enumerate_from (n + 1) (d ∷ ds)) in
    ap (flat_map (accepted ts)) (front_before (c.section == d.section) (n, c) runs)
    ∙ ap (λ (ks : List Candidate). accepted ts (n, c) ++ ks)
    (next_within ts n c d ds runs (c.section == d.section) refl (run_within ts (n + 1) d ds ∙ ap (λ m. candidates_within d.section m (d ∷ ds) ts) one))
    ∙ sym (within_first n c (d ∷ ds) ts)

-- the walk, of all lists of clauses
pub walked : (ts : Terms) (n : ℕ) (cs : List Clause) → chosen ts (sections_of (enumerate_from n cs)) ≡ candidates_from n cs ts
walked ts n [] = refl
walked ts n (c ∷ []) = by (is_no (verdict c ts)) refl
  where
    by : (b : Bool) → is_no (verdict c ts) ≡ b → chosen ts (((n, c) ∷ []) ∷ []) ≡ candidates_from n (c ∷ []) ts
    by true e = rejecting ts false (n, c) [] e ∙ sym (cond-true (is_no (verdict c ts)) (candidates_from (suc n) [] ts) (candidates_within c.section n (c ∷ []) ts) e)
    by false e = standing ts false (n, c) [] e ∙ sym (within_first n c [] ts) ∙ sym (cond-false (is_no (verdict c ts)) (candidates_from (suc n) [] ts) (candidates_within c.section n (c ∷ []) ts) e)
walked ts n (c ∷ d ∷ ds) = by (is_no (verdict c ts)) refl (walked ts (n + 1) (d ∷ ds))
  where
    one : n + 1 ≡ suc n
    one = omega arith

    runs : List (List Numbered)
    runs = sections_of (enumerate_from (n + 1) (d ∷ ds))

    by : (b : Bool) → is_no (verdict c ts) ≡ b → chosen ts runs ≡ candidates_from (n + 1) (d ∷ ds) ts → chosen ts (before (c.section == d.section) (n, c) runs) ≡ candidates_from n (c ∷ d ∷ ds) ts
    by true e rest =
        rejecting ts (c.section == d.section) (n, c) runs e
        ∙ rest
        ∙ ap (λ m. candidates_from m (d ∷ ds) ts) one
        ∙ sym (cond-true (is_no (verdict c ts)) (candidates_from (suc n) (d ∷ ds) ts) (candidates_within c.section n (c ∷ d ∷ ds) ts) e)
    by false e rest =
        standing ts (c.section == d.section) (n, c) runs e
        ∙ ap (λ (ks : List Candidate). accepted ts (n, c) ++ ks)
        (next_within ts n c d ds runs (c.section == d.section) refl (run_within ts (n + 1) d ds ∙ ap (λ m. candidates_within d.section m (d ∷ ds) ts) one))
        ∙ sym (within_first n c (d ∷ ds) ts)
        ∙ sym (cond-false (is_no (verdict c ts)) (candidates_from (suc n) (d ∷ ds) ts) (candidates_within c.section n (c ∷ d ∷ ds) ts) e)

-- the candidates of a call are those that the walk finds
pub candidates_walked : (modules : List Module) (call : Call) → candidates_of modules call ≡ candidates_from 1 (clauses_of modules call) call.arguments
candidates_walked modules call = walked call.arguments 1 (clauses_of modules call)
