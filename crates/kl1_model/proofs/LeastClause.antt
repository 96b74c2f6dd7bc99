-- Which clause a call takes, by its candidates.
use Rattle.std.proofs.Common.{◌≡◌, ℕ, suc, ◌≤◌, ◌==◌, ◌&&◌, Bool, true, false, if◌then◌else◌, List, [], ◌∷◌, ◌++◌, map, refl, sym, ap, ◌∙◌, arith}
use Rattle.std.specs.Prelude.{Option, Some, None, is_some, find, option_map}
use Rattle.std.specs.List.{list_all}
use Rattle.std.proofs.lemmas.Bool.{cond-true, cond-false, eq-eqb, ne_eqb}
use Rattle.kl1_model.specs.declared.rules.Rules.{Rules}
use Rattle.kl1_model.specs.Term.{Term, Terms, Replacement}
use Rattle.kl1_model.specs.Module.{Clause, Module}
use Rattle.kl1_model.specs.Match.{Answer, yes, no, wait, Call, call_of, clauses_of, Candidate, candidate_by, fails, is_no, places_of, verdict}
use Rattle.kl1_model.specs.code.Sections.{candidates_within, candidates_from}
use Rattle.kl1_model.specs.Reduction.{Move, commits, raises, failure, term_move, built_in_move}
use Rattle.kl1_model.specs.code.Waits.{term_clause, by_answer, least_within, least_from, least_clause, call_clauses}
use Rattle.kl1_model.proofs.SectionRuns.{candidates_walked}

-- the number of the first candidate
abbrev pub first_number : List Candidate → Option ℕ
first_number [] = None
first_number (k ∷ ks) = Some k.number

-- whether the verdict of each clause is no
abbrev pub all_no : List Clause → Terms → Bool
all_no cs ts = list_all (λ c. is_no (verdict c ts)) cs

abbrev chosen_from : Bool → List Candidate → Option ℕ
chosen_from rejected ks = if rejected then Some 0 else first_number ks

by_verdict_within : (n : ℕ) (c : Clause) (ps : List Replacement) (ks : List Candidate) (r : Option ℕ) (v : Answer) → r ≡ first_number ks → by_answer (Some n) r r v ≡ first_number (candidate_by n c ps v ++ ks)
by_verdict_within n c ps ks r yes e = refl
by_verdict_within n c ps ks r no e = e
by_verdict_within n c ps ks r (wait vs) e = e

within_if : (b : Bool) (m : Option ℕ) (ks : List Candidate) → m ≡ first_number ks → (if b then m else None) ≡ first_number (if b then ks else [])
within_if true m ks e = e
within_if false m ks e = refl

pub least-within : (section n : ℕ) (cs : List Clause) (ts : Terms) → least_within section n cs ts ≡ first_number (candidates_within section n cs ts)
least-within section n [] ts = refl
least-within section n (c ∷ cs) ts =
    let later = least_within section (suc n) cs ts in
    let ks = candidates_within section (suc n) cs ts in
    within_if (c.section == section) (by_answer (Some n) later later (verdict c ts)) (candidate_by n c (places_of c ts) (verdict c ts) ++ ks) (by_verdict_within n c (places_of c ts) ks later (verdict c ts) (least-within section (suc n) cs ts))

-- the first clause whose verdict isn't no is of its own section
within_first : (n : ℕ) (c : Clause) (cs : List Clause) (ts : Terms) → candidates_within c.section n (c ∷ cs) ts ≡ candidate_by n c (places_of c ts) (verdict c ts) ++ candidates_within c.section (suc n) cs ts
within_first n c cs ts = cond-true (c.section == c.section) (candidate_by n c (places_of c ts) (verdict c ts) ++ candidates_within c.section (suc n) cs ts) [] (eq-eqb c.section c.section refl)

by_verdict : (rest : Bool) (n : ℕ) (c : Clause) (ps : List Replacement) (ks js : List Candidate) (r w : Option ℕ) (v : Answer) → r ≡ chosen_from rest ks → w ≡ first_number js →
    by_answer (Some n) r w v ≡ chosen_from (is_no v && rest) (if is_no v then ks else candidate_by n c ps v ++ js)
by_verdict rest n c ps ks js r w yes e f = refl
by_verdict rest n c ps ks js r w no e f = e
by_verdict rest n c ps ks js r w (wait vs) e f = f

pub least-chosen : (n : ℕ) (cs : List Clause) (ts : Terms) → least_from n cs ts ≡ chosen_from (all_no cs ts) (candidates_from n cs ts)
least-chosen n [] ts = refl
least-chosen n (c ∷ cs) ts =
    by_verdict (all_no cs ts) n c (places_of c ts) (candidates_from (suc n) cs ts) (candidates_within c.section (suc n) cs ts) (least_from (suc n) cs ts) (least_within c.section (suc n) cs ts) (verdict c ts) (least-chosen (suc n) cs ts) (least-within c.section (suc n) cs ts)
    ∙ ap (λ ks. chosen_from (is_no (verdict c ts) && all_no cs ts) (if is_no (verdict c ts) then candidates_from (suc n) cs ts else ks)) (sym (within_first n c cs ts))

-- the numbers of candidates are not below that of the first clause
abbrev pub AreFrom : ℕ → List Candidate → Type 0
AreFrom n [] = Unit {0}
AreFrom n (k ∷ ks) = (n ≤ k.number) × AreFrom n ks

from_lower : (m n : ℕ) (ks : List Candidate) → m ≤ n → AreFrom n ks → AreFrom m ks
from_lower m n [] le a = tt
from_lower m n (k ∷ ks) le a = (let p = a.0 in omega arith, from_lower m n ks le a.1)

from_by : (n : ℕ) (c : Clause) (ps : List Replacement) (ks : List Candidate) (v : Answer) → AreFrom (suc n) ks → AreFrom n (candidate_by n c ps v ++ ks)
from_by n c ps ks yes a = (omega arith, from_lower n (suc n) ks (omega arith) a)
from_by n c ps ks no a = from_lower n (suc n) ks (omega arith) a
from_by n c ps ks (wait vs) a = from_lower n (suc n) ks (omega arith) a

from_if : (b : Bool) (n : ℕ) (ks : List Candidate) → AreFrom n ks → AreFrom n (if b then ks else [])
from_if true n ks a = a
from_if false n ks a = tt

pub are_from_within : (section n : ℕ) (cs : List Clause) (ts : Terms) → AreFrom n (candidates_within section n cs ts)
are_from_within section n [] ts = tt
are_from_within section n (c ∷ cs) ts =
    from_if (c.section == section) n (candidate_by n c (places_of c ts) (verdict c ts) ++ candidates_within section (suc n) cs ts) (from_by n c (places_of c ts) (candidates_within section (suc n) cs ts) (verdict c ts) (are_from_within section (suc n) cs ts))

from_either : (b : Bool) (n : ℕ) (ks js : List Candidate) → AreFrom n ks → AreFrom n js → AreFrom n (if b then ks else js)
from_either true n ks js a l = a
from_either false n ks js a l = l

pub are_from : (n : ℕ) (cs : List Clause) (ts : Terms) → AreFrom n (candidates_from n cs ts)
are_from n [] ts = tt
are_from n (c ∷ cs) ts =
    from_either (is_no (verdict c ts)) n (candidates_from (suc n) cs ts) (candidates_within c.section n (c ∷ cs) ts)
    (from_lower n (suc n) (candidates_from (suc n) cs ts) (omega arith) (are_from (suc n) cs ts))
    (are_from_within c.section n (c ∷ cs) ts)

-- ---- the least clause

some-if : (b : Bool) (m : Move) → is_some (if b then Some m else None) ≡ b
some-if true m = refl
some-if false m = refl

-- what a call can do by a number, of its candidates
abbrev moves_by : Bool → List Candidate → ℕ → Option Move
moves_by failed ks clause = if clause == 0 then (if failed then Some (raises failure) else None) else option_map (λ k. commits k) (find (λ k. k.number == clause) ks)

first_moves : (failed : Bool) (k : Candidate) (ks : List Candidate) → 1 ≤ k.number → is_some (moves_by failed (k ∷ ks) k.number) ≡ true
first_moves failed k ks le =
    ap is_some
    (cond-false (k.number == 0) (if failed then Some (raises failure) else None) (option_map (λ q. commits q) (find (λ q. q.number == k.number) (k ∷ ks))) (ne_eqb k.number 0 (λ e. omega arith))
    ∙ ap (λ o. option_map (λ q. commits q) o) (cond-true (k.number == k.number) (Some k) (find (λ q. q.number == k.number) ks) (eq-eqb k.number k.number refl)))

found_first : (failed : Bool) (ks : List Candidate) → AreFrom 1 ks → find (λ clause. is_some (moves_by failed ks clause)) (map (λ k. k.number) ks) ≡ first_number ks
found_first failed [] a = refl
found_first failed (k ∷ ks) a =
    cond-true (is_some (moves_by failed (k ∷ ks) k.number)) (Some k.number) (find (λ clause. is_some (moves_by failed (k ∷ ks) clause)) (map (λ q. q.number) ks)) (first_moves failed k ks a.0)

clause_found : (failed : Bool) (ks : List Candidate) → AreFrom 1 ks → find (λ clause. is_some (moves_by failed ks clause)) (0 ∷ map (λ k. k.number) ks) ≡ (if failed then Some 0 else first_number ks)
clause_found true ks a = refl
clause_found false ks a = found_first false ks a

pub term_clause-call : (rules : Rules) (modules : List Module) (t : Term) (k : Call) → call_of t ≡ Some k → term_clause rules modules t ≡ least_clause (clauses_of modules k) k.arguments
term_clause-call rules modules t k e =
    ap (λ o. find (λ clause. is_some (term_move rules modules t clause o)) (0 ∷ call_clauses modules o)) e
    ∙ ap (λ ks. find (λ clause. is_some (moves_by (fails modules k) ks clause)) (0 ∷ map (λ q. q.number) ks)) (candidates_walked modules k)
    ∙ clause_found (fails modules k) (candidates_from 1 (clauses_of modules k) k.arguments) (are_from 1 (clauses_of modules k) k.arguments)
    ∙ sym (least-chosen 1 (clauses_of modules k) k.arguments)

pub term_clause-built_in : (rules : Rules) (modules : List Module) (t : Term) (m : Move) → call_of t ≡ None → built_in_move rules t ≡ Some m → term_clause rules modules t ≡ Some 0
term_clause-built_in rules modules t m e b =
    ap (λ o. find (λ clause. is_some (term_move rules modules t clause o)) (0 ∷ call_clauses modules o)) e ∙ ap (λ q. find (λ clause. is_some (if clause == 0 then q else None)) (0 ∷ [])) b

pub term_clause-none : (rules : Rules) (modules : List Module) (t : Term) → call_of t ≡ None → built_in_move rules t ≡ None → term_clause rules modules t ≡ None
term_clause-none rules modules t e b =
    ap (λ o. find (λ clause. is_some (term_move rules modules t clause o)) (0 ∷ call_clauses modules o)) e ∙ ap (λ q. find (λ clause. is_some (if clause == 0 then q else None)) (0 ∷ [])) b
