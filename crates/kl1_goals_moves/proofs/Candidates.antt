-- Candidates by number, and calls that fail.
use Rattle.std.proofs.Common.{◌≡◌, ℕ, suc, ◌+◌, ◌<◌, ◌≤◌, ◌==◌, Bool, true, false, if◌then◌else◌, List, [], ◌∷◌, ◌++◌, length, refl, sym, ap, ◌∙◌, arith}
use Rattle.std.specs.Prelude.{Option, Some, None, option_map}
use Rattle.std.proofs.lemmas.Bool.{cond-true, cond-false, eq-eqb, ne_eqb}
use Rattle.kl1_model.specs.declared.rules.Rules.{Rules}
use Rattle.kl1_model.specs.Term.{Term, Terms, Replacement}
use Rattle.kl1_model.specs.Module.{Clause, Module}
use Rattle.kl1_model.specs.Match as model
use Rattle.kl1_model.specs.Match.{Answer, yes, no, wait, call_of, clauses_of, Candidate, candidate_by, candidates_of, fails, is_no, places_of, verdict}
use Rattle.kl1_model.specs.code.Sections.{candidates_within, candidates_from}
use Rattle.kl1_model.specs.Reduction as model_moves
use Rattle.kl1_model.specs.Reduction.{commits, raises, failure, term_move, call_move, built_in_move}
use Rattle.kl1_model.specs.code.Waits.{move_by, least_clause}
use Rattle.kl1_model.proofs.SectionRuns.{candidates_walked}
use Rattle.kl1_model.proofs.LeastClause.{AreFrom, are_from, first_number, least-chosen}
use Rattle.kl1_match_verdict.specs.Candidates.{numbered}
use Rattle.kl1_goals_moves.specs.Shapes.{IsNoGoal}

behind_front : (j n : ℕ) (c : Clause) (ps : List Replacement) (ks : List Candidate) (v : Answer) → n < j → numbered j (candidate_by n c ps v ++ ks) ≡ numbered j ks
behind_front j n c ps ks yes lt = cond-false (n == j) (Some (record { number = n; clause = c; places = ps })) (numbered j ks) (ne_eqb n j (λ e. absurd (omega (arith, lt, e))))
behind_front j n c ps ks no lt = refl
behind_front j n c ps ks (wait vs) lt = refl

-- after all clauses there is no candidate
none_within : (section j n : ℕ) (cs : List Clause) (ts : Terms) → n + length cs ≤ j → numbered j (candidates_within section n cs ts) ≡ None
none_within section j n [] ts le = refl
none_within section j n (c ∷ cs) ts le = by (c.section == section) (none_within section j (suc n) cs ts (omega (arith, le)))
  where
    by : (b : Bool) → numbered j (candidates_within section (suc n) cs ts) ≡ None → numbered j (if b then candidate_by n c (places_of c ts) (verdict c ts) ++ candidates_within section (suc n) cs ts else []) ≡ None
    by true next = behind_front j n c (places_of c ts) (candidates_within section (suc n) cs ts) (verdict c ts) (omega (arith, le)) ∙ next
    by false next = refl

pub none_behind : (j n : ℕ) (cs : List Clause) (ts : Terms) → n + length cs ≤ j → numbered j (candidates_from n cs ts) ≡ None
none_behind j n [] ts le = refl
none_behind j n (c ∷ cs) ts le = by (is_no (verdict c ts)) (none_behind j (suc n) cs ts (omega (arith, le)))
  where
    by : (b : Bool) → numbered j (candidates_from (suc n) cs ts) ≡ None → numbered j (if b then candidates_from (suc n) cs ts else candidates_within c.section n (c ∷ cs) ts) ≡ None
    by true next = next
    by false next = none_within c.section j n (c ∷ cs) ts le

-- what a call can do by a number above 0
by_number : (modules : List Module) (k : model.Call) (number : ℕ) → 0 < number → call_move modules k number ≡ option_map (λ q. commits q) (numbered number (candidates_from 1 (clauses_of modules k) k.arguments))
by_number modules k number some =
    cond-false (number == 0) (if fails modules k then Some (raises failure) else None) (option_map (λ q. commits q) (numbered number (candidates_of modules k))) (ne_eqb number 0 (λ e. absurd (omega (arith, some, e))))
    ∙ ap (λ ks. option_map (λ q. commits q) (numbered number ks)) (candidates_walked modules k)

fails_then : (b : Bool) (ks : List Candidate) → AreFrom 1 ks → (if b then Some 0 else first_number ks) ≡ Some 0 → b ≡ true
fails_then true ks a e = refl
fails_then false [] a e = absurd (cc)
fails_then false (k ∷ ks) a e = let z : k.number ≡ 0 = cc in let le = a.0 in absurd (omega arith)

fails_not : (b : Bool) (ks : List Candidate) → ((if b then Some 0 else first_number ks) ≡ Some 0 → ⊥) → b ≡ false
fails_not true ks ne = absurd (ne refl)
fails_not false ks ne = refl

call_fails : (modules : List Module) (k : model.Call) → least_clause (clauses_of modules k) k.arguments ≡ Some 0 → call_move modules k 0 ≡ Some (raises failure)
call_fails modules k e =
    cond-true (fails modules k) (Some (raises failure)) None
    (fails_then (fails modules k) (candidates_from 1 (clauses_of modules k) k.arguments) (are_from 1 (clauses_of modules k) k.arguments) (sym (least-chosen 1 (clauses_of modules k) k.arguments) ∙ e))

call_goes_on : (modules : List Module) (k : model.Call) → (least_clause (clauses_of modules k) k.arguments ≡ Some 0 → ⊥) → call_move modules k 0 ≡ None
call_goes_on modules k ne =
    cond-false (fails modules k) (Some (raises failure)) None
    (fails_not (fails modules k) (candidates_from 1 (clauses_of modules k) k.arguments) (λ q. ne (least-chosen 1 (clauses_of modules k) k.arguments ∙ q)))

move_by-call : (rules : Rules) (modules : List Module) (t : Term) (k : model.Call) (n : ℕ) → call_of t ≡ Some k → move_by rules modules t n ≡ call_move modules k n
move_by-call rules modules t k n e = ap (term_move rules modules t n) e

pub fails_by : (rules : Rules) (modules : List Module) (t : Term) (k : model.Call) (n : ℕ) → call_of t ≡ Some k → n ≡ 0 → least_clause (clauses_of modules k) k.arguments ≡ Some 0 → move_by rules modules t n ≡ Some (raises failure)
fails_by rules modules t k n e z l = move_by-call rules modules t k n e ∙ ap (call_move modules k) z ∙ call_fails modules k l

pub goes_on_by : (rules : Rules) (modules : List Module) (t : Term) (k : model.Call) (n : ℕ) → call_of t ≡ Some k → n ≡ 0 → (least_clause (clauses_of modules k) k.arguments ≡ Some 0 → ⊥) → move_by rules modules t n ≡ None
goes_on_by rules modules t k n e z l = move_by-call rules modules t k n e ∙ ap (call_move modules k) z ∙ call_goes_on modules k l

pub commits_by : (rules : Rules) (modules : List Module) (t : Term) (k : model.Call) (n : ℕ) (o : Option Candidate) → call_of t ≡ Some k → 0 < n → numbered n (candidates_from 1 (clauses_of modules k) k.arguments) ≡ o → move_by rules modules t n ≡ option_map (λ q. commits q) o
commits_by rules modules t k n o e lt c = move_by-call rules modules t k n e ∙ by_number modules k n lt ∙ ap (λ x. option_map (λ q. commits q) x) c

-- ---- goals that are no calls

pub by_zero : (rules : Rules) (modules : List Module) (t : Term) (n : ℕ) (o : Option model_moves.Move) → call_of t ≡ None → built_in_move rules t ≡ o → n ≡ 0 → move_by rules modules t n ≡ o
by_zero rules modules t n o e b z = ap (term_move rules modules t n) e ∙ cond-true (n == 0) (built_in_move rules t) None (eq-eqb n 0 z) ∙ b

pub by_other : (rules : Rules) (modules : List Module) (t : Term) (n : ℕ) → call_of t ≡ None → (n ≡ 0 → ⊥) → move_by rules modules t n ≡ None
by_other rules modules t n e z = ap (term_move rules modules t n) e ∙ cond-false (n == 0) (built_in_move rules t) None (ne_eqb n 0 z)

pub by_none : (rules : Rules) (modules : List Module) (t : Term) (vs : List ℕ) (n : ℕ) → IsNoGoal t vs → move_by rules modules t n ≡ None
by_none rules modules t vs n g = ap (term_move rules modules t n) g.call ∙ none_either (n == 0) (g.built_in rules)
  where
    none_either : (b : Bool) → built_in_move rules t ≡ None → (if b then built_in_move rules t else None) ≡ None
    none_either true e = e
    none_either false e = refl
