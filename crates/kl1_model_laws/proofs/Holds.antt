-- What holds of each variable of a goal holds of each variable of what its step makes of it.
use Rattle.std.proofs.Common.{◌≡◌, ℕ, zero, suc, ◌-◌, ◌==◌, ◌&&◌, ◌||◌, Bool, true, false, if◌then◌else◌, List, [], ◌∷◌, ◌++◌, refl, sym, subst}
use Rattle.std.specs.Prelude.{nat_le, find, slice_get, codes, bytes_eq, Option, Some, None, option_map, option_and_then, ⊤}
use Rattle.std.specs.List.{AllByRecursion}
use Rattle.std.proofs.lemmas.Bool.{cond_both, eqb-true, false≢true}
use Rattle.kl1_model.specs.declared.number.Number.{Number}
use Rattle.kl1_model.specs.declared.number.Number.TheVariants.{Value, Overflow, ZeroDivisor}
use Rattle.kl1_model.specs.Term.{Term, variable, integer, atom, structure, Terms, none, more, count_of, occurs, occurs_in, Replacement}
use Rattle.kl1_model.specs.Meaning.{nil}
use Rattle.kl1_model.specs.Arithmetic.{evaluated}
use Rattle.kl1_model.specs.Unify.{Equation, argument_equations, replace_in_all, mgu}
use Rattle.kl1_model.specs.Goal.{is_execute}
use Rattle.kl1_model.specs.Module.{Clause, Module}
use Rattle.kl1_model.specs.Match.{Answer, yes, no, wait, Match, with_answer, match_pattern, match_patterns, term_at, places_of, verdict, Call, call_of, clauses_of, is_no, Candidate, candidate_by, candidates_of, fails}
use Rattle.kl1_model.specs.code.Sections.{candidates_within, candidates_from}
use Rattle.kl1_model.proofs.SectionRuns.{candidates_walked}
use Rattle.kl1_model.specs.Look.{spelling, ExecuteArguments, arguments_look}
use Rattle.kl1_model.specs.declared.rules.Rules.{Rules}
use Rattle.kl1_model.specs.State.{Origin, most_spelled}
use Rattle.kl1_model.specs.Reduction.{Move, commits, raises, unifies, names, opens, goes, gives_way, failure, call_move, becomes, execute_arguments, execute_move, pair_move, built_in_move, term_move, equation, move_found}
use Rattle.kl1_model.specs.code.Steps.{order_move, substitute_move, elements_in}
use Rattle.kl1_model.specs.Asking.{elements_of}
use Rattle.kl1_model.specs.Answering.{asked, asked_at}
use Rattle.kl1_model.specs.Telling.{Asked}
use Rattle.kl1_model.specs.Forgetting.{without_cells}
use Rattle.kl1_model.proofs.UnifySound.{HoldsInEachCase, holds_of_solution}
use Rattle.kl1_model.specs.Found.{Found, found, awaits, wrong}
pub use Rattle.kl1_model_laws.proofs.HoldsTerms.{Holds, HoldsEach, holds_replace, holds_replace_each, holds_weaker, holds_unchanged, holds_substituted, holds_highest, holds_both, listed, holds_positive}

-- ---- unification

-- a fact holds of the variables of equations
abbrev AllHold : (ℕ → Type 0) → List Equation → Type 0
AllHold P es = AllByRecursion (λ e. Holds P e.left × Holds P e.right) es

-- a fact holds of the variables that are replaced, and of those of the terms in their place
abbrev pub EachReplaced : (ℕ → Type 0) → List Replacement → Type 0
EachReplaced P rs = AllByRecursion (λ r. P r.number × Holds P r.by) rs

holds_in_all : (P : ℕ → Type 0) (v : ℕ) (u : Term) (es : List Equation) → Holds P u → AllHold P es → AllHold P (replace_in_all v u es)
holds_in_all P v u [] k h = tt
holds_in_all P v u (e ∷ es) k h = ((holds_replace P v u e.left k h.0.0, holds_replace P v u e.right k h.0.1), holds_in_all P v u es k h.1)

holds_arguments : (P : ℕ → Type 0) (ts us : Terms) (es : List Equation) → HoldsEach P ts → HoldsEach P us → AllHold P es → AllHold P (argument_equations ts us es)
holds_arguments P (more t ts) (more u us) es h k r = ((h.0, k.0), holds_arguments P ts us es h.1 k.1 r)
holds_arguments P _ _ es h k r = r

abbrev SolvedWith : (ℕ → Type 0) → List Equation → List Replacement → Type 0
SolvedWith P es rs = AllHold P es → EachReplaced P rs

solved_with : (P : ℕ → Type 0) → HoldsInEachCase (SolvedWith P)
solved_with P = record {
  done = λ h. tt;
  same = λ t es rs k h. k h.1;
  inner = λ f ts us es rs n k h. k (holds_arguments P ts us es h.0.0 h.0.1 h.1);
  left = λ v t es rs o w k h. ((h.0.0, h.0.1), k (holds_in_all P v t es h.0.1 h.1));
  right = λ v t es rs o w k h. ((h.0.1, h.0.0), k (holds_in_all P v t es h.0.0 h.1));
}

pub holds_solved : (P : ℕ → Type 0) (a b : Term) (rs : List Replacement) → Holds P a → Holds P b → mgu (equation a b) ≡ Some rs → EachReplaced P rs
holds_solved P a b rs g h e = holds_of_solution (SolvedWith P) (solved_with P) (equation a b) rs e ((g, h), tt)

-- ---- matches

-- a fact holds of the terms at places
abbrev pub Places : (ℕ → Type 0) → List Replacement → Type 0
Places P ps = AllByRecursion (λ p. Holds P p.by) ps

both_places : (P : ℕ → Type 0) (ps qs : List Replacement) → Places P ps → Places P qs → Places P (ps ++ qs)
both_places P [] qs a b = b
both_places P (p ∷ ps) qs a b = (a.0, both_places P ps qs a.1 b)

if_places : (c : Bool) (P : ℕ → Type 0) (m n : Match) → Places P m.places → Places P n.places → Places P (if c then m else n).places
if_places true P m n a b = a
if_places false P m n a b = b

mutual
  matched : (P : ℕ → Type 0) (p t : Term) → Holds P t → Places P (match_pattern p t).places
  matched P (variable v) t h = (h, tt)
  matched P (integer i) (variable w) h = tt
  matched P (integer i) (integer j) h = tt
  matched P (integer i) (atom a) h = tt
  matched P (integer i) (structure g us) h = tt
  matched P (atom a) (variable w) h = tt
  matched P (atom a) (integer j) h = tt
  matched P (atom a) (atom b) h = tt
  matched P (atom a) (structure g us) h = tt
  matched P (structure f ps) (variable w) h = tt
  matched P (structure f ps) (integer j) h = tt
  matched P (structure f ps) (atom b) h = tt
  matched P (structure f ps) (structure g ts) h = if_places (bytes_eq f g && count_of ps == count_of ts) P (match_patterns ps ts) (with_answer no) (each_matched P ps ts h) tt

  each_matched : (P : ℕ → Type 0) (ps ts : Terms) → HoldsEach P ts → Places P (match_patterns ps ts).places
  each_matched P none none h = tt
  each_matched P none (more t ts) h = tt
  each_matched P (more p ps) none h = tt
  each_matched P (more p ps) (more t ts) h = both_places P (match_pattern p t).places (match_patterns ps ts).places (matched P p t h.0) (each_matched P ps ts h.1)

-- a fact holds of the terms at the places of candidates
abbrev Candidates : (ℕ → Type 0) → List Candidate → Type 0
Candidates P ks = AllByRecursion (λ k. Places P k.places) ks

one_candidate : (P : ℕ → Type 0) (n : ℕ) (c : Clause) (ps : List Replacement) (a : Answer) → Places P ps → Candidates P (candidate_by n c ps a)
one_candidate P n c ps yes h = (h, tt)
one_candidate P n c ps no h = tt
one_candidate P n c ps (wait vs) h = tt

both_candidates : (P : ℕ → Type 0) (ks ls : List Candidate) → Candidates P ks → Candidates P ls → Candidates P (ks ++ ls)
both_candidates P [] ls a b = b
both_candidates P (k ∷ ks) ls a b = (a.0, both_candidates P ks ls a.1 b)

if_candidates : (c : Bool) (P : ℕ → Type 0) (ks ls : List Candidate) → Candidates P ks → Candidates P ls → Candidates P (if c then ks else ls)
if_candidates true P ks ls a b = a
if_candidates false P ks ls a b = b

within : (P : ℕ → Type 0) (section n : ℕ) (cs : List Clause) (ts : Terms) → HoldsEach P ts → Candidates P (candidates_within section n cs ts)
within P section n [] ts h = tt
within P section n (c ∷ cs) ts h =
    let here = candidate_by n c (places_of c ts) (verdict c ts) in
    let later = candidates_within section (suc n) cs ts in
    if_candidates (c.section == section) P (here ++ later) [] (both_candidates P here later (one_candidate P n c (places_of c ts) (verdict c ts) (each_matched P c.patterns ts h)) (within P section (suc n) cs ts h)) tt

from : (P : ℕ → Type 0) (n : ℕ) (cs : List Clause) (ts : Terms) → HoldsEach P ts → Candidates P (candidates_from n cs ts)
from P n [] ts h = tt
from P n (c ∷ cs) ts h =
    if_candidates (is_no (verdict c ts)) P (candidates_from (suc n) cs ts) (candidates_within c.section n (c ∷ cs) ts) (from P (suc n) cs ts h) (within P c.section n (c ∷ cs) ts h)

-- ---- moves

-- a fact holds of the terms of an order that flow on
abbrev pub InOrder : (ℕ → Type 0) → ExecuteArguments → Type 0
InOrder P o = Holds P o.goal × Holds P o.control × Holds P o.reports

-- a fact holds of the terms of a move
abbrev pub InMove : (ℕ → Type 0) → Move → Type 0
InMove P (commits k) = Places P k.places
InMove P (raises kind) = Unit {0}
InMove P (unifies a b) = Holds P a × Holds P b
InMove P (names text a) = Holds P a
InMove P (opens o) = InOrder P o
InMove P goes = Unit {0}
InMove P gives_way = Unit {0}

-- a fact holds of the terms of a move that may be there
abbrev MayMove : (ℕ → Type 0) → Option Move → Type 0
MayMove P None = Unit {0}
MayMove P (Some m) = InMove P m

if_moves : (c : Bool) (P : ℕ → Type 0) (m n : Option Move) → MayMove P m → MayMove P n → MayMove P (if c then m else n)
if_moves true P m n a b = a
if_moves false P m n a b = b

in_spelled : (P : ℕ → Type 0) (a : Term) (s : Found (List ℕ)) → Holds P a → MayMove P (move_found (λ text. names text a) s)
in_spelled P a (found text) h = h
in_spelled P a (awaits v) h = tt
in_spelled P a wrong h = tt

in_number : (P : ℕ → Type 0) (a : Term) (n : Number) → Holds P a → InMove P (becomes a n)
in_number P a (Value z) h = (h, tt)
in_number P a Overflow h = tt
in_number P a ZeroDivisor h = tt

in_assigned : (P : ℕ → Type 0) (a : Term) (e : Found Number) → Holds P a → MayMove P (move_found (becomes a) e)
in_assigned P a (found n) h = in_number P a n h
in_assigned P a (awaits v) h = tt
in_assigned P a wrong h = tt

-- a fact holds of the terms of an order that may be there
abbrev MayOrder : (ℕ → Type 0) → Option ExecuteArguments → Type 0
MayOrder P None = Unit {0}
MayOrder P (Some o) = InOrder P o

in_order : (P : ℕ → Type 0) (t : Term) → Holds P t → MayOrder P (execute_arguments t)
in_order P (structure p (more g (more l (more i (more n (more c (more r none))))))) h = (h.0, h.1.1.1.1.0, h.1.1.1.1.1.0)
in_order P t h = tt

in_ordered : (P : ℕ → Type 0) (o : ExecuteArguments) (l : Found ⊤) → InOrder P o → MayMove P (move_found (λ right. opens o) l)
in_ordered P o (found right) h = h
in_ordered P o (awaits v) h = tt
in_ordered P o wrong h = tt

in_order_move : (P : ℕ → Type 0) (o : Option ExecuteArguments) → MayOrder P o → MayMove P (order_move o)
in_order_move P None h = tt
in_order_move P (Some o) h = in_ordered P o (arguments_look o) h

in_execute : (P : ℕ → Type 0) (a b : Term) → Holds P b → MayMove P (execute_move a b)
in_execute P (atom m) b h = if_moves (is_execute m b) P (order_move (execute_arguments b)) None (in_order_move P (execute_arguments b) (in_order P b h)) tt
in_execute P (variable v) b h = tt
in_execute P (integer i) b h = tt
in_execute P (structure f ts) b h = tt

in_pair : (P : ℕ → Type 0) (rules : Rules) (f : List ℕ) (a b : Term) → Holds P a → Holds P b → MayMove P (pair_move rules f a b)
in_pair P rules f a b g h =
    let last = if bytes_eq f (codes ":") then execute_move a b else None in
    let third = if bytes_eq f (codes "atom_from") then move_found (λ text. names text b) (spelling (most_spelled rules) a) else last in
    let second = if bytes_eq f (codes ":=") then move_found (becomes a) (evaluated b) else third in
    if_moves (bytes_eq f (codes "=")) P (Some (unifies a b)) second (g, h)
    (if_moves (bytes_eq f (codes ":=")) P (move_found (becomes a) (evaluated b)) third (in_assigned P a (evaluated b) g)
    (if_moves (bytes_eq f (codes "atom_from")) P (move_found (λ text. names text b) (spelling (most_spelled rules) a)) last (in_spelled P b (spelling (most_spelled rules) a) h)
    (if_moves (bytes_eq f (codes ":")) P (execute_move a b) None (in_execute P a b h) tt)))

in_built_in : (P : ℕ → Type 0) (rules : Rules) (t : Term) → Holds P t → MayMove P (built_in_move rules t)
in_built_in P rules (atom a) h = if_moves (bytes_eq a (codes "true")) P (Some goes) None tt tt
in_built_in P rules (structure f (more a (more b none))) h = in_pair P rules f a b h.0 h.1.0
in_built_in P rules (variable v) h = tt
in_built_in P rules (integer i) h = tt
in_built_in P rules (structure f none) h = tt
in_built_in P rules (structure f (more a none)) h = tt
in_built_in P rules (structure f (more a (more b (more c ts)))) h = tt

-- a fact holds of the arguments of a call that may be there
abbrev MayCall : (ℕ → Type 0) → Option Call → Type 0
MayCall P None = Unit {0}
MayCall P (Some call) = HoldsEach P call.arguments

if_call : (c : Bool) (P : ℕ → Type 0) (call : Call) → HoldsEach P call.arguments → MayCall P (if c then Some call else None)
if_call true P call h = h
if_call false P call h = tt

in_call : (P : ℕ → Type 0) (t : Term) → Holds P t → MayCall P (call_of t)
in_call P (structure f (more (atom m) (more (atom p) none))) h = if_call _ P _ tt
in_call P (structure f (more (atom m) (more (structure p ts) none))) h = if_call _ P _ h.1.0
in_call P t h = tt

found_place : (P : ℕ → Type 0) (p : Candidate → Bool) (ks : List Candidate) → Candidates P ks → MayMove P (option_map (λ k. commits k) (find p ks))
found_place P p [] a = tt
found_place P p (k ∷ ks) a = by_test (p k) k (find p ks) a.0 (found_place P p ks a.1)
  where
    by_test : (c : Bool) (k : Candidate) (o : Option Candidate) → Places P k.places → MayMove P (option_map (λ k. commits k) o) → MayMove P (option_map (λ k. commits k) (if c then Some k else o))
    by_test true k o a b = a
    by_test false k o a b = b

in_called : (P : ℕ → Type 0) (modules : List Module) (call : Call) (clause : ℕ) → HoldsEach P call.arguments → MayMove P (call_move modules call clause)
in_called P modules call clause h =
    let failing = if fails modules call then Some (raises failure) else None in
    let found = find (λ k. k.number == clause) (candidates_of modules call) in
    if_moves (clause == 0) P failing (option_map (λ k. commits k) found) (if_moves (fails modules call) P (Some (raises failure)) None tt tt)
    (found_place P (λ k. k.number == clause) (candidates_of modules call) (subst (λ (ks : List Candidate). Candidates P ks) (sym (candidates_walked modules call)) (from P 1 (clauses_of modules call) call.arguments h)))

in_term : (P : ℕ → Type 0) (rules : Rules) (modules : List Module) (t : Term) (clause : ℕ) (o : Option Call) → Holds P t → MayCall P o → MayMove P (term_move rules modules t clause o)
in_term P rules modules t clause None h c = if_moves (clause == 0) P (built_in_move rules t) None (in_built_in P rules t h) tt
in_term P rules modules t clause (Some call) h c = in_called P modules call clause c

-- what holds of the variables of a goal holds of those of its move
pub in_move : (P : ℕ → Type 0) (rules : Rules) (modules : List Module) (t : Term) (clause : ℕ) (m : Move) → Holds P t → term_move rules modules t clause (call_of t) ≡ Some m → InMove P m
in_move P rules modules t clause m h e = subst (MayMove P) e (in_term P rules modules t clause (call_of t) h (in_call P t h))

in_look : (P : ℕ → Type 0) (l : Found ⊤) → MayMove P (substitute_move l)
in_look P (found right) = tt
in_look P (awaits v) = tt
in_look P wrong = tt

-- what a substitute does has no terms but the one that it waited for
pub in_substitute : (P : ℕ → Type 0) (l : Found ⊤) (m : Move) → substitute_move l ≡ Some m → InMove P m
in_substitute P l m e = subst (MayMove P) e (in_look P l)

-- ---- reports

-- a fact holds of the variables of terms
abbrev pub Each : (ℕ → Type 0) → List Term → Type 0
Each P ts = AllByRecursion (Holds P) ts

if_each : (c : Bool) (P : ℕ → Type 0) (ts us : List Term) → Each P ts → Each P us → Each P (if c then ts else us)
if_each true P ts us a b = a
if_each false P ts us a b = b

mutual
  listed_holds : (P : ℕ → Type 0) (t : Term) → Holds P t → Each P (elements_of t)
  listed_holds P (variable v) h = tt
  listed_holds P (integer i) h = tt
  listed_holds P (atom a) h = tt
  listed_holds P (structure f ts) h = listed_each P f ts h

  listed_each : (P : ℕ → Type 0) (f : List ℕ) (ts : Terms) → HoldsEach P ts → Each P (elements_in f ts)
  listed_each P f none h = tt
  listed_each P f (more t none) h = tt
  listed_each P f (more t (more u none)) h = if_each (bytes_eq f (codes ".")) P (t ∷ elements_of u) [] (h.0, listed_holds P u h.1.0) tt
  listed_each P f (more t (more u (more w ts))) h = tt

-- a fact holds of the variables of the exception by which a substitute waits, if one does
abbrev OfAsked : (ℕ → Type 0) → Option Asked → Type 0
OfAsked P None = Unit {0}
OfAsked P (Some a) = Holds P a.goal × P a.new

if_asked : (c : Bool) (P : ℕ → Type 0) (a : Asked) → Holds P a.goal × P a.new → OfAsked P (if c then Some a else None)
if_asked true P a h = h
if_asked false P a h = tt

in_report : (P : ℕ → Type 0) (t : Term) → Holds P t → OfAsked P (asked t)
in_report P (structure f (more kind (more goal (more (variable v) none)))) h = if_asked (bytes_eq f (codes "exception")) P (record { goal = goal; new = v }) (h.1.0, h.1.1.0)
in_report P t h = tt

in_reports : (P : ℕ → Type 0) (ts : List Term) (n : ℕ) → Each P ts → OfAsked P (option_and_then asked (slice_get ts n))
in_reports P [] n a = tt
in_reports P (t ∷ ts) zero a = in_report P t a.0
in_reports P (t ∷ ts) (suc n) a = in_reports P ts n a.1

if_kept : (c : Bool) (P : ℕ → Type 0) (a : Option Asked) → OfAsked P a → OfAsked P (if c then None else a)
if_kept true P a h = tt
if_kept false P a h = h

-- what holds of the variables of reports holds of those of the exception by which a substitute waits
pub holds_asked : (P : ℕ → Type 0) (o : Origin) (report : ℕ) (a : Asked) → Holds P o.reports → asked_at o report ≡ Some a → Holds P a.goal × P a.new
holds_asked P o report a h e =
    let n = report - 1 - o.forgotten in
    subst (OfAsked P) e (if_kept (nat_le report o.forgotten) P (option_and_then asked (slice_get (elements_of o.reports) n)) (in_reports P (elements_of o.reports) n (listed_holds P o.reports h)))

-- and of those of the reports that are left
pub holds_without : (P : ℕ → Type 0) (count : ℕ) (t : Term) → Holds P t → Holds P (without_cells count t)
holds_without P zero t k = k
holds_without P (suc count) (structure f (more h (more t none))) k =
    cond_both (bytes_eq f (codes ".")) (without_cells count t) (structure f (more h (more t none))) (Holds P) (λ _. holds_without P count t k.1.0) (λ _. k)
holds_without P (suc count) t k = k

pub either : (b c : Bool) (X : Type 0) → (b || c) ≡ true → (b ≡ true → X) → (c ≡ true → X) → X
either true c X e f g = f refl
either false c X e f g = g e

mutual
  -- a fact holds of a variable that occurs
  pub holds_occurring : (P : ℕ → Type 0) (v : ℕ) (t : Term) → Holds P t → occurs v t ≡ true → P v
  holds_occurring P v (variable n) h e = subst P (sym (eqb-true v n e)) h
  holds_occurring P v (integer i) h e = absurd (false≢true e)
  holds_occurring P v (atom a) h e = absurd (false≢true e)
  holds_occurring P v (structure f ts) h e = each_occurring P v ts h e

  each_occurring : (P : ℕ → Type 0) (v : ℕ) (ts : Terms) → HoldsEach P ts → occurs_in v ts ≡ true → P v
  each_occurring P v none h e = absurd (false≢true e)
  each_occurring P v (more t ts) h e = either (occurs v t) (occurs_in v ts) (P v) e (λ f. holds_occurring P v t h.0 f) (λ f. each_occurring P v ts h.1 f)

pub holds_term_at : (P : ℕ → Type 0) (ps : List Replacement) (v : ℕ) → Places P ps → Holds P (term_at ps v nil)
holds_term_at P [] v a = tt
holds_term_at P (p ∷ ps) v a = cond_both (p.number == v) p.by (term_at ps v nil) (Holds P) (λ _. a.0) (λ _. holds_term_at P ps v a.1)
