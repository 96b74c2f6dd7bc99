-- What goals can do in an account with other numbers for its variables.
use Rattle.std.proofs.Common.{◌≡◌, ℕ, zero, suc, ◌==◌, not, ◌&&◌, ◌||◌, Bool, true, false, if◌then◌else◌, List, [], ◌∷◌, ◌++◌, refl, sym, ap, ap₂, ◌∙◌}
use Rattle.std.specs.Prelude.{bytes_eq, codes, nat_le, pos, negsuc, map, filter, find, Option, Some, None, option_map, option_and_then, ⊤}
use Rattle.std.specs.List.{list_all}
use Rattle.std.proofs.lemmas.List.{map-append}
use Rattle.kl1_model.specs.declared.rules.Rules.{Rules}
use Rattle.kl1_model.specs.declared.number.Number.{Number}
use Rattle.kl1_model.specs.declared.number.Number.TheVariants.{Value, Overflow, ZeroDivisor}
use Rattle.kl1_model.specs.Text.{is_name_byte}
use Rattle.kl1_model.specs.Term.{Term, variable, integer, atom, structure, Terms, none, more, count_of, Replacement}
use Rattle.kl1_model.specs.Found.{Found, found, awaits, wrong, then_found, found_map, right_if}
use Rattle.kl1_model.specs.Arithmetic.{evaluated}
use Rattle.kl1_model.specs.Answer.{Answer, yes, no, wait}
use Rattle.kl1_model.specs.Goal.{is_called, is_execute}
use Rattle.kl1_model.specs.Module.{Clause, Module, is_of}
use Rattle.kl1_model.specs.Match.{is_no, places_of, verdict, Call, call_of, module_of, clauses_of, Candidate, candidate_by, candidates_of, fails}
use Rattle.kl1_model.specs.Look.{spelled_by, spelling, callee_look, goal_look, priority_look, allowance_look, number_of_term, ExecuteArguments, arguments_look}
use Rattle.kl1_model.specs.State.{most_spelled}
use Rattle.kl1_model.specs.Reduction.{Move, commits, raises, unifies, names, opens, goes, gives_way, move_found, call_move, becomes, execute_move, built_in_move, term_move, failure}
use Rattle.kl1_model.specs.code.Sections.{clauses_in, candidates_within, candidates_from}
use Rattle.kl1_model.specs.laws.RelabelLaws.{renamed, each_renamed, answer_renamed, place_renamed, found_renamed, IsIncreasing}
use Rattle.kl1_model.proofs.Renamed.{evaluated_renamed, comes_renamed}
use Rattle.kl1_model.proofs.Renaming.{count_renamed}
use Rattle.kl1_model.proofs.RenamedVerdicts.{patterns_renamed, verdict_renamed}
use Rattle.kl1_model.proofs.SectionRuns.{candidates_walked}
use Rattle.kl1_model.proofs.TermStays.{call_of-not_one, call_of-not_many}

-- ---- with other numbers

abbrev pub candidate_renamed : (ℕ → ℕ) → Candidate → Candidate
candidate_renamed g k = record k { places = map (place_renamed g) k.places }

abbrev pub call_renamed : (ℕ → ℕ) → Call → Call
call_renamed g k = record k { arguments = each_renamed g k.arguments }

abbrev pub order_renamed : (ℕ → ℕ) → ExecuteArguments → ExecuteArguments
order_renamed g o = record {
  goal = renamed g o.goal;
  low = renamed g o.low;
  high = renamed g o.high;
  allowance = renamed g o.allowance;
  control = renamed g o.control;
  reports = renamed g o.reports;
}

abbrev pub move_renamed : (ℕ → ℕ) → Move → Move
move_renamed g (commits k) = commits (candidate_renamed g k)
move_renamed g (raises kind) = raises kind
move_renamed g (unifies a b) = unifies (renamed g a) (renamed g b)
move_renamed g (names text a) = names text (renamed g a)
move_renamed g (opens o) = opens (order_renamed g o)
move_renamed g goes = goes
move_renamed g gives_way = gives_way

-- ---- candidates

places_are : (g : ℕ → ℕ) (c : Clause) (ts : Terms) → places_of c (each_renamed g ts) ≡ map (place_renamed g) (places_of c ts)
places_are g c ts = ap (λ m. m.places) (patterns_renamed g c.patterns ts)

by_answer : (g : ℕ → ℕ) (n : ℕ) (c : Clause) (ps : List Replacement) (a : Answer) → candidate_by n c (map (place_renamed g) ps) (answer_renamed g a) ≡ map (candidate_renamed g) (candidate_by n c ps a)
by_answer g n c ps yes = refl
by_answer g n c ps no = refl
by_answer g n c ps (wait vs) = refl

candidate_is : (g : ℕ → ℕ) (n : ℕ) (c : Clause) (ts : Terms) → IsIncreasing g →
    candidate_by n c (places_of c (each_renamed g ts)) (verdict c (each_renamed g ts)) ≡ map (candidate_renamed g) (candidate_by n c (places_of c ts) (verdict c ts))
candidate_is g n c ts up = ap₂ (candidate_by n c) (places_are g c ts) (verdict_renamed g c ts up) ∙ by_answer g n c (places_of c ts) (verdict c ts)

if_map : (g : ℕ → ℕ) (b : Bool) (xs ys us vs : List Candidate) → xs ≡ map (candidate_renamed g) us → ys ≡ map (candidate_renamed g) vs → (if b then xs else ys) ≡ map (candidate_renamed g) (if b then us else vs)
if_map g true xs ys us vs e f = e
if_map g false xs ys us vs e f = f

within_renamed : (g : ℕ → ℕ) (section n : ℕ) (cs : List Clause) (ts : Terms) → IsIncreasing g → candidates_within section n cs (each_renamed g ts) ≡ map (candidate_renamed g) (candidates_within section n cs ts)
within_renamed g section n [] ts up = refl
within_renamed g section n (c ∷ cs) ts up =
    let us = each_renamed g ts in
    if_map g (c.section == section) (candidate_by n c (places_of c us) (verdict c us) ++ candidates_within section (suc n) cs us) [] (candidate_by n c (places_of c ts) (verdict c ts) ++ candidates_within section (suc n) cs ts) []
    (ap₂ (λ (a b : List Candidate). a ++ b) (candidate_is g n c ts up) (within_renamed g section (suc n) cs ts up)
    ∙ sym (map-append (candidate_renamed g) (candidate_by n c (places_of c ts) (verdict c ts)) (candidates_within section (suc n) cs ts))) refl

pub no_renamed : (g : ℕ → ℕ) (a : Answer) → is_no (answer_renamed g a) ≡ is_no a
no_renamed g yes = refl
no_renamed g no = refl
no_renamed g (wait vs) = refl

no_is : (g : ℕ → ℕ) (c : Clause) (ts : Terms) → IsIncreasing g → is_no (verdict c (each_renamed g ts)) ≡ is_no (verdict c ts)
no_is g c ts up = ap is_no (verdict_renamed g c ts up) ∙ no_renamed g (verdict c ts)

from_renamed : (g : ℕ → ℕ) (n : ℕ) (cs : List Clause) (ts : Terms) → IsIncreasing g → candidates_from n cs (each_renamed g ts) ≡ map (candidate_renamed g) (candidates_from n cs ts)
from_renamed g n [] ts up = refl
from_renamed g n (c ∷ cs) ts up =
    let us = each_renamed g ts in
    ap (λ b. if b then candidates_from (suc n) cs us else candidates_within c.section n (c ∷ cs) us) (no_is g c ts up)
    ∙ if_map g (is_no (verdict c ts)) (candidates_from (suc n) cs us) (candidates_within c.section n (c ∷ cs) us) (candidates_from (suc n) cs ts) (candidates_within c.section n (c ∷ cs) ts)
    (from_renamed g (suc n) cs ts up) (within_renamed g c.section n (c ∷ cs) ts up)

clauses_are : (g : ℕ → ℕ) (modules : List Module) (k : Call) → clauses_of modules (call_renamed g k) ≡ clauses_of modules k
clauses_are g modules k = by_module (module_of modules k.module_name)
  where
    by_module : (o : Option Module) → clauses_in o (call_renamed g k) ≡ clauses_in o k
    by_module None = refl
    by_module (Some m) = ap (λ n. filter (is_of k.name n) m.clauses) (count_renamed g k.arguments)

pub candidates_renamed : (g : ℕ → ℕ) (modules : List Module) (k : Call) → IsIncreasing g → candidates_of modules (call_renamed g k) ≡ map (candidate_renamed g) (candidates_of modules k)
candidates_renamed g modules k up =
    candidates_walked modules (call_renamed g k)
    ∙ ap (λ cs. candidates_from 1 cs (each_renamed g k.arguments)) (clauses_are g modules k)
    ∙ from_renamed g 1 (clauses_of modules k) k.arguments up
    ∙ ap (map (candidate_renamed g)) (sym (candidates_walked modules k))

all_no_is : (g : ℕ → ℕ) (cs : List Clause) (ts : Terms) → IsIncreasing g → list_all (λ c. is_no (verdict c (each_renamed g ts))) cs ≡ list_all (λ c. is_no (verdict c ts)) cs
all_no_is g [] ts up = refl
all_no_is g (c ∷ cs) ts up = ap₂ (λ a b. a && b) (no_is g c ts up) (all_no_is g cs ts up)

fails_renamed : (g : ℕ → ℕ) (modules : List Module) (k : Call) → IsIncreasing g → fails modules (call_renamed g k) ≡ fails modules k
fails_renamed g modules k up =
    ap (λ cs. list_all (λ c. is_no (verdict c (each_renamed g k.arguments))) cs) (clauses_are g modules k) ∙ all_no_is g (clauses_of modules k) k.arguments up

-- ---- calls

some_call : (g : ℕ → ℕ) (c : Bool) (k : Call) → (if c then Some (call_renamed g k) else None) ≡ option_map (call_renamed g) (if c then Some k else None)
some_call g true k = refl
some_call g false k = refl

two_call : (g : ℕ → ℕ) (f : List ℕ) (a b : Term) → call_of (structure f (more (renamed g a) (more (renamed g b) none))) ≡ option_map (call_renamed g) (call_of (structure f (more a (more b none))))
two_call g f (variable v) b = refl
two_call g f (integer i) b = refl
two_call g f (atom m) (variable p) = refl
two_call g f (atom m) (integer j) = refl
two_call g f (atom m) (atom p) = some_call g (bytes_eq f (codes ":")) (record { module_name = m; name = p; arguments = none })
two_call g f (atom m) (structure p ts) =
    ap (λ n. if bytes_eq f (codes ":") && not (bytes_eq m (codes "shoen") && is_called (codes "execute") 6 p n) then Some (record { module_name = m; name = p; arguments = each_renamed g ts }) else None) (count_renamed g ts)
    ∙ some_call g (bytes_eq f (codes ":") && not (is_execute m (structure p ts))) (record { module_name = m; name = p; arguments = ts })
two_call g f (structure h ts) b = refl

pub call_is : (g : ℕ → ℕ) (t : Term) → call_of (renamed g t) ≡ option_map (call_renamed g) (call_of t)
call_is g (variable v) = refl
call_is g (integer i) = refl
call_is g (atom a) = refl
call_is g (structure f none) = refl
call_is g (structure f (more a none)) = call_of-not_one f (renamed g a) ∙ sym (ap (option_map (call_renamed g)) (call_of-not_one f a))
call_is g (structure f (more a (more b none))) = two_call g f a b
call_is g (structure f (more a (more b (more c us)))) =
    call_of-not_many f (renamed g a) (renamed g b) (renamed g c) (each_renamed g us) ∙ sym (ap (option_map (call_renamed g)) (call_of-not_many f a b c us))

-- ---- looks

pub if_found : {A : Type 0} (g : ℕ → ℕ) (c : Bool) (x y u v : Found A) → x ≡ found_renamed g u → y ≡ found_renamed g v → (if c then x else y) ≡ found_renamed g (if c then u else v)
if_found g true x y u v e f = e
if_found g false x y u v e f = f

map_found : {A B : Type 0} (g : ℕ → ℕ) (f : A → B) (x : Found A) → found_map f (found_renamed g x) ≡ found_renamed g (found_map f x)
map_found g f (found a) = refl
map_found g f (awaits v) = refl
map_found g f wrong = refl

then_found_renamed : {A B : Type 0} (g : ℕ → ℕ) (x : Found A) (y z : A → Found B) → ((a : A) → z a ≡ found_renamed g (y a)) → then_found (found_renamed g x) z ≡ found_renamed g (then_found x y)
then_found_renamed g (found a) y z e = e a
then_found_renamed g (awaits v) y z e = refl
then_found_renamed g wrong y z e = refl

right_is : (g : ℕ → ℕ) (b : Bool) → right_if b ≡ found_renamed g (right_if b)
right_is g true = refl
right_is g false = refl

element_is : (g : ℕ → ℕ) (h : Term) (x : Found (List ℕ)) → spelled_by (renamed g h) (found_renamed g x) ≡ found_renamed g (spelled_by h x)
element_is g (variable v) x = refl
element_is g (integer (pos n)) x = if_found g (is_name_byte n) (found_map (λ text. n ∷ text) (found_renamed g x)) wrong (found_map (λ text. n ∷ text) x) wrong (map_found g (λ text. n ∷ text) x) refl
element_is g (integer (negsuc n)) x = refl
element_is g (atom a) x = refl
element_is g (structure f us) x = refl

pub spelling_renamed : (g : ℕ → ℕ) (most : ℕ) (t : Term) → spelling most (renamed g t) ≡ found_renamed g (spelling most t)
spelling_renamed g zero (variable v) = refl
spelling_renamed g zero (integer i) = refl
spelling_renamed g zero (atom a) = if_found g (bytes_eq a (codes "[]")) (found []) wrong (found []) wrong refl refl
spelling_renamed g zero (structure f none) = refl
spelling_renamed g zero (structure f (more h none)) = refl
spelling_renamed g zero (structure f (more h (more t none))) = refl
spelling_renamed g zero (structure f (more h (more t (more u us)))) = refl
spelling_renamed g (suc most) (variable v) = refl
spelling_renamed g (suc most) (integer i) = refl
spelling_renamed g (suc most) (atom a) = if_found g (bytes_eq a (codes "[]")) (found []) wrong (found []) wrong refl refl
spelling_renamed g (suc most) (structure f none) = refl
spelling_renamed g (suc most) (structure f (more h none)) = refl
spelling_renamed g (suc most) (structure f (more h (more t none))) =
    if_found g (bytes_eq f (codes ".")) (spelled_by (renamed g h) (spelling most (renamed g t))) wrong (spelled_by h (spelling most t)) wrong
    (ap (spelled_by (renamed g h)) (spelling_renamed g most t) ∙ element_is g h (spelling most t)) refl
spelling_renamed g (suc most) (structure f (more h (more t (more u us)))) = refl

callee_is : (g : ℕ → ℕ) (a b : Term) → callee_look (renamed g a) (renamed g b) ≡ found_renamed g (callee_look a b)
callee_is g (variable m) b = refl
callee_is g (integer i) (variable p) = refl
callee_is g (integer i) (integer j) = refl
callee_is g (integer i) (atom p) = refl
callee_is g (integer i) (structure h us) = refl
callee_is g (atom m) (variable p) = refl
callee_is g (atom m) (integer j) = refl
callee_is g (atom m) (atom p) = refl
callee_is g (atom m) (structure h us) = refl
callee_is g (structure f ts) (variable p) = refl
callee_is g (structure f ts) (integer j) = refl
callee_is g (structure f ts) (atom p) = refl
callee_is g (structure f ts) (structure h us) = refl

pub goal_look_renamed : (g : ℕ → ℕ) (t : Term) → goal_look (renamed g t) ≡ found_renamed g (goal_look t)
goal_look_renamed g (variable v) = refl
goal_look_renamed g (integer i) = refl
goal_look_renamed g (atom a) = right_is g (bytes_eq a (codes "true"))
goal_look_renamed g (structure f none) = refl
goal_look_renamed g (structure f (more a none)) = refl
goal_look_renamed g (structure f (more a (more b none))) =
    let d = bytes_eq f (codes "=") || bytes_eq f (codes ":=") || bytes_eq f (codes "atom_from") in
    if_found g (bytes_eq f (codes ":")) (callee_look (renamed g a) (renamed g b)) (right_if d) (callee_look a b) (right_if d) (callee_is g a b) (right_is g d)
goal_look_renamed g (structure f (more a (more b (more c us)))) = refl

priority_is : (g : ℕ → ℕ) (t : Term) → priority_look (renamed g t) ≡ found_renamed g (priority_look t)
priority_is g (variable v) = refl
priority_is g (integer (pos n)) = right_is g _
priority_is g (integer (negsuc n)) = refl
priority_is g (atom a) = refl
priority_is g (structure f ts) = refl

allowance_is : (g : ℕ → ℕ) (t : Term) → allowance_look (renamed g t) ≡ found_renamed g (allowance_look t)
allowance_is g (variable v) = refl
allowance_is g (integer (pos n)) = refl
allowance_is g (integer (negsuc n)) = refl
allowance_is g (atom a) = refl
allowance_is g (structure f ts) = refl

pub number_is : (g : ℕ → ℕ) (t : Term) → number_of_term (renamed g t) ≡ number_of_term t
number_is g (variable v) = refl
number_is g (integer (pos n)) = refl
number_is g (integer (negsuc n)) = refl
number_is g (atom a) = refl
number_is g (structure f ts) = refl

pub order_is : (g : ℕ → ℕ) (o : ExecuteArguments) → arguments_look (order_renamed g o) ≡ found_renamed g (arguments_look o)
order_is g o =
    let p = order_renamed g o in
    let range : Found ⊤ = right_if (nat_le (number_of_term o.low) (number_of_term o.high)) in
    let range' : Found ⊤ = right_if (nat_le (number_of_term p.low) (number_of_term p.high)) in
    let third : Found ⊤ = then_found (allowance_look o.allowance) (λ n. range) in
    let third' : Found ⊤ = then_found (allowance_look p.allowance) (λ n. range') in
    let second : Found ⊤ = then_found (priority_look o.high) (λ high. third) in
    let second' : Found ⊤ = then_found (priority_look p.high) (λ high. third') in
    let first : Found ⊤ = then_found (priority_look o.low) (λ low. second) in
    let first' : Found ⊤ = then_found (priority_look p.low) (λ low. second') in
    let last : range' ≡ found_renamed g range = ap₂ (λ x y. right_if (nat_le x y)) (number_is g o.low) (number_is g o.high) ∙ right_is g _ in
    let c : third' ≡ found_renamed g third = ap (λ x. then_found x (λ n. range')) (allowance_is g o.allowance) ∙ then_found_renamed g (allowance_look o.allowance) (λ n. range) (λ n. range') (λ n. last) in
    let b : second' ≡ found_renamed g second = ap (λ x. then_found x (λ n. third')) (priority_is g o.high) ∙ then_found_renamed g (priority_look o.high) (λ n. third) (λ n. third') (λ n. c) in
    let a : first' ≡ found_renamed g first = ap (λ x. then_found x (λ n. second')) (priority_is g o.low) ∙ then_found_renamed g (priority_look o.low) (λ n. second) (λ n. second') (λ n. b) in
    ap (λ x. then_found x (λ n. first')) (goal_look_renamed g o.goal) ∙ then_found_renamed g (goal_look o.goal) (λ n. first) (λ n. first') (λ n. a)

-- ---- moves

moves_as : {A : Type 0} (g : ℕ → ℕ) (act act' : A → Move) (x : Found A) → ((a : A) → act' a ≡ move_renamed g (act a)) → move_found act' (found_renamed g x) ≡ option_map (move_renamed g) (move_found act x)
moves_as g act act' (found a) e = ap (λ m. Some m) (e a)
moves_as g act act' (awaits v) e = refl
moves_as g act act' wrong e = refl

becomes_renamed : (g : ℕ → ℕ) (a : Term) (n : Number) → becomes (renamed g a) n ≡ move_renamed g (becomes a n)
becomes_renamed g a (Value z) = refl
becomes_renamed g a Overflow = refl
becomes_renamed g a ZeroDivisor = refl

number_found : (g : ℕ → ℕ) (x : Found Number) → evaluated_renamed g x ≡ found_renamed g x
number_found g (found n) = refl
number_found g (awaits v) = refl
number_found g wrong = refl

if_move : (g : ℕ → ℕ) (c : Bool) (x y u v : Option Move) → x ≡ option_map (move_renamed g) u → y ≡ option_map (move_renamed g) v → (if c then x else y) ≡ option_map (move_renamed g) (if c then u else v)
if_move g true x y u v e f = e
if_move g false x y u v e f = f

six_is : (g : ℕ → ℕ) (c : Bool) (o : ExecuteArguments) →
    (if c then move_found (λ right. opens (order_renamed g o)) (arguments_look (order_renamed g o)) else None) ≡ option_map (move_renamed g) (if c then move_found (λ right. opens o) (arguments_look o) else None)
six_is g c o =
    if_move g c (move_found (λ right. opens (order_renamed g o)) (arguments_look (order_renamed g o))) None (move_found (λ right. opens o) (arguments_look o)) None
    (ap (move_found (λ right. opens (order_renamed g o))) (order_is g o) ∙ moves_as g (λ right. opens o) (λ right. opens (order_renamed g o)) (arguments_look o) (λ right. refl)) refl

none_if : (g : ℕ → ℕ) (c d : Bool) → (if c then option_and_then (λ o. move_found (λ right. opens o) (arguments_look o)) None else None) ≡ option_map (move_renamed g) (if d then option_and_then (λ o. move_found (λ right. opens o) (arguments_look o)) None else None)
none_if g true true = refl
none_if g true false = refl
none_if g false true = refl
none_if g false false = refl

execute_is : (g : ℕ → ℕ) (a b : Term) → execute_move (renamed g a) (renamed g b) ≡ option_map (move_renamed g) (execute_move a b)
execute_is g (variable m) b = refl
execute_is g (integer i) b = refl
execute_is g (structure f ts) b = refl
execute_is g (atom m) (variable p) = refl
execute_is g (atom m) (integer j) = refl
execute_is g (atom m) (atom p) = refl
execute_is g (atom m) (structure p none) = none_if g _ _
execute_is g (atom m) (structure p (more a none)) = none_if g _ _
execute_is g (atom m) (structure p (more a (more b none))) = none_if g _ _
execute_is g (atom m) (structure p (more a (more b (more c none)))) = none_if g _ _
execute_is g (atom m) (structure p (more a (more b (more c (more d none))))) = none_if g _ _
execute_is g (atom m) (structure p (more a (more b (more c (more d (more e none)))))) = none_if g _ _
execute_is g (atom m) (structure p (more a (more b (more c (more d (more e (more r none))))))) =
    six_is g (is_execute m (structure p (more a (more b (more c (more d (more e (more r none)))))))) (record { goal = a; low = b; high = c; allowance = d; control = e; reports = r })
execute_is g (atom m) (structure p (more a (more b (more c (more d (more e (more r (more h us)))))))) =
    none_if g (bytes_eq m (codes "shoen") && is_called (codes "execute") 6 p (count_of (each_renamed g (more a (more b (more c (more d (more e (more r (more h us))))))))))
    (bytes_eq m (codes "shoen") && is_called (codes "execute") 6 p (count_of (more a (more b (more c (more d (more e (more r (more h us)))))))))

pair_is : (g : ℕ → ℕ) (rules : Rules) (c d e f : Bool) (a b : Term) →
    (if c then Some (unifies (renamed g a) (renamed g b)) else if d then move_found (becomes (renamed g a)) (evaluated (renamed g b)) else if e then move_found (λ text. names text (renamed g b)) (spelling (most_spelled rules) (renamed g a)) else if f then execute_move (renamed g a) (renamed g b) else None)
    ≡ option_map (move_renamed g) (if c then Some (unifies a b) else if d then move_found (becomes a) (evaluated b) else if e then move_found (λ text. names text b) (spelling (most_spelled rules) a) else if f then execute_move a b else None)
pair_is g rules true d e f a b = refl
pair_is g rules false true e f a b =
    ap (move_found (becomes (renamed g a))) (comes_renamed g b ∙ number_found g (evaluated b)) ∙ moves_as g (becomes a) (becomes (renamed g a)) (evaluated b) (becomes_renamed g a)
pair_is g rules false false true f a b =
    ap (move_found (λ text. names text (renamed g b))) (spelling_renamed g (most_spelled rules) a)
    ∙ moves_as g (λ text. names text b) (λ text. names text (renamed g b)) (spelling (most_spelled rules) a) (λ text. refl)
pair_is g rules false false false true a b = execute_is g a b
pair_is g rules false false false false a b = refl

built_in_is : (g : ℕ → ℕ) (rules : Rules) (t : Term) → built_in_move rules (renamed g t) ≡ option_map (move_renamed g) (built_in_move rules t)
built_in_is g rules (variable v) = refl
built_in_is g rules (integer i) = refl
built_in_is g rules (atom a) = if_move g (bytes_eq a (codes "true")) (Some goes) None (Some goes) None refl refl
built_in_is g rules (structure f none) = refl
built_in_is g rules (structure f (more a none)) = refl
built_in_is g rules (structure f (more a (more b none))) = pair_is g rules (bytes_eq f (codes "=")) (bytes_eq f (codes ":=")) (bytes_eq f (codes "atom_from")) (bytes_eq f (codes ":")) a b
built_in_is g rules (structure f (more a (more b (more c us)))) = refl

chosen_by : (g : ℕ → ℕ) (b : Bool) (k : Candidate) (o p : Option Candidate) → p ≡ option_map (candidate_renamed g) o → (if b then Some (candidate_renamed g k) else p) ≡ option_map (candidate_renamed g) (if b then Some k else o)
chosen_by g true k o p e = refl
chosen_by g false k o p e = e

chosen_is : (g : ℕ → ℕ) (clause : ℕ) (ks : List Candidate) → find (λ k. k.number == clause) (map (candidate_renamed g) ks) ≡ option_map (candidate_renamed g) (find (λ k. k.number == clause) ks)
chosen_is g clause [] = refl
chosen_is g clause (k ∷ ks) = chosen_by g (k.number == clause) k (find (λ k. k.number == clause) ks) (find (λ k. k.number == clause) (map (candidate_renamed g) ks)) (chosen_is g clause ks)

commit_is : (g : ℕ → ℕ) (o : Option Candidate) → option_map (λ k. commits k) (option_map (candidate_renamed g) o) ≡ option_map (move_renamed g) (option_map (λ k. commits k) o)
commit_is g None = refl
commit_is g (Some k) = refl

call_move_is : (g : ℕ → ℕ) (modules : List Module) (k : Call) (clause : ℕ) → IsIncreasing g → call_move modules (call_renamed g k) clause ≡ option_map (move_renamed g) (call_move modules k clause)
call_move_is g modules k clause up =
    if_move g (clause == 0)
    (if fails modules (call_renamed g k) then Some (raises failure) else None) (option_map (λ k. commits k) (find (λ k. k.number == clause) (candidates_of modules (call_renamed g k))))
    (if fails modules k then Some (raises failure) else None) (option_map (λ k. commits k) (find (λ k. k.number == clause) (candidates_of modules k)))
    (ap (λ b. if b then Some (raises failure) else None) (fails_renamed g modules k up) ∙ if_move g (fails modules k) (Some (raises failure)) None (Some (raises failure)) None refl refl)
    (ap (λ ks. option_map (λ k. commits k) (find (λ k. k.number == clause) ks)) (candidates_renamed g modules k up)
    ∙ ap (option_map (λ k. commits k)) (chosen_is g clause (candidates_of modules k))
    ∙ commit_is g (find (λ k. k.number == clause) (candidates_of modules k)))

term_move_by : (g : ℕ → ℕ) (rules : Rules) (modules : List Module) (t : Term) (clause : ℕ) (o : Option Call) → IsIncreasing g → term_move rules modules (renamed g t) clause (option_map (call_renamed g) o) ≡ option_map (move_renamed g) (term_move rules modules t clause o)
term_move_by g rules modules t clause None up = if_move g (clause == 0) (built_in_move rules (renamed g t)) None (built_in_move rules t) None (built_in_is g rules t) refl
term_move_by g rules modules t clause (Some k) up = call_move_is g modules k clause up

pub term_move_is : (g : ℕ → ℕ) (rules : Rules) (modules : List Module) (t : Term) (clause : ℕ) → IsIncreasing g →
    term_move rules modules (renamed g t) clause (call_of (renamed g t)) ≡ option_map (move_renamed g) (term_move rules modules t clause (call_of t))
term_move_is g rules modules t clause up = ap (term_move rules modules (renamed g t) clause) (call_is g t) ∙ term_move_by g rules modules t clause (call_of t) up

-- a substitute, which gives way
pub way_is : (g : ℕ → ℕ) (t : Term) → move_found (λ right. gives_way) (goal_look (renamed g t)) ≡ option_map (move_renamed g) (move_found (λ right. gives_way) (goal_look t))
way_is g t = ap (move_found (λ right. gives_way)) (goal_look_renamed g t) ∙ moves_as g (λ right. gives_way) (λ right. gives_way) (goal_look t) (λ right. refl)
