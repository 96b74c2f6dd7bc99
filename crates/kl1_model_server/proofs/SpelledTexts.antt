-- What a goal names is the text of a name.
use Rattle.std.specs.Prelude.{◌≡◌, ℕ, zero, suc, ◌≤◌, ◌==◌, nat_le, Bool, true, false, if◌then◌else◌, pos, negsuc, List, [], ◌∷◌, length, codes, bytes_eq, Option, Some, None, find, option_map, ⊤}
use Rattle.std.specs.List.{list_all}
use Rattle.std.proofs.Common.{refl, arith}
use Rattle.std.proofs.lemmas.Bool.{and_from, le-leb}
use Rattle.kl1_model.specs.declared.limits.TheConstants.{MOST_NAME_BYTES, MOST_SPELLED_BEFORE}
use Rattle.kl1_model.specs.declared.rules.Rules.{Rules}
use Rattle.kl1_model.specs.declared.rules.Rules.TheVariants.{One, Two, Three, Four, Five}
use Rattle.kl1_model.specs.Text.{is_name_byte, is_text}
use Rattle.kl1_model.specs.Term.{Term, variable, integer, atom, structure, none, more}
use Rattle.kl1_model.specs.Arithmetic.{evaluated}
use Rattle.kl1_model.specs.declared.number.Number.{Number}
use Rattle.kl1_model.specs.declared.number.Number.TheVariants.{Value, Overflow, ZeroDivisor}
use Rattle.kl1_model.specs.Goal.{is_execute}
use Rattle.kl1_model.specs.Module.{Module}
use Rattle.kl1_model.specs.Match.{Call, call_of, Candidate, candidates_of, fails}
use Rattle.kl1_model.specs.Look.{spelled_by, spelling, goal_look, ExecuteArguments, arguments_look}
use Rattle.kl1_model.specs.Control.{Control, awaits_message, tells, tells_other, ends, breaks_off, control_of}
use Rattle.kl1_model.specs.State.{Task, monitor, reduces, substitutes, Goal, Shoen, State, shoen_at, most_spelled}
use Rattle.kl1_model.specs.Tree.{is_enabled}
use Rattle.kl1_model.specs.Report.{failure}
use Rattle.kl1_model.specs.Reduction.{Move, commits, raises, unifies, names, opens, goes, gives_way, call_move, move_found, becomes, execute_arguments, execute_move, pair_move, built_in_move, term_move, Action, moves, reads, read_action, task_action, action_of}
use Rattle.kl1_model.specs.code.Steps.{order_move, substitute_move, monitor_action}
use Rattle.kl1_model.specs.Found.{Found, found, awaits, wrong, found_map}

-- a text that is spelled is bytes of names, and no more of them than cells
abbrev IsSpelled : ℕ → Found (List ℕ) → Type 0
IsSpelled most (found text) = (list_all is_name_byte text ≡ true) × (length text ≤ most)
IsSpelled most (awaits v) = Unit {0}
IsSpelled most wrong = Unit {0}

before_spelled : (x : Bool) (n most : ℕ) (s : Found (List ℕ)) → is_name_byte n ≡ x → IsSpelled most s → IsSpelled (suc most) (if x then found_map (λ text. n ∷ text) s else wrong)
before_spelled true n most (found text) is h = (and_from (is_name_byte n) (list_all is_name_byte text) is h.0, omega (arith, h.1))
before_spelled true n most (awaits v) is h = tt
before_spelled true n most wrong is h = tt
before_spelled false n most s is h = tt

by_spelled : (t : Term) (most : ℕ) (s : Found (List ℕ)) → IsSpelled most s → IsSpelled (suc most) (spelled_by t s)
by_spelled (variable v) most s h = tt
by_spelled (integer (pos n)) most s h = before_spelled (is_name_byte n) n most s refl h
by_spelled (integer (negsuc n)) most s h = tt
by_spelled (atom a) most s h = tt
by_spelled (structure f ts) most s h = tt

either_spelled : (x : Bool) (most : ℕ) (r s : Found (List ℕ)) → IsSpelled most r → IsSpelled most s → IsSpelled most (if x then r else s)
either_spelled true most r s g h = g
either_spelled false most r s g h = h

is_spelled : (most : ℕ) (t : Term) → IsSpelled most (spelling most t)
is_spelled most (variable v) = tt
is_spelled most (atom a) = either_spelled (bytes_eq a (codes "[]")) most (found []) wrong (refl, omega arith) tt
is_spelled (suc most) (structure f (more h (more t none))) =
    either_spelled (bytes_eq f (codes ".")) (suc most) (spelled_by h (spelling most t)) wrong (by_spelled h most (spelling most t) (is_spelled most t)) tt
is_spelled zero (structure f (more h (more t none))) = tt
is_spelled zero (integer i) = tt
is_spelled (suc most) (integer i) = tt
is_spelled zero (structure f none) = tt
is_spelled (suc most) (structure f none) = tt
is_spelled zero (structure f (more h none)) = tt
is_spelled (suc most) (structure f (more h none)) = tt
is_spelled zero (structure f (more h (more t (more u us)))) = tt
is_spelled (suc most) (structure f (more h (more t (more u us)))) = tt

-- a name that a move names is a text
abbrev pub NamesText : Move → Type 0
NamesText (names text a) = is_text text ≡ true
NamesText (commits k) = Unit {0}
NamesText (raises kind) = Unit {0}
NamesText (unifies a b) = Unit {0}
NamesText (opens o) = Unit {0}
NamesText goes = Unit {0}
NamesText gives_way = Unit {0}

-- what a move names is a text, if there is a move
abbrev MayName : Option Move → Type 0
MayName None = Unit {0}
MayName (Some m) = NamesText m

either_names : (x : Bool) (m n : Option Move) → MayName m → MayName n → MayName (if x then m else n)
either_names true m n g h = g
either_names false m n g h = h

most_in_names : (rules : Rules) → most_spelled rules ≤ MOST_NAME_BYTES
most_in_names One = let le : MOST_SPELLED_BEFORE ≤ MOST_NAME_BYTES = omega arith in le
most_in_names Two = let le : MOST_SPELLED_BEFORE ≤ MOST_NAME_BYTES = omega arith in le
most_in_names Four = let le : MOST_NAME_BYTES ≤ MOST_NAME_BYTES = omega arith in le
most_in_names Five = let le : MOST_NAME_BYTES ≤ MOST_NAME_BYTES = omega arith in le
most_in_names Three = let le : MOST_NAME_BYTES ≤ MOST_NAME_BYTES = omega arith in le

spelled_names : (most : ℕ) (a : Term) (s : Found (List ℕ)) → most ≤ MOST_NAME_BYTES → IsSpelled most s → MayName (move_found (λ text. names text a) s)
spelled_names most a (found text) le h = and_from (nat_le (length text) MOST_NAME_BYTES) (list_all is_name_byte text) (le-leb (length text) MOST_NAME_BYTES (let few = h.1 in omega arith)) h.0
spelled_names most a (awaits v) le h = tt
spelled_names most a wrong le h = tt

become_names : (a : Term) (n : Number) → NamesText (becomes a n)
become_names a (Value z) = tt
become_names a Overflow = tt
become_names a ZeroDivisor = tt

assigned_names : (a : Term) (e : Found Number) → MayName (move_found (becomes a) e)
assigned_names a (found n) = become_names a n
assigned_names a (awaits v) = tt
assigned_names a wrong = tt

ordered_names : (o : ExecuteArguments) (l : Found ⊤) → MayName (move_found (λ right. opens o) l)
ordered_names o (found right) = tt
ordered_names o (awaits v) = tt
ordered_names o wrong = tt

order_names : (o : Option ExecuteArguments) → MayName (order_move o)
order_names None = tt
order_names (Some o) = ordered_names o (arguments_look o)

execute_names : (a b : Term) → MayName (execute_move a b)
execute_names (atom m) b = either_names (is_execute m b) (order_move (execute_arguments b)) None (order_names (execute_arguments b)) tt
execute_names (variable v) b = tt
execute_names (integer i) b = tt
execute_names (structure f ts) b = tt

pair_names : (rules : Rules) (f : List ℕ) (a b : Term) → MayName (pair_move rules f a b)
pair_names rules f a b =
    let last = if bytes_eq f (codes ":") then execute_move a b else None in
    let most = most_spelled rules in
    let third = if bytes_eq f (codes "atom_from") then move_found (λ text. names text b) (spelling most a) else last in
    let second = if bytes_eq f (codes ":=") then move_found (becomes a) (evaluated b) else third in
    either_names (bytes_eq f (codes "=")) (Some (unifies a b)) second tt
    (either_names (bytes_eq f (codes ":=")) (move_found (becomes a) (evaluated b)) third (assigned_names a (evaluated b))
    (either_names (bytes_eq f (codes "atom_from")) (move_found (λ text. names text b) (spelling most a)) last (spelled_names most b (spelling most a) (most_in_names rules) (is_spelled most a))
    (either_names (bytes_eq f (codes ":")) (execute_move a b) None (execute_names a b) tt)))

built_in_names : (rules : Rules) (t : Term) → MayName (built_in_move rules t)
built_in_names rules (atom a) = either_names (bytes_eq a (codes "true")) (Some goes) None tt tt
built_in_names rules (structure f (more a (more b none))) = pair_names rules f a b
built_in_names rules (variable v) = tt
built_in_names rules (integer i) = tt
built_in_names rules (structure f none) = tt
built_in_names rules (structure f (more a none)) = tt
built_in_names rules (structure f (more a (more b (more c ts)))) = tt

commit_names : (o : Option Candidate) → MayName (option_map (λ k. commits k) o)
commit_names None = tt
commit_names (Some k) = tt

call_names : (modules : List Module) (call : Call) (clause : ℕ) → MayName (call_move modules call clause)
call_names modules call clause =
    let failing = if fails modules call then Some (raises failure) else None in
    let found = find (λ k. k.number == clause) (candidates_of modules call) in
    either_names (clause == 0) failing (option_map (λ k. commits k) found) (either_names (fails modules call) (Some (raises failure)) None tt tt) (commit_names found)

term_names : (rules : Rules) (modules : List Module) (t : Term) (clause : ℕ) (o : Option Call) → MayName (term_move rules modules t clause o)
term_names rules modules t clause None = either_names (clause == 0) (built_in_move rules t) None (built_in_names rules t) tt
term_names rules modules t clause (Some call) = call_names modules call clause

substitute_names : (l : Found ⊤) → MayName (substitute_move l)
substitute_names (found right) = tt
substitute_names (awaits v) = tt
substitute_names wrong = tt

-- what an action names is a text
abbrev pub ActionText : Action → Type 0
ActionText (moves t m) = NamesText m
ActionText (reads c) = Unit {0}

-- what an action names is a text, if there is an action
abbrev pub MayAct : Option Action → Type 0
MayAct None = Unit {0}
MayAct (Some a) = ActionText a

either_acts : (x : Bool) (a b : Option Action) → MayAct a → MayAct b → MayAct (if x then a else b)
either_acts true a b g h = g
either_acts false a b g h = h

moves_act : (t : Term) (m : Option Move) → MayName m → MayAct (option_map (moves t) m)
moves_act t None h = tt
moves_act t (Some m) h = h

read_acts : (c : Control) → MayAct (read_action c)
read_acts (awaits_message v) = tt
read_acts (tells m rest) = tt
read_acts (tells_other m rest) = tt
read_acts ends = tt
read_acts (breaks_off t) = tt

monitor_acts : (h : Option Shoen) (clause : ℕ) → MayAct (monitor_action h clause)
monitor_acts None clause = tt
monitor_acts (Some h) clause = either_acts (clause == 0) (read_action (control_of h.control)) None (read_acts (control_of h.control)) tt

task_acts : (s : State) (shoen : ℕ) (task : Task) (clause : ℕ) → MayAct (task_action s shoen task clause)
task_acts s shoen monitor clause = monitor_acts (shoen_at shoen s.shoens) clause
task_acts s shoen (reduces t) clause = moves_act t (term_move s.rules s.modules t clause (call_of t)) (term_names s.rules s.modules t clause (call_of t))
task_acts s shoen (substitutes t) clause = either_acts (clause == 0) (option_map (moves t) (substitute_move (goal_look t))) None (moves_act t (substitute_move (goal_look t)) (substitute_names (goal_look t))) tt

-- what a goal can do names texts alone
pub actions_name_texts : (s : State) (g : Goal) (clause : ℕ) → MayAct (action_of s g clause)
actions_name_texts s g clause = either_acts (is_enabled s g) (task_action s g.shoen g.task clause) None (task_acts s g.shoen g.task clause) tt
