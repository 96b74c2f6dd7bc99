-- What goals can do, and which is first, with other numbers.
use Rattle.std.proofs.Common.{◌≡◌, ℕ, ◌==◌, not, ◌&&◌, Bool, true, false, if◌then◌else◌, List, [], ◌∷◌, refl, ap, ap₂, ◌∙◌}
use Rattle.std.specs.Prelude.{map, find, filter, Option, Some, None, option_map, option_and_then, is_some}
use Rattle.std.specs.List.{list_any}
use Rattle.kl1_model.specs.Term.{Term}
use Rattle.kl1_model.specs.Module.{Module}
use Rattle.kl1_model.specs.Match.{Call, call_of, Candidate, candidates_of}
use Rattle.kl1_model.specs.Look.{goal_look}
use Rattle.kl1_model.specs.Control.{Control, awaits_message, tells, tells_other, ends, breaks_off, control_of}
use Rattle.kl1_model.specs.State.{Task, monitor, reduces, substitutes, Goal, Shoen, State, has_runs, shoen_at}
use Rattle.kl1_model.specs.Tree.{is_enabled}
use Rattle.kl1_model.specs.Reduction.{Move, gives_way, Action, moves, reads, read_action, task_action, action_of, term_move, move_found}
use Rattle.kl1_model.specs.Choice.{task_clauses, clause_for, can_step, quiet, goes_before, first_of_goals, Chosen, first, is_in_run}
use Rattle.kl1_model.specs.code.Steps.{monitor_action}
use Rattle.kl1_model.specs.laws.RelabelLaws.{renamed, task_renamed, goal_renamed, shoen_renamed, IsIncreasing}
use Rattle.kl1_model.proofs.RenamedMoves.{candidate_renamed, call_renamed, move_renamed, candidates_renamed, call_is, term_move_is, way_is}
use Rattle.kl1_model.proofs.RenamedControl.{control_renamed, control_is}
use Rattle.kl1_model.proofs.RelabelledStates.{AreAlike, like, any_same, filter_same, shoen_found, enabled_is}

-- ---- what goals do

abbrev pub action_renamed : (ℕ → ℕ) → Action → Action
action_renamed g (moves t m) = moves (renamed g t) (move_renamed g m)
action_renamed g (reads c) = reads (control_renamed g c)

moving_is : (g : ℕ → ℕ) (t : Term) (o : Option Move) → option_map (moves (renamed g t)) (option_map (move_renamed g) o) ≡ option_map (action_renamed g) (option_map (moves t) o)
moving_is g t None = refl
moving_is g t (Some m) = refl

read_is : (g : ℕ → ℕ) (c : Control) → read_action (control_renamed g c) ≡ option_map (action_renamed g) (read_action c)
read_is g (awaits_message v) = refl
read_is g (tells m rest) = refl
read_is g (tells_other m rest) = refl
read_is g ends = refl
read_is g (breaks_off t) = refl

if_action : (g : ℕ → ℕ) (c : Bool) (x y : Option Action) → x ≡ option_map (action_renamed g) y → (if c then x else None) ≡ option_map (action_renamed g) (if c then y else None)
if_action g true x y e = e
if_action g false x y e = refl

monitor_by : (g : ℕ → ℕ) (o : Option Shoen) (clause : ℕ) → monitor_action (option_map (shoen_renamed g) o) clause ≡ option_map (action_renamed g) (monitor_action o clause)
monitor_by g None clause = refl
monitor_by g (Some h) clause =
    if_action g (clause == 0) (read_action (control_of (renamed g h.control))) (read_action (control_of h.control)) (ap read_action (control_is g h.control) ∙ read_is g (control_of h.control))

task_is : (g : ℕ → ℕ) (b : Bool) (w : List ℕ) (s : State) (shoen : ℕ) (t : Task) (clause : ℕ) → IsIncreasing g → task_action (like g w s) shoen (task_renamed g t) clause ≡ option_map (action_renamed g) (task_action s shoen t clause)
task_is g b w s shoen monitor clause up = ap (λ o. monitor_action o clause) (shoen_found g shoen s.shoens) ∙ monitor_by g (shoen_at shoen s.shoens) clause
task_is g b w s shoen (reduces t) clause up =
    ap (option_map (moves (renamed g t))) (term_move_is g s.rules s.modules t clause up) ∙ moving_is g t (term_move s.rules s.modules t clause (call_of t))
task_is g b w s shoen (substitutes t) clause up =
    if_action g (clause == 0) (option_map (moves (renamed g t)) (move_found (λ right. gives_way) (goal_look (renamed g t)))) (option_map (moves t) (move_found (λ right. gives_way) (goal_look t)))
    (ap (option_map (moves (renamed g t))) (way_is g t) ∙ moving_is g t (move_found (λ right. gives_way) (goal_look t)))

pub action_is : (g : ℕ → ℕ) (b : Bool) (w : List ℕ) (s : State) (k : Goal) (clause : ℕ) → IsIncreasing g → AreAlike b s.work w → action_of (like g w s) (goal_renamed g k) clause ≡ option_map (action_renamed g) (action_of s k clause)
action_is g b w s k clause up work =
    ap₂ (λ c (o : Option Action). if c then o else None) (enabled_is g b w s k work) (task_is g b w s k.shoen k.task clause up)
    ∙ if_action g (is_enabled s k) (option_map (action_renamed g) (task_action s k.shoen k.task clause)) (task_action s k.shoen k.task clause) refl

-- ---- which goal is first

numbers_are : (g : ℕ → ℕ) (ks : List Candidate) → map (λ k. k.number) (map (candidate_renamed g) ks) ≡ map (λ k. k.number) ks
numbers_are g [] = refl
numbers_are g (k ∷ ks) = ap (λ (l : List ℕ). k.number ∷ l) (numbers_are g ks)

abbrev clauses_by : List Module → Option Call → List ℕ
clauses_by modules o = 0 ∷ elim o [ None ↦ [] | Some call ↦ map (λ k. k.number) (candidates_of modules call) ]

clauses_by_are : (g : ℕ → ℕ) (modules : List Module) (o : Option Call) → IsIncreasing g → clauses_by modules (option_map (call_renamed g) o) ≡ clauses_by modules o
clauses_by_are g modules None up = refl
clauses_by_are g modules (Some call) up = ap (λ (l : List ℕ). 0 ∷ l) (ap (map (λ k. k.number)) (candidates_renamed g modules call up) ∙ numbers_are g (candidates_of modules call))

task_clauses_are : (g : ℕ → ℕ) (modules : List Module) (t : Task) → IsIncreasing g → task_clauses modules (task_renamed g t) ≡ task_clauses modules t
task_clauses_are g modules monitor up = refl
task_clauses_are g modules (substitutes t) up = refl
task_clauses_are g modules (reduces t) up = ap (clauses_by modules) (call_is g t) ∙ clauses_by_are g modules (call_of t) up

some_action : (g : ℕ → ℕ) (o : Option Action) → is_some (option_map (action_renamed g) o) ≡ is_some o
some_action g None = refl
some_action g (Some a) = refl

find_alike : (f h : ℕ → Bool) → ((n : ℕ) → h n ≡ f n) → (ns : List ℕ) → find h ns ≡ find f ns
find_alike f h e [] = refl
find_alike f h e (n ∷ ns) = ap₂ (λ b (o : Option ℕ). if b then Some n else o) (e n) (find_alike f h e ns)

pub clause_is : (g : ℕ → ℕ) (b : Bool) (w : List ℕ) (s : State) (k : Goal) → IsIncreasing g → AreAlike b s.work w → clause_for (like g w s) (goal_renamed g k) ≡ clause_for s k
clause_is g b w s k up work =
    ap (find (λ clause. is_some (action_of (like g w s) (goal_renamed g k) clause))) (task_clauses_are g s.modules k.task up)
    ∙ find_alike (λ clause. is_some (action_of s k clause)) (λ clause. is_some (action_of (like g w s) (goal_renamed g k) clause))
    (λ clause. ap is_some (action_is g b w s k clause up work) ∙ some_action g (action_of s k clause)) (task_clauses s.modules k.task)

step_is : (g : ℕ → ℕ) (b : Bool) (w : List ℕ) (s : State) (k : Goal) → IsIncreasing g → AreAlike b s.work w → can_step (like g w s) (goal_renamed g k) ≡ can_step s k
step_is g b w s k up work = ap is_some (clause_is g b w s k up work)

pub quiet_is : (g : ℕ → ℕ) (b : Bool) (w : List ℕ) (s : State) → IsIncreasing g → AreAlike b s.work w → quiet (like g w s) ≡ quiet s
quiet_is g b w s up work = ap not (any_same (goal_renamed g) (can_step s) (can_step (like g w s)) (λ k. step_is g b w s k up work) s.goals)

one_goal : (g : ℕ → ℕ) (c d : Bool) (k : Goal) (o p : Option Goal) → d ≡ c → p ≡ option_map (goal_renamed g) o → (if d then Some (goal_renamed g k) else p) ≡ option_map (goal_renamed g) (if c then Some k else o)
one_goal g true true k o p e f = refl
one_goal g true false k o p e f = absurd (cc)
one_goal g false true k o p e f = absurd (cc)
one_goal g false false k o p e f = f

pub find_same : (g : ℕ → ℕ) (f h : Goal → Bool) → ((k : Goal) → h (goal_renamed g k) ≡ f k) → (ks : List Goal) → find h (map (goal_renamed g) ks) ≡ option_map (goal_renamed g) (find f ks)
find_same g f h e [] = refl
find_same g f h e (k ∷ ks) = one_goal g (f k) (h (goal_renamed g k)) k (find f ks) (find h (map (goal_renamed g) ks)) (e k) (find_same g f h e ks)

first_goal_is : (g : ℕ → ℕ) (ks : List Goal) → first_of_goals (map (goal_renamed g) ks) ≡ option_map (goal_renamed g) (first_of_goals ks)
first_goal_is g ks =
    find_same g (λ k. not (list_any (λ h. goes_before h k) ks)) (λ k. not (list_any (λ h. goes_before h k) (map (goal_renamed g) ks)))
    (λ k. ap not (any_same (goal_renamed g) (λ h. goes_before h k) (λ h. goes_before h (goal_renamed g k)) (λ h. refl) ks)) ks

abbrev chosen_of : State → Option Goal → Option Chosen
chosen_of s o = option_and_then (λ k. option_map (λ c. record { goal = k.number; clause = c }) (clause_for s k)) o

chosen_is : (g : ℕ → ℕ) (b : Bool) (w : List ℕ) (s : State) (o : Option Goal) → IsIncreasing g → AreAlike b s.work w → chosen_of (like g w s) (option_map (goal_renamed g) o) ≡ chosen_of s o
chosen_is g b w s None up work = refl
chosen_is g b w s (Some k) up work = ap (option_map (λ c. let x : Chosen = record { goal = k.number; clause = c } in x)) (clause_is g b w s k up work)

pub first_is : (g : ℕ → ℕ) (b : Bool) (w : List ℕ) (s : State) → IsIncreasing g → AreAlike b s.work w → first (like g w s) ≡ first s
first_is g b w s up work =
    ap (λ ks. chosen_of (like g w s) (first_of_goals ks)) (filter_same (goal_renamed g) (can_step s) (can_step (like g w s)) (λ k. step_is g b w s k up work) s.goals)
    ∙ ap (chosen_of (like g w s)) (first_goal_is g (filter (can_step s) s.goals))
    ∙ chosen_is g b w s (first_of_goals (filter (can_step s) s.goals)) up work

pub run_is : (g : ℕ → ℕ) (b : Bool) (w : List ℕ) (s : State) (goal clause : ℕ) → IsIncreasing g → AreAlike b s.work w → is_in_run (like g w s) goal clause ≡ is_in_run s goal clause
run_is g b w s goal clause up work = ap (λ (o : Option Chosen). has_runs s.rules && elim o [ None ↦ false | Some c ↦ c.goal == goal && c.clause == clause ]) (first_is g b w s up work)
