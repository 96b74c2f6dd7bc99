-- Which reductions are refused.
use Rattle.kl1_machine.proofs.Words.{◌≡◌, ℕ, ◌==◌, ◌&&◌, ◌||◌, if◌then◌else◌, Bool, true, false, List, map, refl, sym, ap, ◌∙◌, Option, Some, None, option_map, find, AllByRecursion, State, is_enabled, is_enabled_in, reduce, refuse, syntax, step_refused, journal_full, reduced, is_number, is_full, needs_entry, with_reduction, is_in_run, step, Action, reads, moves, acted, task_action, reduce_goal, reduced_by, CellName, Held, control_as, Place, Task, Goal, is_monitor, Shoen, Has, enabled_is, contents, Program, Step, Journal, Reading, Fits, Means, meaning, task_with, goal_with, shoen_with, aim, task_clause, control_with, IsSettled, IsEnabled, AreEnabled, worked, Machine, made, Plan, Judges, IsPlan, DoesNothing, IsRested, IsSteppable, Refuses}
use Rattle.kl1_model.specs.State.{goal_at}
use Rattle.kl1_goals.specs.Lists.{has_number}
use Rattle.kl1_ready.specs.declared.planning.Plan.TheVariants as plan
use Rattle.kl1_user_effects.proofs.Goals.{monitor_read}
use Rattle.kl1_user_effects.proofs.Lists.{find_by}
use Rattle.kl1_machine.proofs.Looking as looking

-- ---- a goal, by its number

-- what holds of each goal holds of the one that is found
pub found_holds : (P : Goal CellName → Type 0) (n : ℕ) (gs : List (Goal CellName)) (g : Goal CellName) → AllByRecursion P gs → find (has_number n) gs ≡ Some g → P g
found_holds P n gs g i e = looking.found_holds P (has_number n) gs g i (sym e)

pub goal_read : (t : Means) (n : ℕ) (gs : List (Goal CellName)) → goal_at n (map (goal_with t) gs) ≡ option_map (goal_with t) (find (has_number n) gs)
goal_read t n gs = find_by (goal_with t) (λ g. g.number == n) (has_number n) (λ g. refl) gs

-- the state of an account with a machine
abbrev pub state_in : Reading → State → Machine → State
state_in f s m = worked f s m.store.held (made m)

finds_goal : (f : Reading) (s : State) (m : Machine) (n : ℕ) (o : Option (Goal CellName)) → find (has_number n) m.goals.goals ≡ o → goal_at n (state_in f s m).goals ≡ option_map (goal_with (meaning f m.store.held)) o
finds_goal f s m n o e = goal_read (meaning f m.store.held) n m.goals.goals ∙ ap (option_map (goal_with (meaning f m.store.held))) e

-- a goal may step just if the definitions let it
pub enabled_read : (f : Reading) (h : Held CellName) (shoens : List (Shoen CellName)) (work : List ℕ) (s : State) (g : Goal CellName) → s.shoens ≡ map (shoen_with (meaning f h)) shoens → s.work ≡ work → IsEnabled shoens work g → is_enabled s (goal_with (meaning f h) g) ≡ g.is_enabled
enabled_read f h shoens work s g e w is =
    let has : Has f h shoens work s = record { shoens = e; charged = w } in
    ap (λ b. b || is_enabled_in s g.shoen) (monitor_read (meaning f h) g.task)
    ∙ ap (λ b. is_monitor g || b) (enabled_is f h shoens work s has g.shoen) ∙ sym is

-- ---- the step of a reduction

-- numbers that a command can't have are refused
pub steps_syntax : (s : State) (n c : ℕ) → (is_number n && is_number c) ≡ false → step s (reduce n c) ≡ refuse s syntax
steps_syntax s n c e = ap (λ b. if b then reduce_goal s (is_in_run s n c) c (goal_at n s.goals) else refuse s syntax) e

-- a goal that isn't there is refused
pub steps_nowhere : (f : Reading) (s : State) (m : Machine) (n c : ℕ) → (is_number n && is_number c) ≡ true → find (has_number n) m.goals.goals ≡ None → step (state_in f s m) (reduce n c) ≡ refuse (state_in f s m) step_refused
steps_nowhere f s m n c e g =
    let z = state_in f s m in
    ap (λ b. if b then reduce_goal z (is_in_run z n c) c (goal_at n z.goals) else refuse z syntax) e ∙ ap (reduce_goal z (is_in_run z n c) c) (finds_goal f s m n None g)

-- a goal that is there does what its task can, if it may step
pub steps_by : (f : Reading) (s : State) (m : Machine) (n c : ℕ) (g : Goal CellName) (may : Bool) → (is_number n && is_number c) ≡ true → find (has_number n) m.goals.goals ≡ Some g → g.is_enabled ≡ may → AreEnabled m.shoens.shoens m.shoens.work m.goals.goals →
    step (state_in f s m) (reduce n c)
    ≡ reduced_by (state_in f s m) (is_in_run (state_in f s m) n c) (goal_with (meaning f m.store.held) g) (if may then task_action (state_in f s m) g.shoen (task_with (meaning f m.store.held) g.task) c else None)
steps_by f s m n c g may numbers found enabled all =
    let z = state_in f s m in
    let t = meaning f m.store.held in
    ap (λ b. if b then reduce_goal z (is_in_run z n c) c (goal_at n z.goals) else refuse z syntax) numbers
    ∙ ap (reduce_goal z (is_in_run z n c) c) (finds_goal f s m n (Some g) found)
    ∙ ap (λ b. reduced_by z (is_in_run z n c) (goal_with t g) (if b then task_action z g.shoen (task_with t g.task) c else None))
    (enabled_read f m.store.held m.shoens.shoens m.shoens.work z g refl refl (found_holds (IsEnabled m.shoens.shoens m.shoens.work) n m.goals.goals g all found) ∙ enabled)

-- an action is done, unless it needs an entry and the journal is full
pub steps_some : (f : Reading) (s : State) (m : Machine) (n c : ℕ) (g : Goal CellName) (x : Action) (full : Bool) → IsSteppable m.goals.goals n c g → AreEnabled m.shoens.shoens m.shoens.work m.goals.goals → task_action (state_in f s m) g.shoen (task_with (meaning f m.store.held) g.task) c ≡ Some x →
    (needs_entry (is_in_run (state_in f s m) n c) (state_in f s m) && is_full (state_in f s m)) ≡ full →
    step (state_in f s m) (reduce n c) ≡ (if full then refuse (state_in f s m) journal_full else record { state = acted (goal_with (meaning f m.store.held) g) x (with_reduction (is_in_run (state_in f s m) n c) (state_in f s m)); reply = reduced })
steps_some f s m n c g x full is all e room =
    let z = state_in f s m in
    let k = goal_with (meaning f m.store.held) g in
    let in_run = is_in_run z n c in
    steps_by f s m n c g true is.numbers is.found is.enabled all ∙ ap (reduced_by z in_run k) e
    ∙ ap (λ b. if b then refuse z journal_full else record { state = acted k x (with_reduction in_run z); reply = reduced }) room

-- ---- which are refused

-- a reading that fits the names of a machine at rest reads the modules, and by it each goal was judged
pub rested_judges : (program : Program) (m : Machine) (n : ℕ) (g : Goal CellName) (f : Reading) → IsRested program m → find (has_number n) m.goals.goals ≡ Some g → Fits m.names.names f → Judges program m.store.held g f
rested_judges program m n g f rested found fits =
    let t = meaning f m.store.held in
    let settled = found_holds (IsSettled f m.store.hooks m.store.held program m.shoens.shoens) n m.goals.goals g (rested.settled f fits) found in
    record {
      knows = record { reads = fits.reads; rows = rested.rows f fits };
      judged = λ x c task stands. ap (λ (k : Task CellName). task_clause program.rules (contents program.loaded) (control_with t m.shoens.shoens g.shoen) (task_with t k)) (sym task) ∙ sym settled.standing ∙ stands;
      does = settled.does;
    }

-- goal `n` of a machine at rest may step
pub record MayStep (program : Program) (m : Machine) (n c : ℕ) (g : Goal CellName) : Type 0 where
  pub rested : IsRested program m
  pub steppable : IsSteppable m.goals.goals n c g

-- a goal that can do nothing is refused
pub nothing_refused : (program : Program) (full : Bool) (m : Machine) (n c : ℕ) (g : Goal CellName) → MayStep program m n c g → DoesNothing program m.store.held (made m) g c → Refuses program full n c m Step
nothing_refused program full m n c g may does = λ f fits s is room.
    let z = state_in f s m in
    let can = may.steppable in
    steps_by f s m n c g true can.numbers can.found can.enabled may.rested.enabled
    ∙ ap (reduced_by z (is_in_run z n c) (goal_with (meaning f m.store.held) g)) (does f (rested_judges program m n g f may.rested can.found fits) s is)

-- what a goal can do is refused if it needs an entry and the journal is full
pub full_refused : (program : Program) (full : Bool) (m : Machine) (n c : ℕ) (g : Goal CellName) (places : List (Place CellName)) (text : List ℕ) (p : Plan) → MayStep program m n c g → full ≡ true → IsPlan program m.store.held (made m) g c places text p → Refuses program full n c m Journal
full_refused program full m n c g places text (plan.Reads control) may full_is p = λ f fits s is room.
    steps_some f s m n c g (reads (control_as f m.store.held control)) true may.steppable may.rested.enabled (p.does f (rested_judges program m n g f may.rested may.steppable.found fits) s is) (room ∙ full_is)
full_refused program full m n c g places text (plan.Moves a) may full_is p = λ f fits s is room.
    steps_some f s m n c g (moves (aim f m.store.held a.cell) (p.move f)) true may.steppable may.rested.enabled (p.does f (rested_judges program m n g f may.rested may.steppable.found fits) s is) (room ∙ full_is)
