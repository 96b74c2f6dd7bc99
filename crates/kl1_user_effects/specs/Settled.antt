-- Goals that stand as the clauses and the control streams have it, that hang on each variable that they wait for, and that may step
-- as the tree of shoens has it.
use Rattle.std.specs.Prelude.{◌≡◌, ℕ, ◌||◌, List, [], Option, None, Some, option_map}
use Rattle.std.specs.List.{AllByRecursion}
use Rattle.kl1_model.specs.declared.rules.Rules.{Rules}
use Rattle.kl1_model.specs.Module.{Module}
use Rattle.kl1_model.specs.State as model
use Rattle.kl1_model.specs.State.{monitor, reduces, substitutes}
use Rattle.kl1_model.specs.Control.{Control, awaits_message, tells, tells_other, ends, breaks_off, control_of}
use Rattle.kl1_model.specs.code.Waits.{awaited_by_control, term_clause, awaited_by_term, substitute_clause, awaited_by_substitute}
use Rattle.kl1_text.specs.declared.cell_name.CellName.{CellName}
use Rattle.kl1_store.specs.declared.cell.Cell.{Cell}
use Rattle.kl1_store.specs.Hooks.{Hook}
use Rattle.kl1_store.specs.Held.{Held}
use Rattle.kl1_goals.specs.declared.goal.Goal.{Goal}
use Rattle.kl1_goals_moves.specs.Judged.{DoesAs, SubstituteDoes}
use Rattle.kl1_goals.specs.declared.standing.Standing.{Standing}
use Rattle.kl1_goals.specs.Readies.{clause_in}
use Rattle.kl1_goals.specs.Lists.{is_monitor}
use Rattle.kl1_shoen_paths.specs.declared.shoen.Shoen.{Shoen}
use Rattle.kl1_shoen.specs.Shoens.{shoen_in, is_enabled_at}
use Rattle.kl1_codes.specs.Finding.{contents}
use Rattle.kl1_codes.specs.Shelves.{Program}
use Rattle.kl1_store_hooks.specs.Hanging.{HangsOnEach}
use Rattle.kl1_user_effects.specs.Fitting.{Reading}
use Rattle.kl1_user_effects.specs.Account.{Means, meaning, task_with}

-- the cell of what is left of the control stream of shoen `n`, if there is one
abbrev pub control_at : List (Shoen CellName) → ℕ → Option (Cell CellName)
control_at shoens n = option_map (λ h. h.control) (shoen_in n shoens)

-- what stands at the front of the control stream that a cell means, if there is one
abbrev pub front_with : Means → Option (Cell CellName) → Option Control
front_with t x = option_map (λ y. control_of (t y)) x

-- what stands at the front of the control stream of shoen `n`, if cells mean this
abbrev pub control_with : Means → List (Shoen CellName) → ℕ → Option Control
control_with t shoens n = front_with t (control_at shoens n)

-- the clause by which a monitor can step that has this in front of it
abbrev pub control_clause : Control → Option ℕ
control_clause (awaits_message v) = None
control_clause (tells m rest) = Some 0
control_clause (tells_other m rest) = Some 0
control_clause ends = Some 0
control_clause (breaks_off t) = Some 0

-- the clause by which a monitor can step, if there is a control stream
abbrev pub monitor_clause : Option Control → Option ℕ
monitor_clause None = None
monitor_clause (Some c) = control_clause c

-- the variables that a monitor waits for
abbrev pub awaited_by_monitor : Option Control → List ℕ
awaited_by_monitor None = []
awaited_by_monitor (Some c) = awaited_by_control c

-- the clause by which a task could step, whether it may or not, with this at the front of its shoen's control stream
abbrev pub task_clause : Rules → List Module → Option Control → model.Task → Option ℕ
task_clause rules modules c monitor = monitor_clause c
task_clause rules modules c (reduces t) = term_clause rules modules t
task_clause rules modules c (substitutes t) = substitute_clause t

-- the variables that a task waits for, with this at the front of its shoen's control stream
abbrev pub awaited_by_task : Rules → List Module → Option Control → model.Task → List ℕ
awaited_by_task rules modules c monitor = awaited_by_monitor c
awaited_by_task rules modules c (reduces t) = awaited_by_term rules modules t
awaited_by_task rules modules c (substitutes t) = awaited_by_substitute t

-- a task that stands so is of this form; of a monitor's nothing is said
abbrev pub TaskDoes : Rules → model.Task → Standing → Type 0
TaskDoes rules monitor s = Unit {0}
TaskDoes rules (reduces t) s = DoesAs rules t s
TaskDoes rules (substitutes t) s = SubstituteDoes t s

-- a goal stands as the rules, the clauses of the modules and the control streams of the shoens have it, and hangs on each variable that it
-- waits for, for a reading
pub record IsSettled (f : Reading) (hooks : List Hook) (h : Held CellName) (program : Program) (shoens : List (Shoen CellName)) (g : Goal CellName) : Type 0 where
  pub standing : clause_in g.standing ≡ task_clause program.rules (contents program.loaded) (control_with (meaning f h) shoens g.shoen) (task_with (meaning f h) g.task)
  pub does : TaskDoes program.rules (task_with (meaning f h) g.task) g.standing
  pub hung : HangsOnEach hooks g.number (awaited_by_task program.rules (contents program.loaded) (control_with (meaning f h) shoens g.shoen) (task_with (meaning f h) g.task))

-- each goal does
abbrev pub AreSettled : Reading → List Hook → Held CellName → Program → List (Shoen CellName) → List (Goal CellName) → Type 0
AreSettled f hooks h program shoens goals = AllByRecursion (IsSettled f hooks h program shoens) goals

-- a goal may step as the shoens and the charged work have it; a monitor always may
abbrev pub IsEnabled : List (Shoen CellName) → List ℕ → Goal CellName → Type 0
IsEnabled shoens work g = g.is_enabled ≡ (is_monitor g || is_enabled_at shoens work g.shoen)

-- each goal may
abbrev pub AreEnabled : List (Shoen CellName) → List ℕ → List (Goal CellName) → Type 0
AreEnabled shoens work goals = AllByRecursion (IsEnabled shoens work) goals
