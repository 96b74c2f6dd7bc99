-- What holds of the goals and the shoens that an account keeps.
use Rattle.std.specs.Prelude.{ℕ, suc, ◌<◌, ◌≤◌, List, Option, Some, None}
use Rattle.std.specs.List.{AllByRecursion}
use Rattle.kl1_model.specs.declared.limits.TheConstants.{MONITOR_PRIORITY}
use Rattle.kl1_text.specs.declared.cell_name.CellName.{CellName}
use Rattle.kl1_store.specs.Held.{Held, IsIn}
use Rattle.kl1_goals.specs.declared.task.Task.{Task}
use Rattle.kl1_goals.specs.declared.task.Task.TheVariants.{Monitor, Reduces, Substitutes}
use Rattle.kl1_goals.specs.declared.goal.Goal.{Goal}
use Rattle.kl1_shoen_paths.specs.declared.shoen.Origin.{Origin}
use Rattle.kl1_shoen_paths.specs.declared.shoen.Shoen.{Shoen}

-- the cells of a task are of the store
abbrev pub IsTaskIn : Held CellName → Task CellName → Type 0
IsTaskIn h Monitor = Unit {0}
IsTaskIn h (Reduces q) = IsIn h q.cell
IsTaskIn h (Substitutes x) = IsIn h x

-- the cells of goals are of the store
abbrev pub AreGoalsIn : Held CellName → List (Goal CellName) → Type 0
AreGoalsIn h goals = AllByRecursion (λ g. IsTaskIn h g.task) goals

-- a goal is of one of `count` shoens
pub record IsOwned (count : ℕ) (g : Goal CellName) : Type 0 where
  pub low : 0 < g.shoen
  pub high : g.shoen < suc count

-- each goal is of one of `count` shoens
abbrev pub AreOwned : ℕ → List (Goal CellName) → Type 0
AreOwned count goals = AllByRecursion (IsOwned count) goals

-- no goal has a number above the last
abbrev pub AreUpTo : ℕ → List (Goal CellName) → Type 0
AreUpTo last goals = AllByRecursion (λ g. g.number ≤ last) goals

-- the cells of what the console keeps are of the store
pub record IsKeptIn (h : Held CellName) (o : Origin CellName) : Type 0 where
  pub goal : IsIn h o.goal
  pub reports : IsIn h o.reports
  pub control : IsIn h o.control

-- the cells of what the console keeps are of the store, if it keeps something
abbrev pub IsOriginIn : Held CellName → Option (Origin CellName) → Type 0
IsOriginIn h None = Unit {0}
IsOriginIn h (Some o) = IsKeptIn h o

-- the cells of a shoen are of the store, and its range has no priority above a monitor's
pub record IsShoenIn (h : Held CellName) (s : Shoen CellName) : Type 0 where
  pub control : IsIn h s.control
  pub tail : IsIn h s.tail
  pub origin : IsOriginIn h s.origin
  pub low : s.low ≤ MONITOR_PRIORITY
  pub high : s.high ≤ MONITOR_PRIORITY

-- the cells of each of these shoens are of the store, and no range has a priority above a monitor's
abbrev pub AreShoensIn : Held CellName → List (Shoen CellName) → Type 0
AreShoensIn h shoens = AllByRecursion (IsShoenIn h) shoens
