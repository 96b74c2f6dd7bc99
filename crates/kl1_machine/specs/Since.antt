-- What an event has done to a machine since it began.
use Rattle.std.specs.Prelude.{◌≡◌, ℕ, suc, ◌<◌, ◌≤◌, Bool, true, false, Result, Ok, Err, List, ◌++◌, length}
use Rattle.std.specs.List.{filter, AllByRecursion}
use Rattle.kl1_model.specs.Module.{is_among}
use Rattle.kl1_text.specs.declared.cell_name.CellName.{CellName}
use Rattle.kl1_goals.specs.declared.goal.Goal.{Goal}
use Rattle.kl1_goals.specs.Lists.{is_monitor, is_monitor_of}
use Rattle.kl1_shoen_paths.specs.declared.shoen.Shoen.{Shoen}
use Rattle.kl1_shoen.specs.Shoens.{is_on_path_in}
use Rattle.kl1_user_effects.specs.Settled.{control_at}
use Rattle.kl1_user_effects.specs.Frames.{SameFlags}
use Rattle.kl1_machine.specs.declared.machine.Machine.{Machine}
use Rattle.kl1_machine.specs.Machines.{Keeps}

-- some of the goals that were there are left, as they were, and after them stand those that came, with numbers above the last that was
pub record HasCome (b n : Machine) : Type 0 where
  pub left : Goal CellName → Bool
  pub added : List (Goal CellName)
  pub goals : n.goals.goals ≡ filter left b.goals.goals ++ added
  pub above : AllByRecursion (λ g. b.counts.last_goal < g.number) added
  pub last : b.counts.last_goal ≤ n.counts.last_goal

-- a goal, if it was there and is a monitor that isn't told, has the control stream before it that it had
abbrev pub KeepsControl : Machine → Machine → Goal CellName → Type 0
KeepsControl b n g = g.number ≤ b.counts.last_goal → is_monitor g ≡ true → is_among g.number n.told.items ≡ false → control_at n.shoens.shoens g.shoen ≡ control_at b.shoens.shoens g.shoen

-- what an event has done to a machine `b` since it began: nothing hangs that didn't, goals have gone and come, shoens have come, monitors
-- that aren't told have the control streams before them that they had, goals may step as before unless that is to be looked at, and one
-- reduction was charged at most
pub record Since (b n : Machine) : Type 0 where
  pub keeps : Keeps b n
  pub hooks : n.store.hooks ≡ b.store.hooks
  pub come : HasCome b n
  pub shoens : length b.shoens.shoens ≤ length n.shoens.shoens
  pub controls : AllByRecursion (KeepsControl b n) n.goals.goals
  pub flags : n.shifts ≡ false → SameFlags b.shoens n.shoens
  pub work : length n.shoens.work ≤ suc (length b.shoens.work)

-- after a call that isn't refused this is what an event has done since it began with `b`; after one that is, what was then is kept
abbrev pub StillSince : {T E : Type 0} → Result T E → Machine → Machine → Type 0
StillSince (Ok a) b n = Since b n
StillSince (Err e) b n = Keeps b n

-- no goal but this one is the monitor of a shoen
abbrev pub IsOnlyMonitor : ℕ → ℕ → List (Goal CellName) → Type 0
IsOnlyMonitor monitor shoen goals = AllByRecursion (λ g. is_monitor_of shoen g ≡ true → g.number ≡ monitor) goals

-- none is
abbrev pub HasNoMonitor : ℕ → List (Goal CellName) → Type 0
HasNoMonitor shoen goals = AllByRecursion (λ g. is_monitor_of shoen g ≡ false) goals

-- no goal is of a shoen or of one below it
abbrev pub AreElsewhere : List (Shoen CellName) → ℕ → List (Goal CellName) → Type 0
AreElsewhere shoens n goals = AllByRecursion (λ g. is_on_path_in shoens n g.shoen ≡ false) goals
