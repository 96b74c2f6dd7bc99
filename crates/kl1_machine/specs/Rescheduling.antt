-- Goals of a machine that are looked at again.
use Rattle.std.specs.Prelude.{◌≡◌, ℕ, ◌<◌, ◌≤◌, ◌||◌, nat_lt, Bool, true, false, if◌then◌else◌, List, ◌++◌, map, drop, length}
use Rattle.std.specs.List.{AllByRecursion}
use Rattle.kl1_model.specs.Module.{is_among}
use Rattle.kl1_text.specs.declared.cell_name.CellName.{CellName}
use Rattle.kl1_store.specs.Hooks.{HasGrown, told_by}
use Rattle.kl1_goals.specs.declared.goal.Goal.{Goal}
use Rattle.kl1_goals.specs.declared.standing.Standing.TheVariants.{Waits}
use Rattle.kl1_shoen.specs.Shoens.{is_enabled_at}
use Rattle.kl1_shoen.specs.Shifts.{AreShifts}
use Rattle.kl1_shoen.specs.declared.shift.Shift.{Shift}
use Rattle.kl1_codes.specs.Shelves.{Program}
use Rattle.kl1_user_effects.specs.Fitting.{Reading}
use Rattle.kl1_user_effects.specs.Works.{Knows}
use Rattle.kl1_user_effects.specs.Kept.{IsOwned}
use Rattle.kl1_user_effects.specs.Settled.{IsSettled, AreSettled, IsEnabled}
use Rattle.kl1_user_effects.specs.Installing.{shifted_by}
use Rattle.kl1_machine.specs.declared.machine.Machine.{Machine}
use Rattle.kl1_machine.specs.Machines.{IsMachine}

-- a goal but for what it can do
abbrev pub unready : Goal CellName → Goal CellName
unready g = record g { standing = Waits }

-- a goal but for what it can do, and whether it may step
abbrev pub unlooked : Goal CellName → Goal CellName
unlooked g = record g { standing = Waits; is_enabled = false }

-- goals were looked at: they are the same but for what they can do and whether they may step, and more hangs
pub record Looks (m n : Machine) : Type 0 where
  pub goals : map unlooked n.goals.goals ≡ map unlooked m.goals.goals
  pub held : n.store.held ≡ m.store.held
  pub grown : HasGrown m.store n.store
  pub rest : n ≡ record m { store = n.store; goals = record m.goals { goals = n.goals.goals } }

-- goals are settled but for those of some numbers
abbrev pub AreSettledBut : (ℕ → Bool) → Reading → Program → Machine → Type 0
AreSettledBut q f program m = AllByRecursion (λ g. q g.number ≡ false → IsSettled f m.store.hooks m.store.held program m.shoens.shoens g) m.goals.goals

-- the goals of these numbers were looked at, if they are there: they are settled, and whether they may step is as before
pub record Wakes (program : Program) (numbers : List ℕ) (m n : Machine) : Type 0 where
  pub looks : Looks m n
  pub flags : map unready n.goals.goals ≡ map unready m.goals.goals
  pub settles : (f : Reading) → Knows program.loaded f → (q : ℕ → Bool) → AreSettledBut (λ k. is_among k numbers || q k) f program m → AreSettledBut q f program n

-- a goal with a number of at most `last` is of a shoen that was there when an event began, and may step as it might then
abbrev pub WasLet : Machine → Goal CellName → Type 0
WasLet b g = g.number ≤ b.counts.last_goal → IsOwned (length b.shoens.shoens) g × IsEnabled b.shoens.shoens b.shoens.work g

-- and one that has come since, with a number of at most `n`, as its shoen lets it now
abbrev pub IsLet : Machine → ℕ → Machine → Goal CellName → Type 0
IsLet b n m g = WasLet b g × (b.counts.last_goal < g.number → g.number ≤ n → IsEnabled m.shoens.shoens m.shoens.work g)

-- each of the goals may
abbrev pub AreLet : Machine → ℕ → Machine → Type 0
AreLet b n m = AllByRecursion (IsLet b n m) m.goals.goals

-- the goals with numbers above `from` and of at most `to` were looked at: they are settled, and may step as their shoens let them
pub record Schedules (program : Program) (from to : ℕ) (m n : Machine) : Type 0 where
  pub looks : Looks m n
  pub settles : (f : Reading) → Knows program.loaded f → AreSettledBut (nat_lt from) f program m → AreSettledBut (nat_lt to) f program n
  pub flags : (b : Machine) → b.counts.last_goal ≤ from → AreLet b from m → AreLet b to n

-- goals were let to step or held back as these shifts tell, if there may be any
pub record Shifts (m n : Machine) : Type 0 where
  pub shifts : List Shift
  pub right : m.shifts ≡ true → AreShifts m.shoens shifts
  pub goals : n.goals.goals ≡ (if m.shifts then shifted_by shifts m.goals.goals else m.goals.goals)
  pub rest : n ≡ record m { goals = record m.goals { goals = n.goals.goals } }

-- the numbers that were told, and those that hang on variables that were bound since the event began
abbrev pub all_told : Machine → List ℕ
all_told m = m.told.items ++ told_by (drop m.mark.sizes.bindings m.store.held.bindings) m.store.hooks

-- goals were looked at again: they are the same but for what they can do and whether they may step, more hangs, and nothing else is
-- otherwise but which numbers were told
pub record Reschedules (m n : Machine) : Type 0 where
  pub machine : IsMachine n
  pub goals : map unlooked n.goals.goals ≡ map unlooked m.goals.goals
  pub held : n.store.held ≡ m.store.held
  pub rest : n ≡ record m { store = n.store; goals = record m.goals { goals = n.goals.goals }; told = n.told }

-- all goals stand as they can, and hang on what they wait for
abbrev pub AllSettled : Program → Machine → Type 0
AllSettled program m = (f : Reading) → Knows program.loaded f → AreSettled f m.store.hooks m.store.held program m.shoens.shoens m.goals.goals

-- a shoen lets its goals step, unless goals may be let or held back other than when the event began
abbrev pub LetsStill : ℕ → Machine → Type 0
LetsStill n m = m.shifts ≡ false → is_enabled_at m.shoens.shoens m.shoens.work n ≡ true
