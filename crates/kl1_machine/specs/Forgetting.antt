-- Reports and shoens that the console lets go.
use Rattle.std.specs.Prelude.{◌≡◌, ℕ, true, List, map, option_map}
use Rattle.std.specs.List.{AllByRecursion}
use Rattle.kl1_model.specs.declared.built_in.BuiltIn.TheVariants.{EmptyList}
use Rattle.kl1_model.specs.Module.{is_among}
use Rattle.kl1_text.specs.declared.cell_name.CellName.{CellName}
use Rattle.kl1_store.specs.declared.cell.Cell.{Cell}
use Rattle.kl1_store.specs.declared.cell.Cell.TheVariants.{Atom}
use Rattle.kl1_goals.specs.declared.goal.Goal.{Goal}
use Rattle.kl1_goals.specs.Lists.{is_monitor}
use Rattle.kl1_shoen.specs.Shoens.{changed, emptied_below}
use Rattle.kl1_shoen.specs.Changes.{reports_left}
use Rattle.kl1_user_effects.specs.Fitting.{built}
use Rattle.kl1_user_effects.specs.Drafts.{is_of_any}
use Rattle.kl1_machine.specs.declared.machine.Machine.{Machine}
use Rattle.kl1_machine.specs.Effects.{Becomes, having_shoens}
use Rattle.kl1_machine.specs.Rescheduling.{Reschedules}

-- what is in place of a stream that was let go
abbrev pub none_left : Cell CellName
none_left = Atom (built EmptyList)

-- of a machine's reports of shoen `n` this is left after the first `count`
abbrev pub forgetting_reports : ℕ → ℕ → Cell CellName → Machine → Machine
forgetting_reports n count left m = having_shoens (changed n (λ h. record h { origin = option_map (reports_left count left) h.origin }) m.shoens.shoens) m

-- the first reports of a shoen were let go, and goals were looked at
pub record ForgetsReports (n count : ℕ) (left : Cell CellName) (m n' : Machine) : Type 0 where
  pub after : Machine
  pub becomes : Becomes (forgetting_reports n count left m) after
  pub reschedules : Reschedules after n'

-- a goal is told if it is the monitor of one of these shoens
abbrev pub IsToldOf : List ℕ → Machine → Goal CellName → Type 0
IsToldOf shoens n g = is_monitor g ≡ true → is_of_any shoens g ≡ true → is_among g.number n.told.items ≡ true

-- the monitors of these shoens are told, and who was told before
pub record AreToldOf (shoens : List ℕ) (m n : Machine) : Type 0 where
  pub before : (k : ℕ) → is_among k m.told.items ≡ true → is_among k n.told.items ≡ true
  pub each : AllByRecursion (IsToldOf shoens n) m.goals.goals

-- a shoen was let go, with all below it, and goals were looked at
pub record Forgets (n : ℕ) (m n' : Machine) : Type 0 where
  pub after : Machine
  pub becomes : Becomes (record (having_shoens (map (emptied_below none_left m.shoens.shoens n) m.shoens.shoens) m) { told = after.told }) after
  pub reschedules : Reschedules after n'
