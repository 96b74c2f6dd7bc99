-- Cells that stand in goals and shoens, which an exchange of numbers in a store leaves as they are.
use Rattle.std.specs.Prelude.{◌≡◌, [], map}
use Rattle.kl1_text.specs.declared.cell_name.CellName.{CellName}
use Rattle.kl1_store.specs.declared.cell.Cell.{Cell}
use Rattle.kl1_store.specs.Meaning.{mean}
use Rattle.kl1_shoen_paths.specs.declared.shoen.Shoen.{Shoen}
use Rattle.kl1_user_effects.specs.Fitting.{Reading}
use Rattle.kl1_user_effects.specs.Account.{Means, goal_with, shoen_with}
use Rattle.kl1_machine.specs.declared.machine.Machine.{Machine}

-- what a cell is by itself: a name, or what has none of its own
abbrev pub bare : Reading → Means
bare f x = mean f [] x

-- a cell that has no name of its own, or one that two readings read the same
abbrev pub IsPlain : Reading → Reading → Cell CellName → Type 0
IsPlain f g x = bare f x ≡ bare g x

-- what stands in a shoen is
abbrev pub IsPlainShoen : Reading → Reading → Shoen CellName → Type 0
IsPlainShoen f g h = shoen_with (bare f) h ≡ shoen_with (bare g) h

-- the cells that stand in the goals and the shoens of a machine have no names of their own but those that two readings read the same
pub record ArePlain (f g : Reading) (m : Machine) : Type 0 where
  pub goals : map (goal_with (bare f)) m.goals.goals ≡ map (goal_with (bare g)) m.goals.goals
  pub shoens : map (shoen_with (bare f)) m.shoens.shoens ≡ map (shoen_with (bare g)) m.shoens.shoens
