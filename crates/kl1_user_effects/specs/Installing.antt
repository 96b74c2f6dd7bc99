-- Drafts that are begun, and that are put in place.
use Rattle.std.specs.Prelude.{List, [], ◌∷◌, map}
use Rattle.kl1_text.specs.declared.cell_name.CellName.{CellName}
use Rattle.kl1_goals.specs.declared.goal.Goal.{Goal}
use Rattle.kl1_goals.specs.Lists.{enabled_in}
use Rattle.kl1_shoen.specs.declared.shift.Shift.{Shift}

-- goals after shifts, the first of them first: those of each shift's shoen may step, or are held back, as it says
abbrev pub shifted_by : List Shift → List (Goal CellName) → List (Goal CellName)
shifted_by [] goals = goals
shifted_by (s ∷ shifts) goals = shifted_by shifts (map (enabled_in s.shoen s.is_enabled) goals)
