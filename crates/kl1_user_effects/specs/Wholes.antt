-- Goals made whole.
use Rattle.std.specs.Prelude.{◌≡◌}
use Rattle.kl1_text.specs.Reading.{Reads}
use Rattle.kl1_text.specs.declared.cell_name.CellName.{CellName}
use Rattle.kl1_store.specs.declared.cell.Cell.{Cell}
use Rattle.kl1_store.specs.declared.qualified.Qualified.{Qualified}
use Rattle.kl1_store.specs.Held.{Held, IsIn}
use Rattle.kl1_user_effects.specs.Fitting.{Reading, built}
use Rattle.kl1_user_effects.specs.Account.{meaning, aim}

-- a cell is a whole goal, and each cell that was there means what it meant
pub record IsWhole (old new : Held CellName) (goal : Qualified CellName) (x : Cell CellName) : Type 0 where
  pub inside : IsIn new x
  pub variables : new.variables ≡ old.variables
  pub others : (f : Reading) (y : Cell CellName) → IsIn old y → meaning f new y ≡ meaning f old y
  pub means : (f : Reading) → Reads built f → meaning f new x ≡ aim f old goal
