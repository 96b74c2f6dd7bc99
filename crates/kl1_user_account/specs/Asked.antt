-- What is shown of an account.
use Rattle.std.specs.Prelude.{ℕ, nat_le, not, ◌&&◌, Bool, true, false, if◌then◌else◌, List}
use Rattle.kl1_model.specs.declared.life.Life.{Life}
use Rattle.kl1_model.specs.declared.life.Life.TheVariants.{Living, Terminated, Aborted, Forgotten}
use Rattle.kl1_model.specs.declared.condition.Condition.{Condition}
use Rattle.kl1_model.specs.declared.condition.Condition.TheVariants.{Terminated as HasTerminated, Aborted as IsAborted, Stopped, Exhausted, Running}
use Rattle.kl1_model.specs.Term.{Term}
use Rattle.kl1_model.specs.Asking.{elements_of}
use Rattle.kl1_text.specs.declared.cell_name.CellName.{CellName}
use Rattle.kl1_store.specs.declared.cell.Cell.{Cell}
use Rattle.kl1_store.specs.Held.{Held}
use Rattle.kl1_goals.specs.declared.goal.Goal.{Goal}
use Rattle.kl1_goals.specs.Lists.{is_monitor}
use Rattle.kl1_shoen_paths.specs.declared.shoen.Shoen.{Shoen}
use Rattle.kl1_user_effects.specs.Fitting.{Reading}
use Rattle.kl1_user_effects.specs.Account.{meaning}
use Rattle.kl1_user_effects.specs.Drafts.{is_of_any}

-- the state of a shoen of this life as it is shown, if `charged` is what it was charged
abbrev pub condition_at : Shoen CellName → ℕ → Life → Condition
condition_at h charged Terminated = HasTerminated
condition_at h charged Aborted = IsAborted
condition_at h charged Forgotten = HasTerminated
condition_at h charged Living = if h.is_stopped then Stopped else if nat_le h.allowance charged then Exhausted else Running

-- the state of a shoen as it is shown, if `charged` is what it was charged
abbrev pub condition_by : Shoen CellName → ℕ → Condition
condition_by h charged = condition_at h charged h.life

-- whether a shoen of this life was let go
abbrev pub is_forgotten : Life → Bool
is_forgotten Living = false
is_forgotten Terminated = false
is_forgotten Aborted = false
is_forgotten Forgotten = true

-- whether a goal is of one of these shoens, and no monitor
abbrev pub is_alive_in : List ℕ → Goal CellName → Bool
is_alive_in shoens g = not (is_monitor g) && is_of_any shoens g

-- the elements of a list of cells, for a reading
abbrev pub cells_of : Reading → Held CellName → Cell CellName → List Term
cells_of f h x = elements_of (meaning f h x)
