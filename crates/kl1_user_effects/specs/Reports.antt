-- What is left of shoens by reports that aren't made, and by their ends.
use Rattle.std.specs.Prelude.{ℕ, true, if◌then◌else◌, List, Option, Some, None, unwrap_or}
use Rattle.kl1_model.specs.declared.built_in.BuiltIn.TheVariants.{EmptyList}
use Rattle.kl1_model.specs.declared.rules.Rules.{Rules}
use Rattle.kl1_model.specs.State.{has_forgetting}
use Rattle.kl1_text.specs.declared.cell_name.CellName.{CellName}
use Rattle.kl1_store.specs.declared.cell.Cell.{Cell}
use Rattle.kl1_store.specs.declared.cell.Cell.TheVariants.{Atom}
use Rattle.kl1_shoen_paths.specs.declared.shoen.Shoen.{Shoen}
use Rattle.kl1_shoen.specs.Shoens.{changed, control_left}
use Rattle.kl1_user_effects.specs.Fitting.{built}

-- the cell that stands for a stream on which nothing is told any more, by rules by which things are let go
abbrev pub left_by : Rules → Option (Cell CellName)
left_by rules = if has_forgetting rules then Some (Atom (built EmptyList)) else None

-- a shoen whose report stream is broken
abbrev pub torn : Rules → Shoen CellName → Shoen CellName
torn rules h = record h { is_broken = true; tail = unwrap_or (left_by rules) h.tail }

-- a shoen that has ended, with what is left of its control stream
abbrev pub leaving : Rules → Shoen CellName → Shoen CellName
leaving rules h = record h { control = control_left (left_by rules) h.origin h.control }

-- shoens by a report of shoen `n`, which may be there, that isn't made: an unbroken stream of it is broken
abbrev pub unheard : Rules → ℕ → Option (Shoen CellName) → List (Shoen CellName) → List (Shoen CellName)
unheard rules n None shoens = shoens
unheard rules n (Some h) shoens = if h.is_broken then shoens else changed n (torn rules) shoens
