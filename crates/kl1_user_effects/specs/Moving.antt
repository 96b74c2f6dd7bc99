-- What the move of a goal makes of a draft.
use Rattle.std.specs.Prelude.{ℕ, List, map, Option, Some, None, option_map, unwrap_or}
use Rattle.kl1_model.specs.code.Steps.{clipped, priority_of}
use Rattle.kl1_text.specs.declared.cell_name.CellName.{CellName}
use Rattle.kl1_goals_moves.specs.declared.moves.Move.{Move}
use Rattle.kl1_goals_moves.specs.declared.moves.Move.TheVariants as move
use Rattle.kl1_shoen_paths.specs.declared.shoen.Shoen.{Shoen}
use Rattle.kl1_atoms.specs.declared.known.Known.{Known}
use Rattle.kl1_atoms.specs.Names.{number_by}
use Rattle.kl1_user_effects.specs.Calling.{keeps_names, name_of}

-- the priorities of a body's goals, by those that they name, if any, and the shoen, which may be there: clipped to its range
abbrev pub priorities_by : Option (Shoen CellName) → ℕ → List (Option ℕ) → List ℕ
priorities_by None own ps = map (priority_of None own) ps
priorities_by (Some h) own ps = map (λ (p : Option ℕ). unwrap_or (option_map (clipped h.low h.high) p) own) ps

-- the name that is drafted by a move, if this text stands for a name, and the account may use so many at most
abbrev pub name_for : ℕ → Move CellName → List Known → List ℕ → Option (List ℕ)
name_for most (move.Commits place) known text = None
name_for most (move.Raises b) known text = None
name_for most (move.Unifies a b) known text = None
name_for most (move.Names a) known text = name_of (number_by known text) (keeps_names most known text) text
name_for most (move.Opens s) known text = None
name_for most move.Goes known text = None
name_for most move.GivesWay known text = None
