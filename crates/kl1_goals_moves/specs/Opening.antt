-- What comes of a cell that becomes a name, and of an order for a new shoen.
use Rattle.std.specs.Prelude.{ℕ, Option, Some, None}
use Rattle.kl1_model.specs.declared.built_in.BuiltIn.TheVariants.{IllegalInput}
use Rattle.kl1_store.specs.declared.cell.Cell.{Cell}
use Rattle.kl1_goals_moves.specs.declared.look.Look.{Look}
use Rattle.kl1_goals_moves.specs.declared.look.Look.TheVariants as look
use Rattle.kl1_goals_moves.specs.declared.spelling.Spelling.{Spelling}
use Rattle.kl1_goals_moves.specs.declared.spelling.Spelling.TheVariants as spelling
use Rattle.kl1_goals_moves.specs.declared.moves.Move.{Move}
use Rattle.kl1_goals_moves.specs.declared.moves.Move.TheVariants.{Raises, Names, Opens}

-- what comes of a cell that becomes the name that codes spell, or nothing while they wait
abbrev pub naming : {N : Type 0} → Cell N → Spelling → Option (Move N)
naming a spelling.Spelled = Some (Names a)
naming a (spelling.Waits v) = None
naming a spelling.Misspelled = Some (Raises IllegalInput)

-- what comes of an order by the look at it, or nothing while that waits
abbrev pub opening : {N : Type 0} → ℕ → Look → Option (Move N)
opening s look.Right = Some (Opens s)
opening s (look.Waits v) = None
opening s look.Wrong = Some (Raises IllegalInput)
