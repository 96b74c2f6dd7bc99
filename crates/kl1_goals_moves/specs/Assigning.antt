-- What comes of a cell that becomes what an expression comes to.
use Rattle.std.specs.Prelude.{ℕ, Option, Some, None}
use Rattle.kl1_model.specs.declared.built_in.BuiltIn.TheVariants as built_in
use Rattle.kl1_model.specs.declared.number.Number.{Number}
use Rattle.kl1_model.specs.declared.number.Number.TheVariants.{Value, Overflow, ZeroDivisor}
use Rattle.kl1_store.specs.declared.cell.Cell.{Cell}
use Rattle.kl1_store.specs.declared.cell.Cell.TheVariants.{Integer}
use Rattle.kl1_match_guard.specs.declared.evaluated.Evaluated.{Evaluated}
use Rattle.kl1_match_guard.specs.declared.evaluated.Evaluated.TheVariants.{ComesTo, Awaits, IsNoExpression}
use Rattle.kl1_goals_moves.specs.declared.moves.Move.{Move}
use Rattle.kl1_goals_moves.specs.declared.moves.Move.TheVariants.{Raises, Unifies}

-- what comes of a cell that becomes a number
abbrev pub becomes : {N : Type 0} → Cell N → Number → Move N
becomes a (Value z) = Unifies a (Integer z)
becomes a Overflow = Raises built_in.Overflow
becomes a ZeroDivisor = Raises built_in.IllegalInput

-- what comes of a cell that becomes what an expression comes to, or nothing while that waits
abbrev pub assigned : {N : Type 0} → Cell N → Evaluated ℕ → Option (Move N)
assigned a (ComesTo n) = Some (becomes a n)
assigned a (Awaits v) = None
assigned a IsNoExpression = Some (Raises built_in.IllegalInput)
