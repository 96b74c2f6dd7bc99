-- What a goal can do, and what it waits for.
use Rattle.std.specs.Prelude.{◌≡◌, ℕ, ◌==◌, if◌then◌else◌, List, Option, Some, None}
use Rattle.kl1_model.specs.declared.rules.Rules.{Rules}
use Rattle.kl1_model.specs.Term.{Term}
use Rattle.kl1_model.specs.Module.{Module}
use Rattle.kl1_model.specs.code.Waits.{term_clause, awaited_by_term}
use Rattle.kl1_match.specs.Waiting.{AreSame}
use Rattle.kl1_model.specs.declared.number.Number.{Number}
use Rattle.kl1_model.specs.declared.number.Number.TheVariants.{Value, Overflow, ZeroDivisor}
use Rattle.kl1_goals.specs.declared.standing.Standing.{Standing}
use Rattle.kl1_goals.specs.declared.standing.Standing.TheVariants as standing
use Rattle.kl1_goals.specs.Readies.{clause_in}
use Rattle.kl1_goals_moves.specs.Judged.{DoesAs}

-- what a call does by the least number of a clause that accepts it, 0 if each rejects it, whose predicate stands at a place
abbrev pub standing_by : Option ℕ → ℕ → Standing
standing_by None place = standing.Waits
standing_by (Some n) place = if n == 0 then standing.Fails else standing.Commits n place

-- what a goal does whose first argument becomes a number
abbrev pub becoming : Number → Standing
becoming (Value z) = standing.Becomes z
becoming Overflow = standing.Overflows
becoming ZeroDivisor = standing.Misuses

-- this is what a term can do as a goal by the least clause by which it can step, and these are the variables that it waits for
pub record StandsAs (rules : Rules) (modules : List Module) (t : Term) (awaited : List ℕ) (standing : Standing) : Type 0 where
  pub clause_is : clause_in standing ≡ term_clause rules modules t
  pub does : DoesAs rules t standing
  pub awaits : AreSame awaited (awaited_by_term rules modules t)
