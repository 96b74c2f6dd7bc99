-- How many goals an account has.
use Rattle.std.specs.Prelude.{◌≤◌, ℕ, List}
use Rattle.kl1_model.specs.declared.rules.Rules.{Rules}
use Rattle.kl1_model.specs.Rules.{limits_of}
use Rattle.kl1_model.specs.Tree.{goals_alive}
use Rattle.kl1_model.specs.Event.{Event}
use Rattle.kl1_model_laws.specs.Reached.{reached}

-- an account has at most as many goals alive as its rules allow, whatever was done to it since it was fresh
abbrev pub GoalsAreFew : Type 0
GoalsAreFew = (rules : Rules) (name : List ℕ) (es : List Event) → goals_alive (reached rules name es) ≤ (limits_of rules).goals
