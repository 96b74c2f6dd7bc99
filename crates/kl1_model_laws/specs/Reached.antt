-- The accounts that events make of a fresh one.
use Rattle.std.specs.Prelude.{ℕ, List, [], ◌∷◌}
use Rattle.kl1_model.specs.declared.rules.Rules.{Rules}
use Rattle.kl1_model.specs.State.{State, fresh}
use Rattle.kl1_model.specs.Event.{Event}
use Rattle.kl1_model.specs.Step.{step}

-- an account after events, in order
abbrev pub after : State → List Event → State
after s [] = s
after s (e ∷ es) = after (step s e).state es

-- the account that events make of a fresh one with these rules and this name
abbrev pub reached : Rules → List ℕ → List Event → State
reached rules name es = after (fresh rules name) es
