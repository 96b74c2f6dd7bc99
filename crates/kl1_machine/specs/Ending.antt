-- Shoens that end.
use Rattle.std.specs.Prelude.{◌≡◌, ℕ, List}
use Rattle.kl1_user_effects.specs.Walks.{EndsOne, EndsLives}
use Rattle.kl1_machine.specs.declared.machine.Machine.{Machine}
use Rattle.kl1_machine.specs.Machines.{IsMachine}

-- shoen `number` has terminated, if it does, and its number is put down then; nothing else has changed
pub record LifeEnds (number : ℕ) (before after : List ℕ) (m n : Machine) : Type 0 where
  pub one : EndsOne m.goals.goals m.shoens n.shoens number before after
  pub rest : n ≡ record m { shoens = n.shoens; shifts = n.shifts }
  pub machine : IsMachine n

-- the shoens on the path of shoen `number` that terminate have done so; nothing else has changed
pub record LivesEnd (number : ℕ) (ending : List ℕ) (m n : Machine) : Type 0 where
  pub ends : EndsLives m.goals.goals m.shoens n.shoens number ending
  pub rest : n ≡ record m { shoens = n.shoens; shifts = n.shifts }
  pub machine : IsMachine n
