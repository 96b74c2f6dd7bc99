-- What holds of a machine between events.
use Rattle.std.specs.Prelude.{◌≡◌, ◌<◌}
use Rattle.std.specs.List.{AllByRecursion}
use Rattle.kl1_codes.specs.Numbered.{AreRead}
use Rattle.kl1_codes.specs.Shelves.{Program}
use Rattle.kl1_user_effects.specs.Fitting.{Reading, Fits}
use Rattle.kl1_user_effects.specs.Settled.{AreSettled, AreEnabled}
use Rattle.kl1_machine.specs.declared.machine.Machine.{Machine}
use Rattle.kl1_machine.specs.Machines.{IsMachine}

-- between events each goal stands as the rules, the clauses of the modules and the control streams have it, hangs on each variable that it
-- waits for, and may step as the shoens have it; each reading of the account's names reads the modules
pub record IsRested (program : Program) (m : Machine) : Type 0 where
  pub machine : IsMachine m
  pub rules : program.rules ≡ m.rules
  pub first : AllByRecursion (λ g. 0 < g.number) m.goals.goals
  pub rows : (f : Reading) → Fits m.names.names f → AreRead f program.loaded
  pub settled : (f : Reading) → Fits m.names.names f → AreSettled f m.store.hooks m.store.held program m.shoens.shoens m.goals.goals
  pub enabled : AreEnabled m.shoens.shoens m.shoens.work m.goals.goals
