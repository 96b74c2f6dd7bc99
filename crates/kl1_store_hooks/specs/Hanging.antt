-- Numbers that hang on each of some variables.
use Rattle.std.specs.Prelude.{ℕ, List, Contains}
use Rattle.std.specs.List.{AllByRecursion}
use Rattle.kl1_store.specs.Hooks.{Hook}

-- a number hangs on each of these variables
abbrev pub HangsOnEach : List Hook → ℕ → List ℕ → Type 0
HangsOnEach hooks n vs = AllByRecursion (λ v. Contains hooks (record { variable = v; number = n })) vs

-- each hook is among more
abbrev pub AreAmong : List Hook → List Hook → Type 0
AreAmong hooks more = (k : Hook) → Contains hooks k → Contains more k
