-- Where arguments stand among those of all structures.
use Rattle.std.specs.Prelude.{◌≡◌, ℕ, ◌+◌, ◌≤◌, ◌<◌, ◌^◌, List, [], ◌∷◌, ◌++◌, length, take, drop}
use Rattle.kl1_store.specs.declared.cell.Cell.{Cell}
use Rattle.kl1_store.specs.Held.{Shape, Held, arguments_of}

-- the arguments of structures, those of one after those of another
abbrev pub arguments_among : {N : Type 0} → List (Shape N) → List (Cell N)
arguments_among [] = []
arguments_among (s ∷ ss) = s.arguments ++ arguments_among ss

-- the arguments of all structures of a store
abbrev pub all_arguments : {N : Type 0} → Held N → List (Cell N)
all_arguments h = arguments_among h.structures

-- the arguments of a structure stand side by side from a place on
pub record StandFrom {N : Type 0} (h : Held N) (structure from : ℕ) : Type 0 where
  pub fits : from + length (arguments_of h structure) ≤ length (all_arguments h)
  pub few : length (all_arguments h) < 2 ^ 32
  pub are : arguments_of h structure ≡ take (length (arguments_of h structure)) (drop from (all_arguments h))
