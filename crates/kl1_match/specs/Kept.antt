-- Places that are kept as cells, in order of their variables.
use Rattle.std.specs.Prelude.{ℕ, suc, List, [], ◌∷◌}
use Rattle.kl1_store.specs.declared.cell.Cell.{Cell}
use Rattle.kl1_match.specs.declared.place.Place.{Place}
use Rattle.kl1_match.specs.declared.scratch.Scratch.{Scratch}

-- these cells as the places of the variables from a number on, one of each
abbrev pub places_from : {N : Type 0} → ℕ → List (Cell N) → List (Place N)
places_from n [] = []
places_from n (x ∷ xs) = record { variable = n; cell = x } ∷ places_from (suc n) xs

-- the cells after the first as the places of the variables from 1 on
abbrev pub places_behind : {N : Type 0} → List (Cell N) → List (Place N)
places_behind [] = []
places_behind (x ∷ xs) = places_from 1 xs

-- the places that the scratch keeps
abbrev pub kept_places : {N : Type 0} → Scratch N → List (Place N)
kept_places s = places_behind s.variables.items
