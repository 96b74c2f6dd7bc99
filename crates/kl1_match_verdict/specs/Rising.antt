-- Places of variables that stand in order of their numbers.
use Rattle.std.specs.Prelude.{ℕ, ◌<◌, List, [], ◌∷◌}
use Rattle.kl1_match.specs.declared.place.Place.{Place}

-- each place is of a variable with a greater number than the one before, the first greater than this
abbrev pub AreRising : {N : Type 0} → ℕ → List (Place N) → Type 0
AreRising last [] = Unit {0}
AreRising last (p ∷ ps) = (last < p.variable) × AreRising p.variable ps
