-- Places of a text.
use Rattle.std.specs.Prelude.{ℕ, suc, ◌≤◌, ◌==◌, if◌then◌else◌, List, [], ◌∷◌, take}
use Rattle.kl1_reasons_items.specs.declared.place.Place.{Place}

-- the place of what follows a byte: after a line feed the next line begins
abbrev pub next_place : Place → ℕ → Place
next_place p b = if b == 10 then record { line = suc p.line; column = 1 } else record { line = p.line; column = suc p.column }

-- the place of what follows bytes of which the first stands at a place
abbrev pub place_behind : Place → List ℕ → Place
place_behind p [] = p
place_behind p (b ∷ bs) = place_behind (next_place p b) bs

-- the place of a text's first byte
abbrev pub first_place : Place
first_place = record { line = 1; column = 1 }

-- the place of the byte before which `at` others stand in a text
abbrev pub place_of : List ℕ → ℕ → Place
place_of text at = place_behind first_place (take at text)

-- whether a text has a line of this number
abbrev pub HasLine : List ℕ → ℕ → Type 0
HasLine text line = (1 ≤ line) × (line ≤ (place_behind first_place text).line)
