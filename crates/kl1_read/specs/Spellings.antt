-- Where the numbers of spellings are looked up.
use Rattle.std.specs.Prelude.{◌≡◌, ℕ, suc, ◌≤◌, List, [], ◌∷◌, ◌++◌, length, codes, bytes_eq, false, Option, Some, None}
use Rattle.std.specs.HashMap.{get, HashMap}
use Rattle.kl1_model.specs.Numbering.{place_of, variable_number, seen_after}

-- the number of a spelling among those seen, or none if it wasn't seen
abbrev pub IsNumberAmong : List (List ℕ) → List ℕ → Option ℕ → Type 0
IsNumberAmong seen v None = place_of seen v ≡ suc (length seen)
IsNumberAmong seen v (Some n) = (place_of seen v ≡ n) × (n ≤ length seen)

-- a map has the number of each spelling but `_`
abbrev pub Finds : {S : Type 0} → HashMap (List ℕ) ℕ S → List (List ℕ) → Type 0
Finds numbers seen = (v : List ℕ) → bytes_eq v (codes "_") ≡ false → IsNumberAmong seen v (get bytes_eq numbers v)

-- a spelling was put after those seen, and its number is the next one
pub record IsBehind (before now : List (List ℕ)) (v : List ℕ) (n : ℕ) : Type 0 where
  pub next : n ≡ suc (length before)
  pub put : now ≡ before ++ v ∷ []

-- a spelling has its number, and the numbers of those seen now are found
pub record IsNumbered {S : Type 0} (numbers : HashMap (List ℕ) ℕ S) (before now : List (List ℕ)) (v : List ℕ) (n : ℕ) : Type 0 where
  pub finds : Finds numbers now
  pub value : n ≡ variable_number before v
  pub seen : now ≡ seen_after before v
