-- The accounts of a front, by their names.
use Rattle.std.specs.Prelude.{◌≡◌, ℕ, List, map, Some, slice_get}
use Rattle.kl1_session.specs.Doors.{Opens}
use Rattle.kl1_session.specs.Files.{Entry}

-- what accounts with their keys are called, in order
abbrev pub names_in : List Entry → List (List ℕ)
names_in entries = map (λ (e : Entry). e.name) entries

-- a name and a key let in to no account but the one that is called so
abbrev pub OpensByName : Opens → List (List ℕ) → Type 0
OpensByName opens names = (name key : List ℕ) (account : ℕ) → opens name key ≡ Some account → slice_get names account ≡ Some name
