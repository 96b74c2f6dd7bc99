-- What accounts are called.
use Rattle.std.specs.Prelude.{◌≡◌, ℕ, List, Some, slice_get}

-- an account is called so
abbrev pub is_called : List ℕ → List ℕ → Type 0
is_called name own = own ≡ name

-- an account is called as the list has it at its number, if it has a name there
abbrev pub called_at : List (List ℕ) → ℕ → List ℕ → Type 0
called_at names account own = (name : List ℕ) → slice_get names account ≡ Some name → own ≡ name

-- an account is called by this name, which is the one that the list has at its number, if it has one there
pub record IsNamed (names : List (List ℕ)) (account : ℕ) (name own : List ℕ) : Type 0 where
  pub is : is_called name own
  pub listed : called_at names account name
