-- The bindings of variables, and for each variable the place of its binding.
use Rattle.std.specs.Prelude.{◌≡◌, ℕ, suc, ◌≤◌, ◌↔◌, List, [], ◌∷◌, length, get_or, map, Some, slice_get}
use Rattle.kl1_store.specs.declared.cell.Cell.{Cell}
use Rattle.kl1_store.specs.declared.binding.Binding.{Binding}
use Rattle.kl1_store.specs.Inside.{most}

-- the bindings of variables to values
abbrev pub bindings_in : {N : Type 0} → List ℕ → List (Cell N) → List (Binding N)
bindings_in [] xs = []
bindings_in (v ∷ vs) [] = []
bindings_in (v ∷ vs) (x ∷ xs) = record { variable = v; value = x } ∷ bindings_in vs xs

-- the variables that are bound
abbrev pub variables_of : {N : Type 0} → List (Binding N) → List ℕ
variables_of bs = map (λ b. b.variable) bs

-- each variable has the place, counted from 1, at which it stands among those that are bound; others have 0
abbrev pub ArePlaced : List ℕ → List ℕ → Type 0
ArePlaced places variables = (v p : ℕ) → get_or places v 0 ≡ suc p ↔ slice_get variables p ≡ Some v

-- bindings, each of a variable below a number
abbrev pub AreBelow : {N : Type 0} → ℕ → List (Binding N) → Type 0
AreBelow n [] = Unit {0}
AreBelow n (b ∷ bs) = (suc b.variable ≤ n) × AreBelow n bs

-- what always holds of places, variables and values
pub record AreBindings {N : Type 0} (places variables : List ℕ) (values : List (Cell N)) : Type 0 where
  pub placed : ArePlaced places variables
  pub paired : length variables ≡ length values
  pub few : length places ≤ most

-- how many variables there are, their bindings, the oldest first, and the room for more of both
pub record Trail (N : Type 0) : Type 0 where
  pub variables : ℕ
  pub bindings : List (Binding N)
  pub room : ℕ
  pub binding_room : ℕ
