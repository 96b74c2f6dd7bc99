-- What hangs on variables, and who is told that a variable was bound.
use Rattle.std.specs.Prelude.{◌≡◌, ℕ, ◌==◌, if◌then◌else◌, List, [], ◌∷◌, ◌++◌, length, take}
use Rattle.kl1_store.specs.declared.binding.Binding.{Binding}
use Rattle.kl1_store.specs.declared.point.Point.{Point}
use Rattle.kl1_store.specs.Held.{Held, Room, sizes_of}
use Rattle.kl1_store.specs.Sound.{Grown}

-- a number that hangs on a variable
pub record Hook : Type 0 where
  pub variable : ℕ
  pub number : ℕ

-- what a store holds, what hangs on its variables, the oldest first, and its room for more of both
pub record Kept (N : Type 0) : Type 0 where
  pub held : Held N
  pub hooks : List Hook
  pub room : Room
  pub hook_room : ℕ

-- the numbers that hang on a variable, the newest first
abbrev pub hanging_on : ℕ → List Hook → List ℕ
hanging_on v [] = []
hanging_on v (k ∷ ks) = hanging_on v ks ++ (if k.variable == v then k.number ∷ [] else [])

-- the numbers that hang on the variables of these bindings
abbrev pub told_by : {N : Type 0} → List (Binding N) → List Hook → List ℕ
told_by [] ks = []
told_by (b ∷ bs) ks = hanging_on b.variable ks ++ told_by bs ks

-- the numbers that hang on these variables
abbrev pub told_on : List ℕ → List Hook → List ℕ
told_on [] ks = []
told_on (v ∷ vs) ks = hanging_on v ks ++ told_on vs ks

-- how much is kept
abbrev pub point_of : {N : Type 0} → Kept N → Point
point_of k = record { sizes = sizes_of k.held; hooks = length k.hooks }

-- later contents, with the earlier ones still in place
pub record HasGrown {N : Type 0} (old new : Kept N) : Type 0 where
  pub held : Grown old.held new.held
  pub hooks : take (length old.hooks) new.hooks ≡ old.hooks
