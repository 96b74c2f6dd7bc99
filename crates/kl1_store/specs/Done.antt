-- Pairs of structures that were compared to the end.
use Rattle.std.specs.Prelude.{◌≡◌, ℕ, ◌⊎◌, Bool, true, false, List, [], ◌∷◌, nat_eq}
use Rattle.std.specs.List.{list_any}
use Rattle.std.specs.Cmp.Lexicographic.{pointwise}
use Rattle.kl1_model.specs.declared.built_in.BuiltIn.{BuiltIn}
use Rattle.kl1_model.specs.Term.{Term}
use Rattle.kl1_model.specs.code.Comparing.{clash, awaited}
use Rattle.kl1_text.specs.Reading.{Reads}
use Rattle.kl1_store.specs.declared.cell.Cell.{Cell}
use Rattle.kl1_store.specs.declared.cell.Cell.TheVariants.{Structure}
use Rattle.kl1_store.specs.Held.{Held}
use Rattle.kl1_store.specs.Nested.{structure_term}

-- a number in a list
abbrev pub IsOf : ℕ → List ℕ → Type 0
IsOf v [] = ⊥
IsOf v (w ∷ ws) = (w ≡ v) ⊎ IsOf v ws

-- two terms that don't clash, and the variables for which they wait are among these
pub record IsDone (waits : List ℕ) (t u : Term) : Type 0 where
  pub clash : clash t u ≡ false
  pub awaited : (v : ℕ) → IsOf v (awaited t u) → IsOf v waits

-- whether two structures, by their numbers, are one of these pairs
abbrev pub is_among : ℕ → ℕ → List (List ℕ) → Bool
is_among l r pairs = list_any (pointwise nat_eq (l ∷ r ∷ [])) pairs

-- the terms of each pair don't clash, and the variables for which they wait are among these
abbrev pub EachDone : (ℕ → Term) → List ℕ → List (List ℕ) → Type 0
EachDone S waits pairs = (l r : ℕ) → is_among l r pairs ≡ true → IsDone waits (S l) (S r)

-- the terms of each pair of a store's structures don't clash, and wait for variables among these, however names are read
abbrev pub AreDone : {N : Type 0} → (BuiltIn → N) → Held N → List ℕ → List (List ℕ) → Type 0
AreDone {N = N} built h waits ps = (f : N → List ℕ) → Reads built f → EachDone (structure_term f h) waits ps

-- two structures that were compared
pub record IsKnown {N : Type 0} (x y : Cell N) (pairs : List (List ℕ)) : Type 0 where
  pub left : ℕ
  pub right : ℕ
  pub left_is : x ≡ Structure left
  pub right_is : y ≡ Structure right
  pub known : is_among left right pairs ≡ true

-- each of the pairs now was one of those before, or is this one
abbrev pub MayHave : ℕ → ℕ → List (List ℕ) → List (List ℕ) → Type 0
MayHave p q before now = (l r : ℕ) → is_among l r now ≡ true → (is_among l r before ≡ true) ⊎ ((p ≡ l) × (q ≡ r))
