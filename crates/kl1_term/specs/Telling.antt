-- The variables of answers, which tell those of an account by their numbers.
use Rattle.std.specs.Prelude.{◌≡◌, ℕ, ◌+◌, ◌-◌, ◌==◌, true, false, List, [], ◌∷◌, map, Option, Some, None}
use Rattle.std.specs.HashMap.{get, HashMap}
use Rattle.std.proofs.Common.{inl, inr}
use Rattle.kl1_model.specs.declared.limits.TheConstants.{FIRST_UNTOLD}
use Rattle.kl1_model.specs.Term.{Term, variable, substituted}
use Rattle.kl1_model.specs.Module.{is_among}
use Rattle.kl1_model.specs.Telling.{new_among, place_among}
use Rattle.kl1_model.specs.code.TermCode.{NodeCode}

-- the place of a number among those seen, from 1, or none if it wasn't seen
abbrev pub IsPlaceAmong : List ℕ → ℕ → Option ℕ → Type 0
IsPlaceAmong seen n None = is_among n seen ≡ false
IsPlaceAmong seen n (Some k) = (is_among n seen ≡ true) × (k ≡ place_among seen n)

-- a map has the place of each number that was seen
abbrev pub Finds : {S : Type 0} → HashMap ℕ ℕ S → List ℕ → Type 0
Finds places seen = (n : ℕ) → IsPlaceAmong seen n (get ◌==◌ places n)

-- a number has its place among those seen, which it has joined if it was new, and the places of those are found
pub record IsPlaced {S : Type 0} (places : HashMap ℕ ℕ S) (before now : List ℕ) (n k : ℕ) : Type 0 where
  pub finds : Finds places now
  pub seen : now ≡ new_among None before (n ∷ [])
  pub among : is_among n now ≡ true
  pub place : k ≡ place_among now n

-- a term with other numbers for its variables
abbrev pub renumbered : (ℕ → ℕ) → Term → Term
renumbered f t = substituted (λ n. variable (f n)) t

-- nodes with other numbers for their variables
abbrev pub code_renumbered : (ℕ → ℕ) → NodeCode → NodeCode
code_renumbered f (inl (inl n)) = inl (inl (f n))
code_renumbered f (inl (inr i)) = inl (inr i)
code_renumbered f (inr x) = inr x

abbrev pub renumbered_in : (ℕ → ℕ) → List NodeCode → List NodeCode
renumbered_in f cs = map (code_renumbered f) cs

-- a term with its variables numbered by their places among these
abbrev pub anew : List ℕ → Term → Term
anew seen t = renumbered (place_among seen) t

-- nodes with their variables numbered so
abbrev pub anew_in : List ℕ → List NodeCode → List NodeCode
anew_in seen cs = renumbered_in (place_among seen) cs

-- the number of a variable that was numbered from 1, as one that an answer doesn't tell
abbrev pub untold_number : ℕ → ℕ
untold_number n = FIRST_UNTOLD + (n - 1)

-- a term whose variables were numbered from 1, with them as those that an answer doesn't tell
abbrev pub untold : Term → Term
untold t = renumbered untold_number t
