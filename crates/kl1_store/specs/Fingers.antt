-- Places in lists: what is left after some elements.
use Rattle.std.specs.Prelude.{◌≡◌, ℕ, zero, suc, List}
use Rattle.std.specs.List.{All}
use Rattle.kl1_model.specs.declared.built_in.BuiltIn.{BuiltIn}
use Rattle.kl1_model.specs.Term.{Term}
use Rattle.kl1_model.specs.Meaning.{cell}
use Rattle.kl1_text.specs.Reading.{Reads}
use Rattle.kl1_store.specs.declared.fingers.Finger.{Finger}
use Rattle.kl1_store.specs.declared.fingers.Fingers.{Fingers}
use Rattle.kl1_store.specs.Held.{Held, sizes_of, IsIn}
use Rattle.kl1_store.specs.Meaning.{term_of}
use Rattle.kl1_store.specs.Sound.{IsFormed, Grown}

-- a term of `k` list cells and then another term
abbrev pub IsAfter : ℕ → Term → Term → Type 0
IsAfter zero t u = t ≡ u
IsAfter (suc k) t u = (e : Term) × ((r : Term) × ((t ≡ cell e r) × IsAfter k r u))

-- a place in a list: the list's term is as many list cells as are counted and then the term of what is left
pub record IsFinger {N : Type 0} (built : BuiltIn → N) (h : Held N) (g : Finger N) : Type 0 where
  pub list_in : IsIn h g.list
  pub rest_in : IsIn h g.rest
  pub after : (f : N → List ℕ) → Reads built f → IsAfter g.count (term_of f h g.list) (term_of f h g.rest)

-- places that were all right when a store held this much, which it has held ever since
pub record AreFingers {N : Type 0} (built : BuiltIn → N) (h : Held N) (gs : Fingers N) : Type 0 where
  pub past : Held N
  pub since : gs.since ≡ sizes_of past
  pub formed : IsFormed past
  pub grown : Grown past h
  pub each : All (IsFinger built past) gs.places.items
