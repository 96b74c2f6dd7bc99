-- Exceptions that substitutes wait by, in cells.
use Rattle.std.specs.Prelude.{ℕ, List, Option, slice_get, option_and_then}
use Rattle.kl1_model.specs.Term.{Term}
use Rattle.kl1_model.specs.Telling.{Asked}
use Rattle.kl1_model.specs.Asking.{elements_of}
use Rattle.kl1_model.specs.Answering.{asked}
use Rattle.kl1_store.specs.Held.{Held, IsIn}
use Rattle.kl1_store.specs.Meaning.{term_of}
use Rattle.kl1_store.specs.Unbound.{IsUnbound}
use Rattle.kl1_stream.specs.declared.answers.Asking.{Asking}

-- what the definitions call it, names read by f
abbrev pub asked_of : {N : Type 0} → (N → List ℕ) → Held N → Asking N → Asked
asked_of f h a = record { goal = term_of f h a.goal; new = a.new }

-- the exception that a substitute waits by of the element at a place of a list, the first being 0
abbrev pub asked_in : Term → ℕ → Option Asked
asked_in t place = option_and_then asked (slice_get (elements_of t) place)

-- its goal is of the store, and its variable is unbound there
pub record IsAskingIn {N : Type 0} (h : Held N) (a : Asking N) : Type 0 where
  pub goal : IsIn h a.goal
  pub new : IsUnbound h a.new
