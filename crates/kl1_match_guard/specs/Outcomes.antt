-- What tests come to.
use Rattle.std.specs.Prelude.{◌≡◌, ℕ, List, [], ◌∷◌}
use Rattle.kl1_model.specs.declared.built_in.BuiltIn.{BuiltIn}
use Rattle.kl1_model.specs.declared.comparison.Comparison.{Comparison}
use Rattle.kl1_model.specs.declared.type_test.TypeTest.{TypeTest}
use Rattle.kl1_model.specs.Term.{Term}
use Rattle.kl1_model.specs.Answer.{Answer, yes, no, wait}
use Rattle.kl1_model.specs.Guard.{look, sides_answer}
use Rattle.kl1_model.specs.Arithmetic.{evaluated}
use Rattle.kl1_text.specs.Reading.{Reads}
use Rattle.kl1_match_guard.specs.declared.outcome.Outcome.{Outcome}
use Rattle.kl1_match_guard.specs.declared.outcome.Outcome.TheVariants.{Agrees, Clashes, Waits}

-- what the definitions call it, if variables have these numbers
abbrev pub outcome_of : {V : Type 0} → (V → ℕ) → Outcome V → Answer
outcome_of number Agrees = yes
outcome_of number Clashes = no
outcome_of number (Waits v) = wait (number v ∷ [])

-- the variable that is waited for is unbound
abbrev pub IsWaiting : {V : Type 0} → (V → Type 0) → Outcome V → Type 0
IsWaiting IsFree Agrees = Unit {0}
IsWaiting IsFree Clashes = Unit {0}
IsWaiting IsFree (Waits v) = IsFree v

-- what comes of a look at a term, however names are read
abbrev pub LooksAs : {N V : Type 0} → (BuiltIn → N) → (V → ℕ) → TypeTest → ((N → List ℕ) → Term) → Outcome V → Type 0
LooksAs {N = N} built number type_test term outcome = (f : N → List ℕ) → Reads built f → outcome_of number outcome ≡ look type_test (term f)

-- what comes of a comparison of two terms, however names are read
abbrev pub ComparesAs : {N V : Type 0} → (BuiltIn → N) → (V → ℕ) → Comparison → ((N → List ℕ) → Term) → ((N → List ℕ) → Term) → Outcome V → Type 0
ComparesAs {N = N} built number comparison left right outcome = (f : N → List ℕ) → Reads built f → outcome_of number outcome ≡ sides_answer comparison (evaluated (left f)) (evaluated (right f))

-- a test that is known
abbrev pub IsKnown : {V : Type 0} → Outcome V → Type 0
IsKnown Agrees = Unit {0}
IsKnown Clashes = Unit {0}
IsKnown (Waits v) = ⊥
