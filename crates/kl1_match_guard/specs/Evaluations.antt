-- What terms come to as expressions.
use Rattle.std.specs.Prelude.{◌≡◌, ℕ, ◌≤◌, List, vec_capacity}
use Rattle.kl1_model.specs.declared.built_in.BuiltIn.{BuiltIn}
use Rattle.kl1_model.specs.declared.limits.TheConstants.{MOST_OPERATORS}
use Rattle.kl1_model.specs.Term.{Term}
use Rattle.kl1_model.specs.Arithmetic as model
use Rattle.kl1_text.specs.Reading.{Reads}
use Rattle.kl1_match_guard.specs.declared.evaluated.Evaluated.{Evaluated}
use Rattle.kl1_match_guard.specs.declared.evaluated.Evaluated.TheVariants.{ComesTo, Awaits, IsNoExpression}
use Rattle.kl1_match_guard.specs.declared.scratch.Scratch.{Scratch}
use Rattle.kl1_model.specs.Found.{Found, found, awaits, wrong}
use Rattle.kl1_model.specs.declared.number.Number.{Number}

-- what the definitions call it, if variables have these numbers
abbrev pub evaluated_of : {V : Type 0} → (V → ℕ) → Evaluated V → Found Number
evaluated_of number (ComesTo x) = found x
evaluated_of number (Awaits v) = awaits (number v)
evaluated_of number IsNoExpression = wrong

-- what a term comes to, however names are read
abbrev pub EvaluatesAs : {N V : Type 0} → (BuiltIn → N) → (V → ℕ) → ((N → List ℕ) → Term) → Evaluated V → Type 0
EvaluatesAs {N = N} built number term e = (f : N → List ℕ) → Reads built f → evaluated_of number e ≡ model.evaluated (term f)

-- the variable that is waited for is unbound
abbrev pub IsAwaited : {V : Type 0} → (V → Type 0) → Evaluated V → Type 0
IsAwaited IsFree (ComesTo x) = Unit {0}
IsAwaited IsFree (Awaits v) = IsFree v
IsAwaited IsFree IsNoExpression = Unit {0}

-- room for as many operations as an expression may have
abbrev pub HasRoom : {A S : Type 0} → Scratch A S → Type 0
HasRoom scratch = MOST_OPERATORS ≤ vec_capacity scratch.stack
