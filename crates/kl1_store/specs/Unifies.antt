-- What unification promises of a store, by its definition.
use Rattle.std.specs.Prelude.{◌≡◌, ℕ, Bool, true, false, List, [], ◌∷◌, ◌++◌, Option, Some, None}
use Rattle.kl1_model.specs.declared.built_in.BuiltIn.{BuiltIn}
use Rattle.kl1_model.specs.Term.{Replacement, occurs}
use Rattle.kl1_model.specs.Unify.{Equation, mgu}
use Rattle.kl1_model.specs.code.Unifying.{after, bound_to}
use Rattle.kl1_text.specs.Reading.{Reads}
use Rattle.kl1_store.specs.declared.cell.Cell.{Cell}
use Rattle.kl1_store.specs.declared.frame.Frame.{Frame}
use Rattle.kl1_store.specs.declared.next.Next.{Next}
use Rattle.kl1_store.specs.declared.next.Next.TheVariants.{Finished, Never, Binds}
use Rattle.kl1_store.specs.Held.{Held, with_binding}
use Rattle.kl1_store.specs.declared.binding.Binding.{Binding}
use Rattle.kl1_store.specs.Meaning.{term_of, replacements}
use Rattle.kl1_store.specs.Waiting.{waiting, ArePairs}
use Rattle.kl1_store.specs.Meets.{CanTake}

-- a fact for every reading of the names
abbrev pub ForEachReading : {N : Type 0} → (BuiltIn → N) → ((N → List ℕ) → Type 0) → Type 0
ForEachReading built P = (f : _) → Reads built f → P f

-- what the waiting equations come to before the next binding
abbrev pub ComesTo : {N : Type 0} → (BuiltIn → N) → Held N → List Frame → List Frame → Next N → Type 0
ComesTo built h before ps Finished = ForEachReading built (λ f. mgu (waiting f h [] before) ≡ Some [])
ComesTo built h before ps Never = ForEachReading built (λ f. mgu (waiting f h [] before) ≡ None)
ComesTo built h before ps (Binds v x) =
    CanTake h v x × ArePairs h ps
    × ForEachReading built (λ f. mgu (waiting f h [] before) ≡ after mgu mgu (bound_to v (term_of f h x) (waiting f h [] ps)))

-- contents with more bindings, and nothing else new
pub record OnlyBound {N : Type 0} (old new : Held N) : Type 0 where
  pub added : List (Binding N)
  pub variables : new.variables ≡ old.variables
  pub structures : new.structures ≡ old.structures
  pub bindings : new.bindings ≡ old.bindings ++ added

-- the replacements that solve equations are those that were made
pub record Made {N : Type 0} (f : N → List ℕ) (old new : Held N) (answer : Option (List Replacement)) : Type 0 where
  pub made : List Replacement
  pub solves : answer ≡ Some made
  pub replacements : replacements f new ≡ replacements f old ++ made

-- whether equations that wait were solved
abbrev pub SettlesAs : {N : Type 0} → (BuiltIn → N) → Held N → Held N → ((N → List ℕ) → List Equation) → Bool → Type 0
SettlesAs built old new es true = ForEachReading built (λ f. Made f old new (mgu (es f)))
SettlesAs built old new es false = ForEachReading built (λ f. mgu (es f) ≡ None)

-- a variable that takes a cell, or that is in it
abbrev pub BindsAs : {N : Type 0} → Held N → Held N → ℕ → Cell N → Bool → Type 0
BindsAs old new v x true = (new ≡ with_binding old v x) × ((f : _) → occurs v (term_of f old x) ≡ false)
BindsAs old new v x false = (new ≡ old) × ((f : _) → occurs v (term_of f old x) ≡ true)

-- one equation
abbrev pub equation_of : {N : Type 0} → (N → List ℕ) → Held N → Cell N → Cell N → List Equation
equation_of f h x y = record { left = term_of f h x; right = term_of f h y } ∷ []
