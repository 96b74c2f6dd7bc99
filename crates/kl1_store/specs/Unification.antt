-- Unification on a store, by the definition of unification on terms.
use Rattle.std.specs.Prelude.{◌≡◌, ℕ, List, Some, None}
use Rattle.kl1_model.specs.declared.built_in.BuiltIn.{BuiltIn}
use Rattle.kl1_model.specs.Term.{Replacement}
use Rattle.kl1_model.specs.code.Unifying.{replaced}
use Rattle.kl1_model.specs.Unify.{mgu}
use Rattle.kl1_store.specs.declared.cell.Cell.{Cell}
use Rattle.kl1_store.specs.declared.unified.Unified.{Unified}
use Rattle.kl1_store.specs.declared.unified.Unified.TheVariants.{Bound, Clash}
use Rattle.kl1_store.specs.Held.{Held}
use Rattle.kl1_store.specs.Meaning.{term_of}
use Rattle.kl1_store.specs.Sound.{Grown}
use Rattle.kl1_store.specs.Unifies.{ForEachReading, equation_of}

-- the solution of an equation was made everywhere: each cell means what it meant, with its replacements
pub record IsSolved {N : Type 0} (f : N → List ℕ) (old new : Held N) (x y : Cell N) : Type 0 where
  pub replacements : List Replacement
  pub solves : mgu (equation_of f old x y) ≡ Some replacements
  pub everywhere : (z : Cell N) → term_of f new z ≡ replaced replacements (term_of f old z)

-- what unification promises
abbrev pub UnifiesAs : {N : Type 0} → (BuiltIn → N) → Held N → Held N → Cell N → Cell N → Unified → Type 0
UnifiesAs built old new x y Bound = ForEachReading built (λ f. IsSolved f old new x y) × Grown old new × (new.variables ≡ old.variables)
UnifiesAs built old new x y Clash = ForEachReading built (λ f. mgu (equation_of f old x y) ≡ None) × (new ≡ old)

-- what unification comes to if nothing is taken back: after a clash what was bound so far is still bound
abbrev pub SettlesTo : {N : Type 0} → (BuiltIn → N) → Held N → Held N → Cell N → Cell N → Unified → Type 0
SettlesTo built old new x y Bound = UnifiesAs built old new x y Bound
SettlesTo built old new x y Clash = ForEachReading built (λ f. mgu (equation_of f old x y) ≡ None)
