-- The first element of a list, and the rest.
use Rattle.std.specs.Prelude.{◌≡◌, ℕ, List, []}
use Rattle.kl1_model.specs.declared.built_in.BuiltIn.{BuiltIn}
use Rattle.kl1_model.specs.Meaning.{cell}
use Rattle.kl1_model.specs.Asking.{elements_of}
use Rattle.kl1_text.specs.Reading.{Reads}
use Rattle.kl1_store.specs.declared.cell.Cell.{Cell}
use Rattle.kl1_store.specs.Held.{Held, IsIn}
use Rattle.kl1_store.specs.Meaning.{term_of}

-- a cell that is no list cell
abbrev pub HasNoElement : {N : Type 0} → (BuiltIn → N) → Held N → Cell N → Type 0
HasNoElement {N = N} built h x = (f : N → List ℕ) → Reads built f → elements_of (term_of f h x) ≡ []

-- a cell that is a list cell of this element and this rest
pub record HasElement {N : Type 0} (built : BuiltIn → N) (h : Held N) (x : Cell N) (p : Cell N × Cell N) : Type 0 where
  pub element_in : IsIn h p.0
  pub rest_in : IsIn h p.1
  pub is : (f : N → List ℕ) → Reads built f → term_of f h x ≡ cell (term_of f h p.0) (term_of f h p.1)
