-- Exceptions as cells.
use Rattle.std.specs.Prelude.{◌≡◌, ℕ, List}
use Rattle.kl1_model.specs.declared.built_in.BuiltIn.{BuiltIn}
use Rattle.kl1_model.specs.Text.{text_of}
use Rattle.kl1_model.specs.Report.{exception, exception_with}
use Rattle.kl1_text.specs.Reading.{Reads}
use Rattle.kl1_store.specs.declared.cell.Cell.{Cell}
use Rattle.kl1_store.specs.Held.{Held, IsIn}
use Rattle.kl1_store.specs.Meaning.{term_of}

-- a cell of a store means an exception of a kind with a goal, no variable and no binding is new, and all that was there means what it meant
pub record IsException {N : Type 0} (built : BuiltIn → N) (old new : Held N) (kind : BuiltIn) (goal x : Cell N) : Type 0 where
  pub inside : IsIn new x
  pub variables : new.variables ≡ old.variables
  pub bindings : new.bindings ≡ old.bindings
  pub means : (f : N → List ℕ) → Reads built f → term_of f new x ≡ exception (text_of kind) (term_of f old goal)
  pub others : (f : N → List ℕ) (y : Cell N) → IsIn old y → term_of f new y ≡ term_of f old y

-- a cell of a store means an exception of a kind with a goal and with what a substitute waits for, no variable and no binding is new, and
-- all that was there means what it meant
pub record IsExceptionWith {N : Type 0} (built : BuiltIn → N) (old new : Held N) (kind : BuiltIn) (goal awaited x : Cell N) : Type 0 where
  pub inside : IsIn new x
  pub variables : new.variables ≡ old.variables
  pub bindings : new.bindings ≡ old.bindings
  pub means : (f : N → List ℕ) → Reads built f → term_of f new x ≡ exception_with (text_of kind) (term_of f old goal) (term_of f old awaited)
  pub others : (f : N → List ℕ) (y : Cell N) → IsIn old y → term_of f new y ≡ term_of f old y
