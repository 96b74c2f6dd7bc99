-- Messages that the console puts on control streams.
use Rattle.std.specs.Prelude.{◌≡◌, ℕ, suc, List, Option, Some, None}
use Rattle.kl1_model.specs.declared.built_in.BuiltIn.{BuiltIn}
use Rattle.kl1_model.specs.declared.message.Message.{Message}
use Rattle.kl1_model.specs.Term.{Term, variable, integer, atom, structure, replace}
use Rattle.kl1_model.specs.Meaning.{cell}
use Rattle.kl1_model.specs.Control.{message_term}
use Rattle.kl1_text.specs.Reading.{Reads}
use Rattle.kl1_store.specs.declared.cell.Cell.{Cell}
use Rattle.kl1_store.specs.declared.cell.Cell.TheVariants.{Variable}
use Rattle.kl1_store.specs.Held.{Held, IsIn}
use Rattle.kl1_store.specs.Meaning.{term_of}

-- a cell of a store means a message, no variable and no binding is new, and all that was there means what it meant
pub record IsMessage {N : Type 0} (built : BuiltIn → N) (old new : Held N) (message : Message) (x : Cell N) : Type 0 where
  pub inside : IsIn new x
  pub variables : new.variables ≡ old.variables
  pub bindings : new.bindings ≡ old.bindings
  pub means : (f : N → List ℕ) → Reads built f → term_of f new x ≡ message_term message
  pub others : (f : N → List ℕ) (y : Cell N) → IsIn old y → term_of f new y ≡ term_of f old y

-- for one reading of the names, a variable has become a list cell of a message and the next variable
pub record IsPut {N : Type 0} (f : N → List ℕ) (old new : Held N) (v : ℕ) (message : Message) (next : ℕ) : Type 0 where
  pub tail : term_of f new (Variable next) ≡ variable next
  pub means : (x : Cell N) → IsIn old x → term_of f new x ≡ replace v (cell (message_term message) (variable next)) (term_of f old x)

-- a message was put at the end of a stream, in place of the variable `number`: the next variable is new, and no other
pub record HasPut {N : Type 0} (built : BuiltIn → N) (old new : Held N) (tail : Cell N) (message : Message) (next : ℕ) : Type 0 where
  pub number : ℕ
  pub tail_is : (f : N → List ℕ) → term_of f old tail ≡ variable number
  pub next_is : next ≡ old.variables
  pub variables : new.variables ≡ suc old.variables
  pub each : (f : N → List ℕ) → Reads built f → IsPut f old new number message next

-- a term that is no variable
abbrev pub IsNoVariable : Term → Type 0
IsNoVariable (variable v) = ⊥
IsNoVariable (integer i) = Unit {0}
IsNoVariable (atom a) = Unit {0}
IsNoVariable (structure f ts) = Unit {0}

-- what became of a message: if the end of the stream is no variable, nothing is new
abbrev pub PutAs : {N : Type 0} → (BuiltIn → N) → Held N → Held N → Cell N → Message → Option ℕ → Type 0
PutAs built old new tail message None = (f : _) → Reads built f → (new ≡ old) × IsNoVariable (term_of f old tail)
PutAs built old new tail message (Some next) = HasPut built old new tail message next
