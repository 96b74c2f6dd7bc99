-- What stands where an unbound variable stood.
use Rattle.std.specs.Prelude.{◌≡◌, ℕ, suc, true, false, List, Option, Some, None}
use Rattle.kl1_model.specs.declared.built_in.BuiltIn.{BuiltIn}
use Rattle.kl1_model.specs.Term.{variable, occurs, replace}
use Rattle.kl1_model.specs.Meaning.{cell, nil}
use Rattle.kl1_text.specs.Reading.{Reads}
use Rattle.kl1_store.specs.declared.cell.Cell.{Cell}
use Rattle.kl1_store.specs.declared.cell.Cell.TheVariants.{Variable}
use Rattle.kl1_store.specs.Held.{Held, IsIn}
use Rattle.kl1_store.specs.Meaning.{term_of}

-- for one reading of the names, a variable has become a list cell of a message and the next variable
pub record IsSent {N : Type 0} (f : N → List ℕ) (old new : Held N) (v : ℕ) (message : Cell N) (next : ℕ) : Type 0 where
  pub free : occurs v (term_of f old message) ≡ false
  pub tail : term_of f new (Variable next) ≡ variable next
  pub means : (x : Cell N) → IsIn old x → term_of f new x ≡ replace v (cell (term_of f old message) (variable next)) (term_of f old x)

-- a message was sent: the next variable is new, and nothing else
pub record AreSent {N : Type 0} (built : BuiltIn → N) (old new : Held N) (v : ℕ) (message : Cell N) (next : ℕ) : Type 0 where
  pub next_is : next ≡ old.variables
  pub variables : new.variables ≡ suc old.variables
  pub each : (f : N → List ℕ) → Reads built f → IsSent f old new v message next

-- a message was put where a variable stood, or it has that variable in it
abbrev pub SentAs : {N : Type 0} → (BuiltIn → N) → Held N → Held N → ℕ → Cell N → Option ℕ → Type 0
SentAs built old new v message None = (new ≡ old) × ((f : _) → Reads built f → occurs v (term_of f old message) ≡ true)
SentAs built old new v message (Some next) = AreSent built old new v message next

-- for one reading of the names, a variable has become the empty list
abbrev pub Ends : {N : Type 0} → (N → List ℕ) → Held N → Held N → ℕ → Type 0
Ends f old new v = (x : _) → term_of f new x ≡ replace v nil (term_of f old x)

-- a variable has become the empty list, and nothing is new
pub record IsEnded {N : Type 0} (built : BuiltIn → N) (old new : Held N) (v : ℕ) : Type 0 where
  pub variables : new.variables ≡ old.variables
  pub each : (f : N → List ℕ) → Reads built f → Ends f old new v
