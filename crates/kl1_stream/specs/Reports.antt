-- What becomes of a report, and of a stream that ends.
use Rattle.std.specs.Prelude.{◌≡◌, ℕ, Bool, true, false, ◌||◌, List}
use Rattle.kl1_model.specs.declared.built_in.BuiltIn.{BuiltIn}
use Rattle.kl1_model.specs.Term.{Term, variable, integer, atom, structure, occurs}
use Rattle.kl1_text.specs.Reading.{Reads}
use Rattle.kl1_store.specs.declared.cell.Cell.{Cell}
use Rattle.kl1_store.specs.Held.{Held}
use Rattle.kl1_store.specs.Meaning.{term_of}
use Rattle.kl1_stream.specs.declared.told.Told.{Told}
use Rattle.kl1_stream.specs.declared.told.Told.TheVariants.{Dropped, Broken, Sent}
use Rattle.kl1_stream.specs.Sendings.{AreSent, Ends}

-- a message breaks a stream with this tail, whether the account has made its last report or not
abbrev pub Breaks : Bool → Term → Term → Type 0
Breaks is_last (variable v) message = (occurs v message || is_last) ≡ true
Breaks is_last (integer i) message = Unit {0}
Breaks is_last (atom a) message = Unit {0}
Breaks is_last (structure f ts) message = Unit {0}

-- a message broke a stream
pub record HasBroken {N : Type 0} (built : BuiltIn → N) (old new : Held N) (tail : Cell N) (is_broken is_last : Bool) (message : Cell N) : Type 0 where
  pub whole : is_broken ≡ false
  pub same : new ≡ old
  pub breaks : (f : N → List ℕ) → Reads built f → Breaks is_last (term_of f old tail) (term_of f old message)

-- a message was sent on a stream, in place of a variable
pub record HasSent {N : Type 0} (built : BuiltIn → N) (old new : Held N) (tail : Cell N) (is_broken is_last : Bool) (message : Cell N) (next : ℕ) : Type 0 where
  pub whole : is_broken ≡ false
  pub more : is_last ≡ false
  pub number : ℕ
  pub tail_is : (f : N → List ℕ) → term_of f old tail ≡ variable number
  pub sent : AreSent built old new number message next

-- what became of a report, whether the account has made its last one or not
abbrev pub ToldAs : {N : Type 0} → (BuiltIn → N) → Held N → Held N → Cell N → Bool → Bool → Cell N → Told → Type 0
ToldAs built old new tail is_broken is_last message Dropped = (is_broken ≡ true) × (new ≡ old)
ToldAs built old new tail is_broken is_last message Broken = HasBroken built old new tail is_broken is_last message
ToldAs built old new tail is_broken is_last message (Sent next) = HasSent built old new tail is_broken is_last message next

-- for one reading of the names, a stream with this tail has ended: an unbound tail has become the empty list, and if it is none, nothing is new
abbrev pub EndsAt : {N : Type 0} → (N → List ℕ) → Held N → Held N → Term → Type 0
EndsAt f old new (variable v) = Ends f old new v
EndsAt f old new (integer i) = new ≡ old
EndsAt f old new (atom a) = new ≡ old
EndsAt f old new (structure g ts) = new ≡ old

-- what became of a stream that ends: on a broken one, nothing is new
pub record ClosedAs {N : Type 0} (built : BuiltIn → N) (old new : Held N) (tail : Cell N) (is_broken : Bool) : Type 0 where
  pub variables : new.variables ≡ old.variables
  pub broken : is_broken ≡ true → new ≡ old
  pub whole : is_broken ≡ false → (f : N → List ℕ) → Reads built f → EndsAt f old new (term_of f old tail)
