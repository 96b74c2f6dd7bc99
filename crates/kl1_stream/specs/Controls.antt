-- What stands at the front of a control stream, by what its cells mean.
use Rattle.std.specs.Prelude.{ℕ, List}
use Rattle.kl1_model.specs.Control as model
use Rattle.kl1_store.specs.Held.{Held, IsIn}
use Rattle.kl1_store.specs.Meaning.{term_of}
use Rattle.kl1_store.specs.Unbound.{IsUnbound}
use Rattle.kl1_stream.specs.declared.control.Word.{Word}
use Rattle.kl1_stream.specs.declared.control.Word.TheVariants.{Says, SaysOther, Unsaid}
use Rattle.kl1_stream.specs.declared.control.Control.{Control}
use Rattle.kl1_stream.specs.declared.control.Control.TheVariants.{Awaits, Tells, TellsOther, Ends, BreaksOff}
use Rattle.kl1_model.specs.Found.{Found, found, awaits, wrong}
use Rattle.kl1_model.specs.declared.message.Message.{Message}

-- what an element says, by the definitions
abbrev pub word_as : Word → Found Message
word_as (Says message) = found message
word_as SaysOther = wrong
word_as (Unsaid v) = awaits v

-- a variable for which an element waits is unbound
abbrev pub WordIn : {N : Type 0} → Held N → Word → Type 0
WordIn h (Says message) = Unit {0}
WordIn h SaysOther = Unit {0}
WordIn h (Unsaid v) = IsUnbound h v

-- what stands at the front of a control stream, by the definitions, for one reading of the names
abbrev pub control_as : {N : Type 0} → (N → List ℕ) → Held N → Control N → model.Control
control_as f h (Awaits v) = model.awaits_message v
control_as f h (Tells message rest) = model.tells message (term_of f h rest)
control_as f h (TellsOther element rest) = model.tells_other (term_of f h element) (term_of f h rest)
control_as f h Ends = model.ends
control_as f h (BreaksOff x) = model.breaks_off (term_of f h x)

-- the cells are of the store, and a variable that is waited for is unbound
abbrev pub ControlIn : {N : Type 0} → Held N → Control N → Type 0
ControlIn h (Awaits v) = IsUnbound h v
ControlIn h (Tells message rest) = IsIn h rest
ControlIn h (TellsOther element rest) = IsIn h element × IsIn h rest
ControlIn h Ends = Unit {0}
ControlIn h (BreaksOff x) = IsIn h x
