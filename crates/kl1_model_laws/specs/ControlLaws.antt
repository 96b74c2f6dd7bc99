-- The control streams of the shoens that the console started.
use Rattle.std.specs.Prelude.{◌≡◌, ℕ, Bool, true, false, List, [], ◌∷◌, Some}
use Rattle.kl1_model.specs.declared.rules.Rules.{Rules}
use Rattle.kl1_model.specs.declared.message.Message.{Message}
use Rattle.kl1_model.specs.Term.{Term, variable}
use Rattle.kl1_model.specs.Meaning.{cell}
use Rattle.kl1_model.specs.Control.{message_term}
use Rattle.kl1_model.specs.State.{Shoen, Origin, shoen_at}
use Rattle.kl1_model.specs.Event.{Event}
use Rattle.kl1_model_laws.specs.Reached.{reached}

-- whether a term is an unbound variable
abbrev pub is_unbound : Term → Bool
is_unbound (variable v) = true
is_unbound t = false

-- messages on a control stream, and then this tail
abbrev pub messages_then : List Message → Term → Term
messages_then [] t = t
messages_then (m ∷ ms) t = cell (message_term m) (messages_then ms t)

-- the tail of the control stream that the console keeps of a shoen that it started is unbound in each account, whatever was done to
-- the account since it was fresh
abbrev pub ControlTailsAreUnbound : Type 0
ControlTailsAreUnbound = (rules : Rules) (name : List ℕ) (es : List Event) (n : ℕ) (h : Shoen) (o : Origin) → shoen_at n (reached rules name es).shoens ≡ Some h → h.origin ≡ Some o → is_unbound o.control ≡ true

-- and what its monitor has still to read is messages, and then that tail
abbrev pub ControlStreamsAreMessages : Type 0
ControlStreamsAreMessages =
    (rules : Rules) (name : List ℕ) (es : List Event) (n : ℕ) (h : Shoen) (o : Origin) → shoen_at n (reached rules name es).shoens ≡ Some h → h.origin ≡ Some o →
    (ms : List Message) × (h.control ≡ messages_then ms o.control)
