-- What the entry of a line does to the account that replays, and what is written for it.
use Rattle.std.specs.Prelude.{⊤, ◌≡◌, Bool, true, false, ℕ, List, [], Option, Some, None}
use Rattle.kl1_model.specs.State.{State}
use Rattle.kl1_model.specs.Event.{Transition}
use Rattle.kl1_model_server.specs.Command.{reply_lines, written_lines}

-- what is written for an entry that is accepted, if it is one
abbrev pub told_of : Option Transition → List ℕ
told_of None = []
told_of (Some x) = written_lines (reply_lines x.reply)

-- whether an entry was accepted, and the account after it if it was
abbrev pub Went : Bool → Option Transition → State → Type 0
Went true (Some x) after = after ≡ x.state
Went true None after = ⊥
Went false (Some x) after = ⊥
Went false None after = ⊤
