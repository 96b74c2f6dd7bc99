-- The events of one account among those of several, and what they do to it alone.
use Rattle.std.specs.Prelude.{ℕ, ◌==◌, if◌then◌else◌, List, [], ◌∷◌}
use Rattle.kl1_model.specs.Event.{Event, Reply}
use Rattle.kl1_model_server.specs.Journal.{Kept, done}

-- an event, and the number of its account, from 0
pub record Deed : Type 0 where
  pub account : ℕ
  pub event : Event

-- an account with its journal after events, and its replies to them in order
pub record Told : Type 0 where
  pub kept : Kept
  pub replies : List Reply

-- the events of an account among those of several, in order
abbrev pub only : ℕ → List Deed → List Event
only u [] = []
only u (d ∷ ds) = if d.account == u then d.event ∷ only u ds else only u ds

-- of replies to events of several accounts, those to the events of one, in order
abbrev pub replies_at : ℕ → List Deed → List Reply → List Reply
replies_at u [] rs = []
replies_at u (d ∷ ds) [] = []
replies_at u (d ∷ ds) (r ∷ rs) = if d.account == u then r ∷ replies_at u ds rs else replies_at u ds rs

-- an account alone: events done to it in order, with its replies
abbrev pub alone : Kept → List Event → Told
alone k [] = record { kept = k; replies = [] }
alone k (e ∷ es) =
    let x = done k e in
    let told = alone x.kept es in
    record { kept = told.kept; replies = x.reply ∷ told.replies }
