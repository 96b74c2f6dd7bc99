-- What a run of many accounts' events leaves and answers.
use Rattle.std.specs.Prelude.{◌≡◌, ℕ, ◌<◌, List, [], ◌∷◌, ◌++◌, map, length, get_or, slice_set}
use Rattle.std.specs.List.{AllByRecursion}
use Rattle.kl1_model.specs.declared.rules.Rules.{Rules}
use Rattle.kl1_model.specs.Event as model
use Rattle.kl1_model_server.specs.Journal.{done, fresh_kept}
use Rattle.kl1_model_server.specs.Alone.{Deed, only, replies_at, alone}
use Rattle.kl1_user_events.specs.declared.event.Event.{Event}
use Rattle.kl1_user_events.specs.declared.reply.Reply.{Reply}
use Rattle.kl1_user_events.specs.Views.{event_of, reply_of}
use Rattle.kl1_journal.specs.Keeping.{Reading, Fits}
use Rattle.kl1_journal.specs.Keeping.{Held, nobody, kept_of}

-- account `u`, with its journal
abbrev pub account_in : List Held → ℕ → Held
account_in accounts u = get_or accounts u nobody

-- an event with its account, as the definitions have it
abbrev pub deed_of : (ℕ × Event) → Deed
deed_of x = record { account = x.0; event = event_of x.1 }

-- events with their accounts, as the definitions have them
abbrev pub events_of : List (ℕ × Event) → List Deed
events_of events = map deed_of events

-- each event is of one of this number of accounts
abbrev pub AreOf : ℕ → List (ℕ × Event) → Type 0
AreOf count events = AllByRecursion (λ x. x.0 < count) events

-- accounts of these names, which keep to these rules, in which nothing has happened
abbrev pub AreFresh : Rules → List Held → List (List ℕ) → Type 0
AreFresh rules accounts names = (u : ℕ) (f : Reading) → u < length names → kept_of f (account_in accounts u) ≡ fresh_kept rules (get_or names u [])

-- these events have been done, with these replies: each account is what its own events alone make of it, and the replies at its places
-- are those of its own events alone
abbrev pub IsRun : List Held → List Held → List Deed → List Reply → Type 0
IsRun old new deeds replies =
    (u : ℕ) (f : Reading) → u < length old → Fits (account_in new u).0.names f →
    alone (kept_of f (account_in old u)) (only u deeds) ≡ record { kept = kept_of f (account_in new u); replies = replies_at u deeds (map reply_of replies) }

-- an event of an account was done, and its reply put after others
pub record Answers (old new : List Held) (account : ℕ) (event : model.Event) (before after : List Reply) : Type 0 where
  pub reply : Reply
  pub put : after ≡ before ++ reply ∷ []
  pub step_is : (f : Reading) → Fits (account_in new account).0.names f → done (kept_of f (account_in old account)) event ≡ record { kept = kept_of f (account_in new account); reply = reply_of reply }
  pub others : new ≡ slice_set old account (account_in new account)
  pub fits : (f : Reading) → Fits (account_in new account).0.names f → Fits (account_in old account).0.names f

-- accounts with nobody in the place of one
abbrev pub all_but : ℕ → List Held → List Held
all_but n accounts = slice_set accounts n nobody
