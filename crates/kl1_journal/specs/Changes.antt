-- What an event changes in a journal.
use Rattle.std.specs.Prelude.{⊤, ◌≡◌, ℕ, suc, ◌-◌, ◌<◌, ◌⊎◌, List, IfSome}
use Rattle.kl1_model.specs.declared.limits.TheConstants.{MOST_SESSIONS}
use Rattle.kl1_model.specs.Event as model
use Rattle.kl1_model_server.specs.Journal.{Journal, new_journal}
use Rattle.kl1_journal_entries.specs.Lined.{Rows, pending, lined_entry, with_prepared, with_reduction}
use Rattle.kl1_journal.specs.declared.change.Change.{Change}
use Rattle.kl1_journal.specs.declared.change.Change.TheVariants as change

-- a journal after a reply that tells of a session
abbrev pub sessions_after : Journal → model.Reply → Journal
sessions_after j (model.welcome name) = record j { sessions = suc j.sessions }
sessions_after j model.bye = record j { sessions = j.sessions - 1 }
sessions_after j _ = j

-- a journal after a change, and the reply, of an account whose last run then has this many reductions
abbrev pub changed : Journal → Change → ℕ → model.Reply → Journal
changed j change.Nothing run reply = j
changed j (change.Entry entry) run reply = with_prepared j entry.entry
changed j (change.Reduction goal clause) run reply = with_reduction j goal.0 clause.0 run
changed j change.Sessions run reply = sessions_after j reply
changed j (change.Anew new) run reply = new.journal

-- an event is a query
abbrev pub IsQuery : model.Event → Type 0
IsQuery (model.read q) = ⊤
IsQuery _ = ⊥

-- an event is an entry of its own, if it is accepted: a reduction isn't always, since it may be in a run
abbrev pub IsEntered : model.Event → Type 0
IsEntered (model.load text) = ⊤
IsEntered (model.start allowance low high t) = ⊤
IsEntered (model.control n m) = ⊤
IsEntered (model.answer n report t) = ⊤
IsEntered (model.forget n count) = ⊤
IsEntered _ = ⊥

-- a change is that of an event in this journal, if the account uses these names
abbrev pub IsChange : List (List ℕ) → Journal → model.Event → Change → Type 0
IsChange names j e change.Nothing = IsQuery e
IsChange names j e (change.Entry entry) = (entry ≡ pending j.rules (lined_entry j.rules e)) × IsEntered e
IsChange names j e (change.Reduction goal clause) = e ≡ model.reduce goal.0 clause.0
IsChange names j e change.Sessions = (e ≡ model.login) ⊎ (e ≡ model.logout)
IsChange names j e (change.Anew new) = (e ≡ model.reset) × (new.journal ≡ new_journal j.rules names j.sessions)

-- there is room for the entry of a change
abbrev pub HasRoom : Rows → Change → Type 0
HasRoom rows change.Nothing = ⊤
HasRoom rows (change.Entry entry) = IfSome entry.entry (λ _. 0 < rows.room) × (entry.rules ≡ rows.journal.rules)
HasRoom rows (change.Reduction goal clause) = 0 < rows.room
HasRoom rows change.Sessions = ⊤
HasRoom rows (change.Anew new) = ⊤

-- a reply fits how many sessions are open
abbrev pub ReplyFits : Journal → model.Reply → Type 0
ReplyFits j (model.welcome name) = j.sessions < MOST_SESSIONS
ReplyFits j model.bye = 0 < j.sessions
ReplyFits j _ = ⊤

-- a reply fits a change of how many sessions are open
abbrev pub SessionsFit : Journal → Change → model.Reply → Type 0
SessionsFit j change.Sessions reply = ReplyFits j reply
SessionsFit j change.Nothing reply = ⊤
SessionsFit j (change.Entry entry) reply = ⊤
SessionsFit j (change.Reduction goal clause) reply = ⊤
SessionsFit j (change.Anew new) reply = ⊤
