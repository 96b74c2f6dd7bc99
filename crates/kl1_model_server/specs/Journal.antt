-- The journal of an account, and what it says of the account.
use Rattle.std.specs.Prelude.{ℕ, zero, suc, nat_lt, Bool, true, false, if◌then◌else◌, List, [], ◌∷◌, ◌++◌, fold, Option, Some, None}
use Rattle.kl1_model.specs.declared.limits.TheConstants.{MOST_RUN}
use Rattle.kl1_model.specs.declared.message.Message.{Message}
use Rattle.kl1_model.specs.declared.rules.Rules.{Rules}
use Rattle.kl1_model.specs.Term.{Term}
use Rattle.kl1_model.specs.State.{State, has_runs, fresh, fresh_with}
use Rattle.kl1_model.specs.Event.{syntax, step_refused, Event, load, start, control, reduce, read, login, logout, reset, answer, forget, Reply, ran, Transition, refuse, is_refused}
use Rattle.kl1_model.specs.Choice.{Chosen, first}
use Rattle.kl1_model.specs.Step.{step}

-- an entry: a loaded source, a start, a message to a shoen, a reduction, an answer to a report, or a letting go, whose numbers are those of
-- its event; or a run, which is this number of reductions, one after another, each the first that the account could do
pub data Entry : Type 0 where
  loads : List ℕ → Entry
  starts : ℕ → ℕ → ℕ → Term → Entry
  sends : ℕ → Message → Entry
  steps : ℕ → ℕ → Entry
  answers : ℕ → ℕ → Term → Entry
  forgets : ℕ → ℕ → Entry
  runs : ℕ → Entry

-- whether an event is an entry of a journal, if it is accepted
abbrev pub is_entry : Event → Bool
is_entry (load text) = true
is_entry (start allowance low high t) = true
is_entry (control n m) = true
is_entry (answer n report t) = true
is_entry (forget n count) = true
is_entry (reduce goal clause) = true
is_entry _ = false

-- the reduction that was chosen, and the reply; refused if there is none
abbrev pub chosen_step : State → Option Chosen → Transition
chosen_step s None = refuse s step_refused
chosen_step s (Some c) = step s (reduce c.goal c.clause)

-- the first reduction that an account can do, and the reply
abbrev pub first_step : State → Transition
first_step s = chosen_step s (first s)

-- `n` first reductions, one after another, and how many they are as the reply; refused if one of them is, and then the others are done
abbrev pub first_steps : ℕ → State → Transition
first_steps zero s = record { state = s; reply = ran 0 }
first_steps (suc n) s =
    let x = first_step (first_steps n s).state in
    record { state = x.state; reply = if is_refused x.reply then x.reply else ran (suc n) }

-- what an entry does to an account, and the reply; a run is refused by rules without runs
abbrev pub entry_step : State → Entry → Transition
entry_step s (loads text) = step s (load text)
entry_step s (starts allowance low high t) = step s (start allowance low high t)
entry_step s (sends n m) = step s (control n m)
entry_step s (steps goal clause) = step s (reduce goal clause)
entry_step s (answers n report t) = step s (answer n report t)
entry_step s (forgets n count) = step s (forget n count)
entry_step s (runs n) = if has_runs s.rules then first_steps n s else refuse s syntax

-- a journal: the account's rules, how many sessions are open, the names at the last reset, in order of first use, the text of the image that
-- it begins with, which is empty if it begins with the reset, and the entries since
pub record Journal : Type 0 where
  pub rules : Rules
  pub sessions : ℕ
  pub names : List (List ℕ)
  pub image : List ℕ
  pub entries : List Entry

-- a journal of these rules, these names and this number of open sessions, without entries
abbrev pub new_journal : Rules → List (List ℕ) → ℕ → Journal
new_journal rules names sessions = record { rules = rules; sessions = sessions; names = names; image = []; entries = [] }

-- entries without the last
abbrev pub without_last : List Entry → List Entry
without_last [] = []
without_last (e ∷ []) = []
without_last (e ∷ f ∷ es) = e ∷ without_last (f ∷ es)

-- a journal with one entry more
abbrev pub entered : Journal → Entry → Journal
entered j e = record j { entries = j.entries ++ e ∷ [] }

-- how many reductions an entry is as a run, or 0
abbrev pub run_length : Entry → ℕ
run_length (runs n) = n
run_length _ = 0

-- how long the run is that entries end with, or 0
abbrev pub last_run_of : List Entry → ℕ
last_run_of [] = 0
last_run_of (e ∷ []) = run_length e
last_run_of (e ∷ f ∷ es) = last_run_of (f ∷ es)

-- entries with one first reduction more: in the run of this length that they end with, or in a new one
abbrev pub run_longer : List Entry → ℕ → List Entry
run_longer es zero = es ++ runs 1 ∷ []
run_longer es (suc n) = if nat_lt (suc n) MOST_RUN then without_last es ++ runs (suc (suc n)) ∷ [] else es ++ runs 1 ∷ []

-- a journal with one reduction more, which made its last run this long: an entry of its own if 0, a new run if 1, or else in the last entry if
-- that is a run
abbrev pub stepped : Journal → ℕ → ℕ → ℕ → Journal
stepped j goal clause zero = entered j (steps goal clause)
stepped j goal clause (suc zero) = entered j (runs 1)
stepped j goal clause (suc (suc n)) = record j { entries = run_longer j.entries (last_run_of j.entries) }

-- a journal after an accepted event that led to this account; a query is no entry, and a reset begins the journal anew
abbrev pub with_event : Journal → Event → State → Journal
with_event j (load text) s = entered j (loads text)
with_event j (start allowance low high t) s = entered j (starts allowance low high t)
with_event j (control n m) s = entered j (sends n m)
with_event j (reduce goal clause) s = stepped j goal clause s.run
with_event j (read q) s = j
with_event j login s = record j { sessions = s.sessions }
with_event j logout s = record j { sessions = s.sessions }
with_event j reset s = new_journal s.rules s.names s.sessions
with_event j (answer n report t) s = entered j (answers n report t)
with_event j (forget n count) s = entered j (forgets n count)

-- a journal after what became of an event: a refused event leaves it, and an accepted one is noted in it
abbrev pub noted : Journal → Event → Transition → Journal
noted j e x = if is_refused x.reply then j else with_event j e x.state

-- the account of this name that a journal begins with: fresh but for the journal's rules, names and sessions
abbrev pub base : List ℕ → Journal → State
base name j = fresh_with j.rules name j.names j.sessions

-- the replay of a journal: the account that it begins with, after the journal's entries
abbrev pub replay : List ℕ → Journal → State
replay name j = fold (λ s e. (entry_step s e).state) (base name j) j.entries

-- an account with its journal
pub record Kept : Type 0 where
  pub state : State
  pub journal : Journal

-- an account with its journal after what was done to it, and the reply
pub record Done : Type 0 where
  pub kept : Kept
  pub reply : Reply

-- an account of this name, which keeps to these rules, in which nothing has happened, with its journal
abbrev pub fresh_kept : Rules → List ℕ → Kept
fresh_kept rules name = record { state = fresh rules name; journal = new_journal rules [] 0 }

-- what an event does to an account with its journal, and the reply
abbrev pub done : Kept → Event → Done
done k e = let x = step k.state e in record { kept = record { state = x.state; journal = noted k.journal e x }; reply = x.reply }
