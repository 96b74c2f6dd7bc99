-- Entries that have lines, and journals with room for more of them.
use Rattle.std.specs.Prelude.{ℕ, zero, suc, ◌+◌, ◌*◌, nat_le, nat_lt, ◌&&◌, Bool, if◌then◌else◌, List, [], ◌∷◌, ◌++◌, length, Option, Some, None, option_and_then}
use Rattle.kl1_model.specs.declared.rules.Rules.{Rules}
use Rattle.kl1_model.specs.State.{has_forgetting}
use Rattle.kl1_model.specs.Goal.{is_goal}
use Rattle.kl1_model.specs.Meaning.{is_writable, is_numbered}
use Rattle.kl1_model.specs.Event.{Event, load, start, control, reduce, read, login, logout, reset, answer, forget, is_number}
use Rattle.kl1_model.specs.declared.limits.TheConstants.{MOST_LINE_BYTES, MOST_RUN}
use Rattle.kl1_model.specs.Opening.{start_line}
use Rattle.kl1_model.specs.Sending.{may_send}
use Rattle.kl1_model.specs.Answering.{answer_line, is_numbered_by}
use Rattle.kl1_model_server.specs.Journal.{Entry, loads, starts, sends, steps, answers, forgets, runs, Journal, without_last, entered, stepped}

-- whether an entry of a journal of these rules has numbers below 2 ^ 63, a goal that can be written and read back, and a line that isn't too long
abbrev pub is_lined : Rules → Entry → Bool
is_lined rules (loads text) = nat_le (5 + 2 * length text) MOST_LINE_BYTES
is_lined rules (starts allowance low high t) = is_number allowance && is_number low && is_number high && is_goal t && is_writable t && is_numbered t && nat_le (length (start_line allowance low high t)) MOST_LINE_BYTES
is_lined rules (sends n m) = may_send n m
is_lined rules (steps goal clause) = is_number goal && is_number clause
is_lined rules (answers n report t) = is_number n && is_number report && is_goal t && is_writable t && is_numbered_by rules t && nat_le (length (answer_line n report t)) MOST_LINE_BYTES
is_lined rules (forgets n count) = has_forgetting rules && is_number n && is_number count
is_lined rules (runs n) = nat_le 1 n && is_number n

-- the entry that an event is, if it is one
abbrev pub entry_of : Event → Option Entry
entry_of (load text) = Some (loads text)
entry_of (start allowance low high t) = Some (starts allowance low high t)
entry_of (control n m) = Some (sends n m)
entry_of (reduce goal clause) = Some (steps goal clause)
entry_of (read q) = None
entry_of login = None
entry_of logout = None
entry_of reset = None
entry_of (answer n report t) = Some (answers n report t)
entry_of (forget n count) = Some (forgets n count)

-- an entry, if it is lined
abbrev pub if_lined : Rules → Entry → Option Entry
if_lined rules e = if is_lined rules e then Some e else None

-- the entry that an event is, if it is one and is lined
abbrev pub lined_entry : Rules → Event → Option Entry
lined_entry rules e = option_and_then (if_lined rules) (entry_of e)

-- what is to be put into a journal of these rules
pub record Pending : Type 0 where
  pub rules : Rules
  pub entry : Option Entry

abbrev pub pending : Rules → Option Entry → Pending
pending rules e = record { rules = rules; entry = e }

-- a journal with one entry more, if there is one
abbrev pub with_prepared : Journal → Option Entry → Journal
with_prepared j None = j
with_prepared j (Some e) = entered j e

-- how many reductions a run has that may have more, or 0
abbrev pub if_longer : ℕ → ℕ
if_longer n = if nat_lt n MOST_RUN then n else 0

-- entries with one first reduction more: in the last, which is a run of this length, or in one of its own if that is 0
abbrev pub lengthened : List Entry → ℕ → List Entry
lengthened es zero = es ++ runs 1 ∷ []
lengthened es (suc n) = without_last es ++ runs (suc (suc n)) ∷ []

-- a journal with one reduction more, which made its last run this long; in no run it is an entry, if it is lined
abbrev pub with_reduction : Journal → ℕ → ℕ → ℕ → Journal
with_reduction j goal clause zero = with_prepared j (if_lined j.rules (steps goal clause))
with_reduction j goal clause (suc n) = stepped j goal clause (suc n)

-- a journal, and for how many entries more there is room
pub record Rows : Type 0 where
  pub journal : Journal
  pub room : ℕ
