-- What the entries of a journal do to an account, one after another, and how a restore ends.
use Rattle.std.specs.Prelude.{◌≡◌, ℕ, ◌+◌, ◌≤◌, ◌⊎◌, not, ◌&&◌, Bool, true, false, if◌then◌else◌, List, [], ◌∷◌, length, take, drop, fold, map, IsTrue}
use Rattle.kl1_model.specs.declared.rules.Rules.{Rules}
use Rattle.kl1_model.specs.Term.{Term}
use Rattle.kl1_model.specs.State.{State, has_told}
use Rattle.kl1_model.specs.Event.{Reply, ran, is_refused}
use Rattle.kl1_model_server.specs.Journal.{Entry, loads, starts, sends, steps, answers, forgets, runs, run_length, entry_step, first_steps, Journal, Kept}
use Rattle.kl1_term.specs.Telling.{untold}
use Rattle.kl1_model_server.specs.laws.ReplayLaws.{are_accepted}
use Rattle.kl1_command.specs.Told.{Told}
use Rattle.kl1_command.specs.declared.first_step.FirstStep.{FirstStep}
use Rattle.kl1_command.specs.declared.first_step.FirstStep.TheVariants as first_step
use Rattle.kl1_pool.specs.Answers.{IsAccount}
use Rattle.kl1_pool.specs.Counted.{events_in, reduces_in}
use Rattle.kl1_pool.specs.declared.restoring.RestoreEnd.{RestoreEnd}
use Rattle.kl1_pool.specs.declared.restoring.RestoreEnd.TheVariants as ending
use Rattle.kl1_pool.specs.declared.restoring.Restored.{Restored}
use Rattle.kl1_pool.specs.declared.restoring.EntryResult.{EntryResult}
use Rattle.kl1_pool.specs.declared.restoring.EntryResult.TheVariants as result

-- whether entries by these rules are done otherwise by others: their answers tell no variable, and those of the others do
abbrev pub untells : Rules → Rules → Bool
untells rules of = not (has_told of) && has_told rules

-- the goal of an answer, with its variables as those that it doesn't tell, or as they are
abbrev pub goal_by : Bool → Term → Term
goal_by true t = untold t
goal_by false t = t

-- an entry whose answers' goals are so
abbrev pub entry_by : Bool → Entry → Entry
entry_by none_told (loads text) = loads text
entry_by none_told (starts allowance low high t) = starts allowance low high t
entry_by none_told (sends n m) = sends n m
entry_by none_told (steps goal clause) = steps goal clause
entry_by none_told (answers n report t) = answers n report (goal_by none_told t)
entry_by none_told (forgets n count) = forgets n count
entry_by none_told (runs n) = runs n

abbrev pub entries_by : Bool → List Entry → List Entry
entries_by none_told es = map (entry_by none_told) es

-- the entries of a journal as an account does them that keeps to these rules: an answer by rules whose answers tell no variable tells none
abbrev pub entries_for : Rules → Journal → List Entry
entries_for rules j = entries_by (untells rules j.rules) j.entries

-- an account after entries, in order
abbrev pub after_entries : State → List Entry → State
after_entries s es = fold (λ s e. (entry_step s e).state) s es

-- what is counted of entries that are done whole, and of `k` first steps after them
abbrev pub told_of : List Entry → ℕ → Told
told_of es k = record { events = events_in es + k; steps = reduces_in es + k; is_reset = false }

-- what is told twice, if no journal was ended
abbrev pub told_sum : Told → Told → Told
told_sum t u = record { events = t.events + u.events; steps = t.steps + u.steps; is_reset = false }

-- so many first steps, all of them done, lead from one account to another
abbrev pub Leads : State → ℕ → State → Type 0
Leads s n after = first_steps n s ≡ record { state = after; reply = ran n }

-- an entry is what is next, and `k` first steps were done that it has
abbrev pub IsNext : List Entry → ℕ → Type 0
IsNext [] k = ⊥
IsNext (e ∷ es) k = k ≤ run_length e

-- the next entry is refused by this account
abbrev pub IsNextRefused : State → List Entry → Type 0
IsNextRefused s [] = ⊥
IsNextRefused s (e ∷ es) = is_refused (entry_step s e).reply ≡ true

-- a restore ended so before these entries, in an account that has done all before them, and `k` first steps after
abbrev pub IsEndAt : RestoreEnd → State → List Entry → ℕ → Type 0
IsEndAt ending.All s es k = (es ≡ []) × (k ≡ 0)
IsEndAt ending.Refused s es k = IsNextRefused s es × IsNext es k
IsEndAt ending.Memory s es k = IsNext es k
IsEndAt ending.Full s es k = IsNext es k

-- the first entries were done whole, all accepted, and then so many first steps of the next one, if that is a run; and why no more were
pub record IsRestored (s : State) (es : List Entry) (r : Restored) (after : State) : Type 0 where
  pub few : r.entries ≤ length es
  pub accepted : IsTrue (are_accepted s (take r.entries es))
  pub steps : Leads (after_entries s (take r.entries es)) r.steps after
  pub ended : IsEndAt r.end (after_entries s (take r.entries es)) (drop r.entries es) r.steps

-- an entry was done whole, or so many first steps of it were
abbrev pub IsEntryDone : State → Entry → EntryResult → State → Type 0
IsEntryDone s e result.Whole after = (is_refused (entry_step s e).reply ≡ false) × (after ≡ (entry_step s e).state)
IsEntryDone s e (result.Stopped k end) after = Leads s k after × IsEndAt end s (e ∷ []) k

-- what became of an entry to which this is the reply
abbrev pub result_by : Reply → EntryResult
result_by reply = if is_refused reply then result.Stopped 0 ending.Refused else result.Whole

-- what became of a run if n of its steps were done, and what was tried last ended so
abbrev pub result_of_run : ℕ → FirstStep → EntryResult
result_of_run n first_step.Done = result.Whole
result_of_run n first_step.Quiet = result.Stopped n ending.Refused
result_of_run n (first_step.Refused r) = result.Stopped n ending.Refused
result_of_run n first_step.Memory = result.Stopped n ending.Memory

-- what is counted of it
abbrev pub told_entry : Entry → EntryResult → Told
told_entry e result.Whole = told_of (e ∷ []) 0
told_entry e (result.Stopped k end) = told_of [] k

-- some account of these rules and of this name, which had used the names of this journal and whose own journal had no entries, was restored so
-- from its entries, as they are done by these rules
abbrev pub IsRestoredBySome : Rules → (List ℕ → Type 0) → Journal → Restored → Type 0
IsRestoredBySome rules name j r = (before : Kept) × (after : State) × IsAccount rules name before × (before.journal.entries ≡ []) × (before.journal.names ≡ j.names) × IsRestored before.state (entries_for rules j) r after

-- so, or memory was refused before anything was done
abbrev pub IsRestoredOf : Rules → (List ℕ → Type 0) → Journal → Restored → Type 0
IsRestoredOf rules name j r = IsRestoredBySome rules name j r ⊎ (r ≡ record { entries = 0; steps = 0; end = ending.Memory })

-- how many events and steps are counted of a restore from these entries
abbrev pub events_of : List Entry → Restored → ℕ
events_of es r = events_in (take r.entries es) + r.steps

abbrev pub steps_of : List Entry → Restored → ℕ
steps_of es r = reduces_in (take r.entries es) + r.steps
