-- What holds of journals and replays.
use Rattle.std.specs.Prelude.{◌≡◌, ℕ, suc, List, [], ◌∷◌, ◌++◌}
use Rattle.kl1_model.specs.declared.rules.Rules.{Rules}
use Rattle.kl1_model.specs.State.{State}
use Rattle.kl1_model.specs.Event.{Event, Transition}
use Rattle.kl1_model.specs.Step.{step}
use Rattle.kl1_model_server.specs.Journal.{Entry, runs, entry_step, last_run_of, without_last, replay, Kept, done, fresh_kept}

-- an account with another own name and another number of sessions
abbrev pub beside : List ℕ → ℕ → State → State
beside name n s = record s { own_name = name; sessions = n }

-- what became of an event, with another own name and another number of sessions
abbrev pub stepped_beside : List ℕ → ℕ → Transition → Transition
stepped_beside name n x = record { state = beside name n x.state; reply = x.reply }

-- what an entry does depends neither on the account's own name nor on the number of its open sessions
abbrev pub StaysBeside : Type 0
StaysBeside = (name : List ℕ) (n : ℕ) (s : State) (e : Entry) → entry_step (beside name n s) e ≡ stepped_beside name n (entry_step s e)

-- the last of entries is a run of this number of reductions, if that is at least 1
abbrev pub EndsInRun : List Entry → ℕ → Type 0
EndsInRun es n = (m : ℕ) → n ≡ suc m → (last_run_of es ≡ n) × (without_last es ++ runs n ∷ [] ≡ es)

-- an account is the replay of its journal, has its rules and sessions, and counts the reductions of its last run
pub record IsReplay (k : Kept) : Type 0 where
  pub is : replay k.state.own_name k.journal ≡ k.state
  pub rules : k.journal.rules ≡ k.state.rules
  pub sessions : k.journal.sessions ≡ k.state.sessions
  pub run : EndsInRun k.journal.entries k.state.run

-- a fresh account is the replay of its journal
abbrev pub FreshIsReplay : Type 0
FreshIsReplay = (rules : Rules) (name : List ℕ) → IsReplay (fresh_kept rules name)

-- and each event leaves an account the replay of its journal
abbrev pub ReplaysStay : Type 0
ReplaysStay = (k : Kept) (e : Event) → IsReplay k → IsReplay (done k e).kept

-- no event changes the name of an account
abbrev pub NamesStay : Type 0
NamesStay = (s : State) (e : Event) → (step s e).state.own_name ≡ s.own_name

-- and none changes the rules that it keeps to
abbrev pub RulesStay : Type 0
RulesStay = (s : State) (e : Event) → (step s e).state.rules ≡ s.rules
