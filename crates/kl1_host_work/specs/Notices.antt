-- What the answers to a connection wait for.
use Rattle.std.specs.Prelude.{◌≡◌, ◌⊎◌, ℕ, Bool, true, not, ◌||◌, List, [], ◌∷◌, ◌++◌}
use Rattle.kl1_model.specs.declared.rules.Rules.{Rules}
use Rattle.kl1_model_server.specs.Command.{Command}
use Rattle.kl1_command.specs.declared.performed.Performed.{Performed}
use Rattle.kl1_command.specs.declared.performed.Performed.TheVariants.{Memory}
use Rattle.kl1_session.specs.Conversations.{Done}
use Rattle.kl1_pool.specs.Names.{called_at}
use Rattle.kl1_pool_history.specs.Histories.{HistoryValue}
use Rattle.kl1_journal_stamps.specs.declared.shown_ids.ShownIds as shown_ids
use Rattle.kl1_host_journals.specs.declared.history.Naming as naming
use Rattle.kl1_host_journals.specs.declared.leave.Connecting as connecting
use Rattle.kl1_host_journals.specs.declared.outgoing.Outgoing.{Outgoing}
use Rattle.kl1_host_work.specs.Filling.{is_of_sessions}
use Rattle.kl1_host_work.specs.Noted.{IsNotedAfter}
use Rattle.kl1_host_work.specs.declared.exchange.Waiting.{Waiting}
use Rattle.kl1_host_work.specs.declared.exchange.Waiting.TheVariants.{Nothing, Noted}
use Rattle.kl1_host_work.specs.declared.exchange.Notice.{Notice}

-- what was done for a connection, and whether its replies wait for the disk
pub record ExchangeValue : Type 0 where
  pub history : HistoryValue
  pub replies_wait : Bool

-- whether an answer tells nothing that is to be on disk before: no reply waits for that, or a session was opened or closed
abbrev pub tells_nothing : Command → Bool → Bool
tells_nothing c replies_wait = not replies_wait || is_of_sessions c

-- this command was done after all others, with this answer
pub record Adds (account : ℕ) (c : Command) (p : Performed) (old new : ExchangeValue) : Type 0 where
  pub begun : new.history.begun ≡ old.history.begun
  pub done : new.history.done ≡ old.history.done ++ record { account = account; command = c; answer = p } ∷ []
  pub replies_wait : new.replies_wait ≡ old.replies_wait

module _ {K C : Type 0} {g : naming.Ghosts K} {shown : shown_ids.Ghosts K} {h : connecting.Ghosts C} where
  -- an answer waits for a note: the leave was this, and all of this had been done
  abbrev pub IsNoticeOf : HistoryValue → Outgoing K C g shown h → Waiting K C shown g h → Type 0
  IsNoticeOf v o Nothing = ⊥
  IsNoticeOf v o (Noted leave after) = (leave.value ≡ o) × (after.value ≡ v)

  -- The answer to the last of what was done waits for its account's note, which has it: the leave to write was held for that, or is lost. Or it
  -- waits for nothing, if memory was refused, or if it tells nothing that is to be on disk before
  abbrev pub IsCared : Rules → List (List ℕ) → Bool → List Done → Done → Waiting K C shown g h → Type 0
  IsCared rules names replies_wait ds d Nothing = (d.answer ≡ Memory) ⊎ (tells_nothing d.command replies_wait ≡ true)
  IsCared rules names replies_wait ds d (Noted leave after) = (after.value.done ≡ ds) × IsNotedAfter rules (called_at names d.account) d leave.value

  -- so, if something was done
  abbrev pub IsTold : Rules → List (List ℕ) → Bool → List Done → Notice K C shown g h → Type 0
  IsTold rules names replies_wait ds n = (ds ≡ []) ⊎ ((before : List Done) × (d : Done) × (ds ≡ before ++ d ∷ []) × IsCared rules names replies_wait ds d n.waiting)
