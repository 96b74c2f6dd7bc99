-- What holds of what is written for the text of a journal that is replayed.
use Rattle.std.specs.Prelude.{◌≡◌, not, ◌&&◌, Bool, true, ℕ, List, [], ◌∷◌, ◌++◌, length, IsTrue}
use Rattle.kl1_model.specs.declared.rules.Rules.{Rules}
use Rattle.kl1_model.specs.State.{State, fresh_with}
use Rattle.kl1_model.specs.Event.{Event, is_refused}
use Rattle.kl1_model_server.specs.Command.{reply_lines, written_lines}
use Rattle.kl1_model_server.specs.Journal.{Entry, entry_step, Journal, Kept, fresh_kept, done}
use Rattle.kl1_model_server.specs.laws.HistoryLaws.{IsReplay}
use Rattle.kl1_model_server.specs.laws.TextLaws.{IsWritten, journal_text}
use Rattle.kl1_model_server.specs.Replay.{replay_name, written_end, replay_output}

-- whether entries are all accepted, if they are done in order
abbrev pub are_accepted : State → List Entry → Bool
are_accepted s [] = true
are_accepted s (e ∷ es) = not (is_refused (entry_step s e).reply) && are_accepted (entry_step s e).state es

-- what is written for the replies to entries that are done in order
abbrev pub written_replies : State → List Entry → List ℕ
written_replies s [] = []
written_replies s (e ∷ es) = written_lines (reply_lines (entry_step s e).reply) ++ written_replies (entry_step s e).state es

-- the account from which a journal is replayed
abbrev pub replayed_from : Journal → State
replayed_from j = fresh_with j.rules replay_name j.names j.sessions

-- for the text of a journal whose entries are all accepted there are written the replies to them, and then how many they are
abbrev pub RepliesOfReplays : Type 0
RepliesOfReplays =
    (j : Journal) → IsWritten j → IsTrue (are_accepted (replayed_from j) j.entries) → replay_output (journal_text j) ≡ written_replies (replayed_from j) j.entries ++ written_end (length j.entries)

-- an account whose journal is its own, and whose entries are all accepted if it is replayed
pub record IsReplayable (k : Kept) : Type 0 where
  pub is : IsReplay k
  pub accepted : IsTrue (are_accepted (replayed_from k.journal) k.journal.entries)

-- the journal of a fresh account can be replayed
abbrev pub FreshIsReplayable : Type 0
FreshIsReplayable = (rules : Rules) (name : List ℕ) → IsReplayable (fresh_kept rules name)

-- and each event leaves a journal that can be replayed
abbrev pub ReplayableStays : Type 0
ReplayableStays = (k : Kept) (e : Event) → IsReplayable k → IsReplayable (done k e).kept
