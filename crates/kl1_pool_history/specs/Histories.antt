-- What was done for one connection, and how it was answered and counted.
use Rattle.std.specs.Prelude.{◌≡◌, ℕ, List, [], ◌∷◌, All}
use Rattle.kl1_model.specs.declared.rules.Rules.{Rules}
use Rattle.kl1_command.specs.Told.{events_told, steps_told}
use Rattle.kl1_pool_tickets.specs.Counts.{Counts, Acts}
use Rattle.kl1_session.specs.Conversations.{Done}
use Rattle.kl1_pool.specs.Answers.{IsGiven}
use Rattle.kl1_pool.specs.Names.{called_at}

-- what the share counted before anything was done, and now; and what was done, in order
pub record HistoryValue : Type 0 where
  pub begun : Counts
  pub share : Counts
  pub done : List Done

-- an account of these rules and of the name at its number, the replay of its journal, gives this answer to just this command, unless memory was refused
abbrev pub IsAnswered : Rules → List (List ℕ) → Done → Type 0
IsAnswered rules names d = IsGiven rules (called_at names d.account) d.command d.answer

-- a share counts what an answer tells
abbrev pub IsCounted : Done → Counts → Counts → Type 0
IsCounted d before after = Acts d.account (events_told d.answer) (steps_told d.answer) before after

-- a share counts what answers tell, one after another, each once
abbrev pub AreCounted : List Done → Counts → Counts → Type 0
AreCounted [] before after = after ≡ before
AreCounted (d ∷ ds) before after = (between : Counts) × IsCounted d before between × AreCounted ds between after

-- each of what was done is answered by its account, and what the answers tell is counted
pub record AreAnswered (rules : Rules) (names : List (List ℕ)) (ds : List Done) (before after : Counts) : Type 0 where
  pub given : All (IsAnswered rules names) ds
  pub counted : AreCounted ds before after
