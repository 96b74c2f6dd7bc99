-- What contracts see of an answer of a pool.
use Rattle.std.specs.Prelude.{◌≡◌, ℕ, List, Some}
use Rattle.kl1_model.specs.declared.rules.Rules.{Rules}
use Rattle.kl1_model_server.specs.Journal.{Kept}
use Rattle.kl1_model_server.specs.Command.{Command}
use Rattle.kl1_model_server.specs.laws.HistoryLaws.{IsReplay}
use Rattle.kl1_command.specs.declared.performed.Performed.{Performed}
use Rattle.kl1_command.specs.declared.performed.Performed.TheVariants as performed
use Rattle.kl1_command.specs.Room.{PerformsWithin}

-- the number of the account, the command that was done to it, and what became of that
pub record AnswerValue : Type 0 where
  pub account : ℕ
  pub command : Command
  pub performed : Performed

-- an account of these rules and so named, which is the replay of its journal
pub record IsAccount (rules : Rules) (named : List ℕ → Type 0) (k : Kept) : Type 0 where
  pub replay : IsReplay k
  pub keeps_to : k.state.rules ≡ rules
  pub called : named k.state.own_name

-- some account of these rules and of this name, whose book has some room, answers this command so
abbrev pub IsGivenBySome : Rules → (List ℕ → Type 0) → Command → Performed → Type 0
IsGivenBySome rules name c p = (room : ℕ) × (before : Kept) × (after : Kept) × IsAccount rules name before × PerformsWithin (Some room) before c p after

-- so, unless memory was refused
abbrev pub IsGiven : Rules → (List ℕ → Type 0) → Command → Performed → Type 0
IsGiven rules name c (performed.Whole reply) = IsGivenBySome rules name c (performed.Whole reply)
IsGiven rules name c (performed.Short n) = IsGivenBySome rules name c (performed.Short n)
IsGiven rules name c performed.Memory = Unit {0}
