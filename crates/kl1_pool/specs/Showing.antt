-- What is shown of an account of a pool.
use Rattle.std.specs.Prelude.{◌≡◌, ℕ, ◌+◌, List, Some}
use Rattle.kl1_model.specs.declared.rules.Rules.{Rules}
use Rattle.kl1_model.specs.State.{State}
use Rattle.kl1_model_server.specs.Journal.{Journal, Kept}
use Rattle.kl1_atoms.specs.Names.{AreNames}
use Rattle.kl1_model_server.specs.Command.{Command}
use Rattle.kl1_command.specs.declared.performed.Performed.{Performed}
use Rattle.kl1_command.specs.Room.{PerformsWithin}
use Rattle.kl1_journal.specs.Keeping.{Held, Reading, Fits, kept_of, IsKept}
use Rattle.kl1_pool.specs.Answers.{IsAccount}
use Rattle.kl1_pool.specs.Counted.{events_in, reduces_in}
use Rattle.kl1_journal_stamps.specs.Stamps.{ShownValue}
use Rattle.kl1_pool.specs.declared.totals_before_reset.TotalsBeforeReset.{TotalsBeforeReset}

-- an account of these rules and of this name, which for each reading of its names is the replay of its journal; and there is such a reading
pub record IsFound (rules : Rules) (named : List ℕ → Type 0) (h : Held) : Type 0 where
  pub kept : IsKept h
  pub names : AreNames h.0.names
  pub keeps_to : h.0.rules ≡ rules
  pub called : named h.0.own_name

-- this holds of the state of some account of these rules and of this name, which is the replay of its journal
abbrev pub IsOfSome : Rules → (List ℕ → Type 0) → (State → Type 0) → Type 0
IsOfSome rules name P = (k : Kept) × IsAccount rules name k × P k.state

-- this holds of the journal of some such account, and of how many events were counted in its journals that resets ended
abbrev pub IsSeenOfSome : Rules → (List ℕ → Type 0) → (Journal → ℕ → Type 0) → Type 0
IsSeenOfSome rules name P = (k : Kept) × (ended : ℕ) × IsAccount rules name k × P k.journal ended

-- some such account has counted so many events and steps: those of its journals that resets ended, and those of its journal
abbrev pub IsCountedBySome : Rules → (List ℕ → Type 0) → ℕ → ℕ → Type 0
IsCountedBySome rules name events steps = (k : Kept) × (p : TotalsBeforeReset) × IsAccount rules name k × (events ≡ p.events + events_in k.journal.entries) × (steps ≡ p.steps + reduces_in k.journal.entries)

-- the journal of a history that was shown last is this one, of this generation
abbrev pub IsLastOf : ShownValue → Journal → ℕ → Type 0
IsLastOf shown j ended = shown.last ≡ Some (ended, j)

-- some such account, whose book has some room, answers this command so, and this holds of its journal afterwards, and of how many events were
-- counted in its journals that resets ended
abbrev pub IsShownAfter : Rules → (List ℕ → Type 0) → Command → Performed → (Journal → ℕ → Type 0) → Type 0
IsShownAfter rules named c p P =
    (room : ℕ) × (before : Kept) × (after : Kept) × (ended : ℕ) × IsAccount rules named before × IsAccount rules named after × PerformsWithin (Some room) before c p after × P after.journal ended

-- an account that was found so answers a command so, and is this afterwards
pub record IsDone (rules : Rules) (named : List ℕ → Type 0) (c : Command) (p : Performed) (old new : Held) : Type 0 where
  pub found : IsFound rules named old
  pub room : ℕ
  pub does : (f : Reading) → Fits new.0.names f → PerformsWithin (Some room) (kept_of f old) c p (kept_of f new)
  pub before : (f : Reading) → Fits new.0.names f → Fits old.0.names f
