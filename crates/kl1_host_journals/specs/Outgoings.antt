-- Until when nothing is written to a connection.
use Rattle.std.specs.Prelude.{⊤, ◌≡◌, ◌⊎◌, ℕ, ◌==◌, not, Bool, false, List}
use Rattle.kl1_model_server.specs.Journal.{Journal}
use Rattle.kl1_log.specs.Receipts.{reply_of}
use Rattle.kl1_journal_stamps.specs.declared.shown_ids.ShownIds as shown_ids
use Rattle.kl1_host_journals.specs.declared.history.Naming as naming
use Rattle.kl1_host_journals.specs.declared.leave.Connecting as connecting
use Rattle.kl1_host_journals.specs.declared.edition.Edition.{Edition}
use Rattle.kl1_host_journals.specs.declared.held.Held.{Held}
use Rattle.kl1_host_journals.specs.declared.outgoing.Outgoing.{Outgoing}
use Rattle.kl1_host_journals.specs.declared.outgoing.Outgoing.TheVariants.{Free, Waits, Lost}
use Rattle.kl1_host_journals.specs.Editions.{IsNoteOf}
use Rattle.kl1_host_journals.specs.Places.{account_of, log_of, edition_of}
use Rattle.kl1_host_journals.specs.HeldLeaves.{unsent_of, place_of}

module _ {J C : Type 0} {g : naming.Ghosts J} {shown : shown_ids.Ghosts J} {h : connecting.Ghosts C} where
  -- whether the leave waits for another account
  abbrev pub is_waiting_for_another : Outgoing J C g shown h → ℕ → Bool
  is_waiting_for_another (Free permit) account = false
  is_waiting_for_another (Waits held) account = not (account_of (place_of held) == account)
  is_waiting_for_another Lost account = false

  -- the leave to write waits for all that was noted, or is lost: it isn't free
  abbrev pub IsHeld : List Edition → Outgoing J C g shown h → Type 0
  IsHeld log (Free permit) = ⊥
  IsHeld log (Waits held) = log_of (place_of held) ≡ log
  IsHeld log Lost = ⊤

  -- the leave waits for a note of this journal, in this generation; or it is lost
  abbrev pub IsNotedFor : Journal → ℕ → Outgoing J C g shown h → Type 0
  IsNotedFor j generation (Free permit) = ⊥
  IsNotedFor j generation (Waits held) = IsNoteOf (edition_of (place_of held)) j generation
  IsNotedFor j generation Lost = ⊤

  -- a leave that waits is given back, or lost
  abbrev pub IsHandedOut : Held J C g shown h → Outgoing J C g shown h → Type 0
  IsHandedOut held after = (after ≡ Free (reply_of (unsent_of held))) ⊎ (after ≡ Lost)

  -- what a leave is that was waited for: one that waits is given back, or lost
  abbrev pub IsFreed : Outgoing J C g shown h → Outgoing J C g shown h → Type 0
  IsFreed (Free permit) after = after ≡ Free permit
  IsFreed (Waits held) after = IsHandedOut held after
  IsFreed Lost after = after ≡ Lost
