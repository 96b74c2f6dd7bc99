-- Leaves to write that wait for a note.
use Rattle.std.specs.Prelude.{⊤, ◌≡◌, ℕ, Bool, true, false, List}
use Rattle.kl1_model.specs.declared.rules.Rules.{Rules}
use Rattle.kl1_model_server.specs.Journal.{Journal}
use Rattle.kl1_session.specs.Conversations.{Done}
use Rattle.kl1_pool.specs.Showing.{IsSeenOfSome, IsShownAfter, IsLastOf}
use Rattle.kl1_journal_stamps.specs.Stamps.{ShownValue}
use Rattle.kl1_journal_stamps.specs.declared.shown_ids.ShownIds as shown_ids
use Rattle.kl1_host_journals.specs.declared.history.Naming as naming
use Rattle.kl1_host_journals.specs.declared.leave.Connecting as connecting
use Rattle.kl1_host_journals.specs.declared.outgoing.Outgoing.{Outgoing}
use Rattle.kl1_host_journals.specs.declared.outgoing.Outgoing.TheVariants.{Free, Waits, Lost}
use Rattle.kl1_host_journals.specs.Editions.{IsNoteOf}
use Rattle.kl1_host_journals.specs.Outgoings.{IsNotedFor}
use Rattle.kl1_host_journals.specs.Places.{account_of, edition_of}
use Rattle.kl1_host_journals.specs.HeldLeaves.{place_of}

module _ {J C : Type 0} {g : naming.Ghosts J} {shown : shown_ids.Ghosts J} {h : connecting.Ghosts C} where
  -- whether a leave is lost
  abbrev pub is_lost : Outgoing J C g shown h → Bool
  is_lost (Free permit) = false
  is_lost (Waits held) = false
  is_lost Lost = true

  -- the leave waits, by the account's number, until what was noted is on disk: the journal of some account of these rules and of this name,
  -- as it was seen under its lock. Or it is lost: it isn't free
  abbrev pub IsNoted : Rules → (List ℕ → Type 0) → ℕ → Outgoing J C g shown h → Type 0
  IsNoted rules name account (Free permit) = ⊥
  IsNoted rules name account (Waits held) = (account_of (place_of held) ≡ account) × IsSeenOfSome rules name (λ j generation. IsNoteOf (edition_of (place_of held)) j generation)
  IsNoted rules name account Lost = ⊤

  -- a leave is this one, if it waits for this account and is to be held; else it is lost
  abbrev pub IsHeldFor : ℕ → Bool → Outgoing J C g shown h → Outgoing J C g shown h → Type 0
  IsHeldFor account is_held before (Free permit) = ⊥
  IsHeldFor account is_held before (Waits held) = (before ≡ Waits held) × (account_of (place_of held) ≡ account) × (is_held ≡ true)
  IsHeldFor account is_held before Lost = ⊤

  -- the leave waits, by the account's number, until what was noted is on disk: the journal of some account of these rules and of this name just
  -- after it gave this answer, under its lock. Or it is lost: it isn't free
  abbrev pub IsNotedAfter : Rules → (List ℕ → Type 0) → Done → Outgoing J C g shown h → Type 0
  IsNotedAfter rules named d (Free permit) = ⊥
  IsNotedAfter rules named d (Waits held) = (account_of (place_of held) ≡ d.account) × IsShownAfter rules named d.command d.answer (λ j generation. IsNoteOf (edition_of (place_of held)) j generation)
  IsNotedAfter rules named d Lost = ⊤

  -- whether a leave waits for something
  abbrev pub waits : Outgoing J C g shown h → Bool
  waits (Free permit) = false
  waits (Waits held) = true
  waits Lost = false

  -- a journal of this generation was noted, for which a leave waits; and it is the last of this history
  abbrev pub IsLastNote : ShownValue → Outgoing J C g shown h → Journal → ℕ → Type 0
  IsLastNote history leave j generation = IsLastOf history j generation × IsNotedFor j generation leave × (waits leave ≡ true)
