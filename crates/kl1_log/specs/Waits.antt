-- What waits for an account's file, and what was taken of it.
use Rattle.std.specs.Prelude.{◌≡◌, ◌⊎◌, ℕ, suc, List, []}
use Rattle.kl1_model_server.specs.Journal.{Journal}
use Rattle.kl1_model_server.specs.JournalText.{lines_of}
use Rattle.kl1_log.specs.Deeds.{HasSums, IsFile}
use Rattle.kl1_log.specs.Later.{IsMark}
use Rattle.kl1_log.specs.Batches.{text_after}
use Rattle.kl1_log.specs.declared.batch.Batch.{Batch}
use Rattle.kl1_log.specs.declared.change.Change.{Change}
use Rattle.kl1_log.specs.declared.change.Change.TheVariants.{Appends, Begins}
use Rattle.kl1_log.specs.declared.mark.Mark.{Mark}
use Rattle.kl1_log.specs.declared.waiting.Waiting.{Waiting}

-- the account that it is for
abbrev pub account_of : Waiting → ℕ
account_of w = w.account

-- how many changes were noted
abbrev pub noted_of : Waiting → ℕ
noted_of w = w.noted

-- how many of them were taken
abbrev pub taken_of : Waiting → ℕ
taken_of w = w.taken

-- up to where the journal was put into its file
abbrev pub mark_of : Waiting → Mark
mark_of w = w.mark

-- what the file is to get
abbrev pub change_of : Waiting → Change
change_of w = w.change

-- a change is of whole lines, and lines are put after others only if each of those has its sum
abbrev pub Fits : List ℕ → Change → Type 0
Fits text (Appends bytes) = HasSums text × ((lines_of bytes.items).rest ≡ [])
Fits text (Begins bytes) = (lines_of bytes.items).rest ≡ []

-- a file of this text is one of this journal once it has got what waits, and the mark is at the journal's end
pub record IsUpTo (w : Waiting) (text : List ℕ) (j : Journal) : Type 0 where
  pub file : IsFile (text_after text w.change) j
  pub fits : Fits text w.change
  pub mark : IsMark w.mark j

-- a change by these bytes is counted, if there are any
abbrev pub IsCounted : ℕ → List ℕ → ℕ → Type 0
IsCounted noted bytes n = (n ≡ suc noted) ⊎ ((n ≡ noted) × (bytes ≡ []))

-- one change more was noted, if there was any
pub record CountsOn (old new : Waiting) : Type 0 where
  pub account : new.account ≡ old.account
  pub taken : new.taken ≡ old.taken
  pub noted : (new.noted ≡ suc old.noted) ⊎ ((new.noted ≡ old.noted) × ((text : List ℕ) → text_after text new.change ≡ text_after text old.change))

-- the same waits
pub record Keeps (old new : Waiting) : Type 0 where
  pub account : new.account ≡ old.account
  pub taken : new.taken ≡ old.taken
  pub noted : new.noted ≡ old.noted
  pub mark : new.mark ≡ old.mark
  pub change : (text : List ℕ) → text_after text new.change ≡ text_after text old.change

-- all that waited was taken
pub record IsTaken (old new : Waiting) (b : Batch) : Type 0 where
  pub batch_account : b.account ≡ old.account
  pub batch_taken : b.taken ≡ old.taken
  pub batch_noted : b.noted ≡ old.noted
  pub change : (text : List ℕ) → text_after text b.change ≡ text_after text old.change
  pub account : new.account ≡ old.account
  pub taken : new.taken ≡ old.noted
  pub noted : new.noted ≡ old.noted
