-- What the file of an account's journal shows.
use Rattle.std.specs.Prelude.{⊤, ◌≡◌, ℕ, Bool, false, Result, Ok, Err}
use Rattle.kl1_log.specs.declared.disk.Disk as disk
use Rattle.kl1_log.specs.declared.log_file.LogFile.{LogFile}
use Rattle.kl1_log.specs.declared.log_error.LogError.{LogError}
use Rattle.kl1_log.specs.declared.log_error.LogError.TheVariants.{Stopped, NotNext, Memory, Failed}

module _ {D : Type 0} {g : disk.Ghosts D} where
  -- the disk
  abbrev pub disk_of : LogFile D g → D
  disk_of f = f.disk

  -- the account whose file it is
  abbrev pub account_of : LogFile D g → ℕ
  account_of f = f.account

  -- how many changes are on disk
  abbrev pub changes_of : LogFile D g → ℕ
  changes_of f = f.changes

-- why a batch isn't on disk, by whether the file may be used and by what it is to be the next: a call of the file failed before; it isn't
-- the next; memory was refused for its sums; or a call failed now
abbrev pub IsCause : Bool → Type 0 → LogError → Type 0
IsCause usable next Stopped = usable ≡ false
IsCause usable next NotNext = next → ⊥
IsCause usable next Memory = ⊤
IsCause usable next (Failed error) = ⊤

-- if memory was refused, this holds
abbrev pub IsKept : LogError → Type 0 → Type 0
IsKept Stopped P = ⊤
IsKept NotNext P = ⊤
IsKept Memory P = P
IsKept (Failed error) P = ⊤

-- a call of the file failed
abbrev pub IsFailed : {T : Type 0} → Result T LogError → Type 0
IsFailed (Ok t) = ⊥
IsFailed (Err (Failed error)) = ⊤
IsFailed (Err Stopped) = ⊥
IsFailed (Err NotNext) = ⊥
IsFailed (Err Memory) = ⊥

-- no call of the file was made that changes it
abbrev pub IsUntouched : {T : Type 0} → Result T LogError → Type 0
IsUntouched (Ok t) = ⊥
IsUntouched (Err (Failed error)) = ⊥
IsUntouched (Err Stopped) = ⊤
IsUntouched (Err NotNext) = ⊤
IsUntouched (Err Memory) = ⊤
