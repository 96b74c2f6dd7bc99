-- What is known of the last sum of a file.
use Rattle.std.specs.Prelude.{⊤, ◌≡◌, ◌&&◌, ℕ, Bool, true, false, bytes_eq, List, [], Option, Some, None}
use Rattle.kl1_model_server.specs.JournalText.{lines_of}
use Rattle.kl1_sums.specs.declared.sum.Sum.{Sum}
use Rattle.kl1_sums.specs.Sums.{last_sum}
use Rattle.kl1_sums.specs.SumValues.{digits_of}
use Rattle.kl1_log.specs.Files.{is_nil}
use Rattle.kl1_log.specs.declared.log_error.LogError.{LogError}
use Rattle.kl1_log.specs.declared.log_error.LogError.TheVariants.{Stopped, NotNext, Memory, Failed}

-- these digits are the last sum of a file, if its text is known; and if that is asked for, it is of whole lines
abbrev pub IsLastOf : List ℕ → Bool → Option (List ℕ) → Type 0
IsLastOf digits whole None = ⊤
IsLastOf digits whole (Some text) = (digits ≡ last_sum text) × (whole ≡ true → (lines_of text).rest ≡ [])

-- whether a sum, if it is known, is the last one of a file of whole lines, if its text is known
abbrev pub is_last_sum : Option Sum → Option (List ℕ) → Bool
is_last_sum None text = true
is_last_sum (Some sum) None = true
is_last_sum (Some sum) (Some text) = bytes_eq (digits_of sum) (last_sum text) && is_nil (lines_of text).rest

-- a change wasn't made: since memory was refused, all is as it was, and it can be made again; or since a call failed, after which no other is
-- to be made
abbrev pub IsUnmade : LogError → Bool → Type 0 → Type 0
IsUnmade Stopped usable same = ⊥
IsUnmade NotNext usable same = ⊥
IsUnmade Memory usable same = same × (usable ≡ true)
IsUnmade (Failed error) usable same = usable ≡ false
