-- What is to be done to a file, and what a crash leaves meanwhile.
use Rattle.std.specs.Prelude.{⊤, ◌≡◌, ◌⊎◌, ◌≤◌, ℕ, min, List, [], ◌++◌, length, take, Option, Some, None, option_map}
use Rattle.kl1_sums.specs.Sums.{summed_text, last_sum}
use Rattle.kl1_log.specs.declared.change.Change.{Change}
use Rattle.kl1_log.specs.declared.change.Change.TheVariants.{Appends, Begins}
use Rattle.kl1_log.specs.Cuts.{whole_text}
use Rattle.kl1_log.specs.Files.{Known, content}

-- the text of a file after a change, each line of which gets its sum
abbrev pub text_after : List ℕ → Change → List ℕ
text_after text (Appends bytes) = text ++ summed_text (last_sum text) bytes.items
text_after text (Begins bytes) = summed_text [] bytes.items

-- the lines that a file gets, without their sums
abbrev pub bytes_of : Change → List ℕ
bytes_of (Appends bytes) = bytes.items
bytes_of (Begins bytes) = bytes.items

-- a change that puts these bytes after its own
abbrev pub IsExtended : Change → List ℕ → Change → Type 0
IsExtended (Appends old) bytes (Appends new) = new.items ≡ old.items ++ bytes
IsExtended (Appends old) bytes (Begins new) = ⊥
IsExtended (Begins old) bytes (Appends new) = ⊥
IsExtended (Begins old) bytes (Begins new) = new.items ≡ old.items ++ bytes

-- what a crash may leave of a file with this text while it is changed: a file that is begun anew is the old or the new, and never a part
abbrev pub IsLeftBy : List ℕ → Change → List ℕ → Type 0
IsLeftBy text (Appends bytes) c = (n : ℕ) × (c ≡ text ++ take n (summed_text (last_sum text) bytes.items))
IsLeftBy text (Begins bytes) c = (c ≡ text) ⊎ (c ≡ summed_text [] bytes.items)

-- the bytes that a file has, if something is known of it
abbrev pub text_of : Known → Option (List ℕ)
text_of known = option_map (λ c. content c.now.now) known

-- what a crash may leave of a file while it is changed, if something is known of it
abbrev pub IsLeftOfKnown : Known → Change → List ℕ → Type 0
IsLeftOfKnown None change c = ⊤
IsLeftOfKnown (Some k) change c = IsLeftBy (content k.now.now) change c

-- what a crash may leave of a file while bytes are appended
abbrev pub IsAppendedInPart : Known → List ℕ → List ℕ → Type 0
IsAppendedInPart None bytes c = ⊤
IsAppendedInPart (Some k) bytes c = (n : ℕ) × (c ≡ content k.now.now ++ take n bytes)

-- what a crash may leave of a file while lines are appended, each with its sum
abbrev pub IsSummedInPart : Known → List ℕ → List ℕ → Type 0
IsSummedInPart None bytes c = ⊤
IsSummedInPart (Some k) bytes c = (n : ℕ) × (c ≡ content k.now.now ++ take n (summed_text (last_sum (content k.now.now)) bytes))

-- what a crash may leave of a file while others are put in their place
abbrev pub IsOldOrNew : Known → List ℕ → List ℕ → Type 0
IsOldOrNew None bytes c = ⊤
IsOldOrNew (Some k) bytes c = (c ≡ content k.now.now) ⊎ (c ≡ bytes)

-- what a crash may leave of a file while it is cut to its whole lines: a front of it, which has each whole line that was on the disk
abbrev pub IsLeftOfCut : Known → List ℕ → Type 0
IsLeftOfCut None c = ⊤
IsLeftOfCut (Some k) c = (n : ℕ) × (c ≡ take n (content k.now.now)) × (min (length (whole_text (content k.now.now))) (length k.now.now.synced) ≤ n)
