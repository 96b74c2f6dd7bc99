-- Lines with sums: each line of a text after the sum of it and of all before it.
use Rattle.std.specs.Prelude.{ℕ, ◌-◌, nat_le, Bool, false, if◌then◌else◌, List, [], ◌∷◌, ◌++◌, length, take, drop, bytes_eq, Option, Some, None, is_some}
use Rattle.sha2.specs.Sha256.{sha256}
use Rattle.hex.specs.Hex.{encode_lower}
use Rattle.kl1_model_server.specs.Command.{written_lines}
use Rattle.kl1_model_server.specs.JournalText.{lines_of}

-- The sum of bytes that stand after bytes with the sum `prev`, or after none if that is empty: the first 16 hexadecimal digits, with small
-- letters, of the SHA-256 of those digits and then the bytes.
unfoldable pub sum_of : List ℕ → List ℕ → List ℕ
sum_of prev bytes = take 16 (encode_lower (sha256 (prev ++ bytes)))

-- a line as it stands in a file with sums, after a line with the sum `prev`: its sum, a space, the line
abbrev pub summed_line : List ℕ → List ℕ → List ℕ
summed_line prev line = sum_of prev line ++ 32 ∷ line

-- lines with their sums
abbrev pub summed_lines : List ℕ → List (List ℕ) → List (List ℕ)
summed_lines prev [] = []
summed_lines prev (line ∷ lines) = summed_line prev line ∷ summed_lines (sum_of prev line) lines

-- the sum of the last of lines, or `prev` if there are none
abbrev pub sum_after : List ℕ → List (List ℕ) → List ℕ
sum_after prev [] = prev
sum_after prev (line ∷ lines) = sum_after (sum_of prev line) lines

-- the whole lines of a text with their sums
abbrev pub summed_text : List ℕ → List ℕ → List ℕ
summed_text prev text = written_lines (summed_lines prev (lines_of text).whole)

-- the line that stands in a file with sums as `line`, if the sum there is right
abbrev pub plain_line : List ℕ → List ℕ → Option (List ℕ)
plain_line prev line = if bytes_eq line (summed_line prev (drop 17 line)) then Some (drop 17 line) else None

-- as many empty lines
abbrev pub emptied : List (List ℕ) → List (List ℕ)
emptied [] = []
emptied (line ∷ lines) = [] ∷ emptied lines

-- lines without their sums; from the first on whose sum isn't right each is an empty one, which is no line of a journal
abbrev pub plain_from : List ℕ → List (List ℕ) → List (List ℕ)
plain_from prev [] = []
plain_from prev (line ∷ lines) =
    elim (plain_line prev line) [
      | Some plain ↦ plain ∷ plain_from (sum_of prev plain) lines
      | None ↦ emptied (line ∷ lines)
    ]

-- whether lines are those of a file with sums: the first has its sum
abbrev pub have_sums : List (List ℕ) → Bool
have_sums [] = false
have_sums (line ∷ lines) = is_some (plain_line [] line)

-- the lines of a journal that stand in a file as these, with sums or without
abbrev pub plain_lines : List (List ℕ) → List (List ℕ)
plain_lines lines = if have_sums lines then plain_from [] lines else lines

-- a text with sums or without as one without, with the same number of lines; what is after the last line feed stays
abbrev pub plain_text : List ℕ → List ℕ
plain_text text = written_lines (plain_lines (lines_of text).whole) ++ (lines_of text).rest

-- the 16 digits before a line, or none if it has no 16 bytes
abbrev pub digits_before : List ℕ → List ℕ
digits_before line = if nat_le 16 (length line) then take 16 line else []

-- the digits before the last of lines, or `prev` if there are none
abbrev pub last_digits : List ℕ → List (List ℕ) → List ℕ
last_digits prev [] = prev
last_digits prev (line ∷ lines) = last_digits (digits_before line) lines

-- the digits before the last whole line of a text, which are its sum if it has one; none if there is no whole line
abbrev pub last_sum : List ℕ → List ℕ
last_sum text = last_digits [] (lines_of text).whole

-- bytes without their last one
abbrev pub without_last : List ℕ → List ℕ
without_last bs = take (length bs - 1) bs

-- whether what is after the last line feed of a text is a line with its sum and one byte more: then that byte was a line feed
abbrev pub is_spoilt : List ℕ → Bool
is_spoilt text = is_some (plain_line (last_sum text) (without_last (lines_of text).rest))
