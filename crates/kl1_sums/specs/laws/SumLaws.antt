-- What holds of lines with sums.
use Rattle.std.specs.Prelude.{◌≡◌, ℕ, List, [], ◌∷◌, ◌++◌, length, take, Some}
use Rattle.kl1_model_server.specs.JournalText.{lines_of, Heading, heading_in}
use Rattle.kl1_sums.specs.Sums.{summed_lines, summed_text, plain_lines, plain_text, last_sum}

-- Lines with their sums are the lines again without them.
abbrev pub SumsComeOff : Type 0
SumsComeOff = (lines : List (List ℕ)) → plain_lines (summed_lines [] lines) ≡ lines

-- The first lines of a file are the first lines of its journal.
abbrev pub FrontsAreFronts : Type 0
FrontsAreFronts = (lines : List (List ℕ)) (n : ℕ) → plain_lines (take n lines) ≡ take n (plain_lines lines)

-- No line comes and none goes.
abbrev pub LinesStay : Type 0
LinesStay = (lines : List (List ℕ)) → length (plain_lines lines) ≡ length lines

-- A text with sums to which lines are appended with theirs is the longer text with sums.
abbrev pub TextsGoOn : Type 0
TextsGoOn = (text bytes : List ℕ) → text ≡ summed_text [] (plain_text text) → text ++ summed_text (last_sum text) bytes ≡ summed_text [] (plain_text text ++ bytes)

-- A text that begins with the first line of a journal is none with sums: it is read as it stands.
abbrev pub JournalsStay : Type 0
JournalsStay = (text line : List ℕ) (lines : List (List ℕ)) (h : Heading) → (lines_of text).whole ≡ line ∷ lines → heading_in line ≡ Some h → plain_text text ≡ text
