-- What is left of a journal's file that ends too early.
use Rattle.std.specs.Prelude.{◌≡◌, ◌⊎◌, ℕ, suc, ◌-◌, Bool, true, false, List, [], ◌∷◌, length, take, Option, Some, None, option_and_then}
use Rattle.kl1_model_server.specs.Command.{written_lines}
use Rattle.kl1_model_server.specs.Journal.{Journal, new_journal}
use Rattle.kl1_model_server.specs.JournalText.{lines_of, heading_in, journal_of}
use Rattle.kl1_model_server.specs.laws.TextLaws.{journal_text}
use Rattle.kl1_sums.specs.Sums.{summed_text, plain_lines, is_spoilt}
use Rattle.kl1_log.specs.declared.recovery.Found.{Found}
use Rattle.kl1_log.specs.declared.recovery.Found.TheVariants.{Whole, Fault, Unopened}

-- the whole lines of a text: what is after the last line feed is dropped, whatever it is
abbrev pub whole_lines : List ℕ → List (List ℕ)
whole_lines text = (lines_of text).whole

-- the text without what is after its last line feed
abbrev pub whole_text : List ℕ → List ℕ
whole_text text = written_lines (whole_lines text)

-- the lines of the journal in a file: its whole lines, without their sums if they have them; from a line on whose sum isn't right they are empty
abbrev pub file_lines : List ℕ → List (List ℕ)
file_lines text = plain_lines (whole_lines text)

-- the journal that is recovered from the bytes of a file, if their whole lines are one
abbrev pub recovered : List ℕ → Option Journal
recovered bytes = journal_of (file_lines bytes)

-- the text of a journal as it stands in its file: each line after its sum
abbrev pub file_text : Journal → List ℕ
file_text j = summed_text [] (journal_text j)

-- the first lines of a journal's file, which no crash tears: its heading and its names
abbrev pub opening_text : Journal → List ℕ
opening_text j = file_text (new_journal j.rules j.names j.sessions)

-- a journal with its first `n` entries
abbrev pub front_of : Journal → ℕ → Journal
front_of j n = record j { entries = take n j.entries }

-- line `line` of lines, the first being 1, is at fault: those before it are this journal, and with it they are none
pub record IsFaultIn (lines : List (List ℕ)) (line : ℕ) (before : Journal) : Type 0 where
  pub good : journal_of (take (line - 1) lines) ≡ Some before
  pub bad : journal_of (take line lines) ≡ None

-- The line after the whole ones, which are this journal, is at fault: it has its sum, and in place of its line feed there is another byte. It
-- isn't one that a crash left: of that there is no more than a front, without the line feed.
pub record IsSpoilt (text : List ℕ) (line : ℕ) (before : Journal) : Type 0 where
  pub journal : recovered text ≡ Some before
  pub spoilt : is_spoilt text ≡ true
  pub at : line ≡ suc (length (whole_lines text))

-- line `line` of a file, the first being 1, is at fault, after the lines of this journal
abbrev pub IsFault : List ℕ → ℕ → Journal → Type 0
IsFault text line before = IsFaultIn (file_lines text) line before ⊎ IsSpoilt text line before

-- the journal of first lines: a heading and as many names as that tells
abbrev pub opening_of : List (List ℕ) → Option Journal
opening_of [] = None
opening_of (line ∷ lines) = option_and_then (λ h. journal_of (take (suc h.names) (line ∷ lines))) (heading_in line)

-- what is found in lines that are no journal
abbrev pub IsFoundIn : List (List ℕ) → Found → Type 0
IsFoundIn lines (Whole journal bytes) = ⊥
IsFoundIn lines (Fault line before) = IsFaultIn lines line before.journal
IsFoundIn lines Unopened = opening_of lines ≡ None

-- what is found in the bytes of a file: the journal of its whole lines, and how many bytes these are; the line at fault, with the
-- journal of those before it; or that the heading or a name is at fault
abbrev pub IsFound : List ℕ → Found → Type 0
IsFound text (Whole journal bytes) = (recovered text ≡ Some journal.journal) × (bytes ≡ length (whole_text text)) × (take bytes text ≡ whole_text text) × (is_spoilt text ≡ false)
IsFound text (Fault line before) = IsFault text line before.journal
IsFound text Unopened = opening_of (file_lines text) ≡ None

-- whether the whole lines of a file were found to be a journal
abbrev pub is_whole : Found → Bool
is_whole (Whole journal bytes) = true
is_whole (Fault line before) = false
is_whole Unopened = false
