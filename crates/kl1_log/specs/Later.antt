-- How a journal grows between two resets, and up to where it was put into its file.
use Rattle.std.specs.Prelude.{◌≡◌, ℕ, ◌-◌, nat_lt, if◌then◌else◌, List, [], ◌∷◌, length, Option, Some, None}
use Rattle.kl1_model.specs.declared.rules.Rules.{Rules}
use Rattle.kl1_model_server.specs.Command.{written_line}
use Rattle.kl1_model_server.specs.Journal.{Entry, loads, starts, sends, steps, answers, forgets, runs, Journal}
use Rattle.kl1_model_server.specs.JournalText.{entry_line, journal_lines, entry_in}
pub use Rattle.kl1_journal_stamps.specs.Later.{Grows, GrowsBefore, AreLater, IsLater}
use Rattle.kl1_log.specs.declared.mark.Mark.{Mark}

-- how many reductions an entry has if it is a run, or else 0
abbrev pub run_length : Entry → ℕ
run_length (loads text) = 0
run_length (starts allowance low high t) = 0
run_length (sends n m) = 0
run_length (steps goal clause) = 0
run_length (answers n report t) = 0
run_length (forgets n count) = 0
run_length (runs n) = n

-- how many reductions the last of entries has if it is a run, or else 0
abbrev pub last_run : List Entry → ℕ
last_run [] = 0
last_run (e ∷ []) = run_length e
last_run (e ∷ f ∷ es) = last_run (f ∷ es)

-- a mark says up to where a journal was put into its file: all of it
pub record IsMark (m : Mark) (j : Journal) : Type 0 where
  pub lines : m.lines ≡ length (journal_lines j)
  pub run : m.run ≡ last_run j.entries

-- how many reductions an entry that was read has if it is a run, or else 0
abbrev pub run_if : Option Entry → ℕ
run_if None = 0
run_if (Some e) = run_length e

-- how many reductions the entry of a line has by these rules if it is a run, or else 0
abbrev pub run_of_line : Rules → List ℕ → ℕ
run_of_line rules line = run_if (entry_in rules line)

-- how many reductions the entry of the last line has if it is a run, or else 0
abbrev pub run_of_lines : Rules → List (List ℕ) → ℕ
run_of_lines rules [] = 0
run_of_lines rules (l ∷ []) = run_of_line rules l
run_of_lines rules (l ∷ m ∷ ls) = run_of_lines rules (m ∷ ls)

-- the line of the reductions by which a run has grown, if it has
abbrev pub run_line : ℕ → ℕ → List ℕ
run_line was is = if nat_lt was is then written_line (entry_line (runs (is - was))) else []
