-- What is written for a script, record by record.
use Rattle.std.specs.Prelude.{◌≡◌, ℕ, Bool, if◌then◌else◌, List, [], ◌∷◌, ◌++◌, codes, Option, Some, None}
use Rattle.kl1_model.specs.Line.{line_in, behind_feed, words_of}
use Rattle.kl1_model.specs.Record.{Record, Records, records_of}
use Rattle.kl1_model_server.specs.Command.{written_line}
use Rattle.kl1_model_server.specs.Script.{accounts_in, written_for}
use Rattle.kl1_journal.specs.Keeping.{Held}
use Rattle.kl1_lines.specs.Replies.{Written}
use Rattle.kl1_script.specs.Alone.{AreAlone}

-- what is written for each record after others
abbrev pub replies_from : List (List ℕ) → List Record → List Record → List (List ℕ)
replies_from accounts before [] = []
replies_from accounts before (r ∷ rs) = written_for accounts before r ∷ replies_from accounts (before ++ r ∷ []) rs

-- what is written for each record, if there are accounts
abbrev pub replies_by : Option (List (List ℕ)) → List Record → List (List ℕ)
replies_by None records = []
replies_by (Some accounts) records = replies_from accounts [] records

-- what is written for each record of a script
abbrev pub script_replies : List ℕ → List (List ℕ)
script_replies script = replies_by (accounts_in (words_of (line_in script))) (records_of (behind_feed script)).list

-- what is written at the end, by whether that is in the middle of a load
abbrev pub script_end : Bool → List ℕ
script_end v = if v then written_line (codes "! truncated") else []

-- what is written for records after others
abbrev pub written_after : List (List ℕ) → List Record → Records → Written
written_after accounts before rs = record { each = replies_from accounts before rs.list; last = script_end rs.is_truncated }

-- some records were done to the accounts of a world, and this is written for those of a text after them
pub record WritesRecords (accounts : List (List ℕ)) (world : List Held) (text : List ℕ) (w : Written) : Type 0 where
  pub before : List Record
  pub alone : AreAlone accounts world before
  pub is : w ≡ written_after accounts before (records_of text)
