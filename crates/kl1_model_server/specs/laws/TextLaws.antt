-- What holds of the text of a journal.
use Rattle.std.specs.Prelude.{◌≡◌, ℕ, ◌≤◌, ◌<◌, ◌==◌, not, ◌&&◌, Bool, true, List, [], ◌∷◌, ◌++◌, length, Some, IsTrue}
use Rattle.std.specs.List.{list_all, AllByRecursion}
use Rattle.kl1_model.specs.declared.rules.Rules.{Rules}
use Rattle.kl1_model.specs.declared.limits.TheConstants.{NUMBER_LIMIT, MOST_LINE_BYTES, MOST_SESSIONS}
use Rattle.kl1_model.specs.Text.{is_text}
use Rattle.kl1_model.specs.Meaning.{is_writable, is_numbered}
use Rattle.kl1_model.specs.Goal.{is_goal}
use Rattle.kl1_model.specs.State.{has_forgetting, limits_of}
use Rattle.kl1_model.specs.Event.{Event, load}
use Rattle.kl1_model.specs.Sending.{may_send}
use Rattle.kl1_model.specs.Opening.{start_line}
use Rattle.kl1_model.specs.Answering.{answer_line, is_numbered_by}
use Rattle.kl1_model_server.specs.Command.{written_lines}
use Rattle.kl1_model_server.specs.Journal.{Entry, loads, starts, sends, steps, answers, forgets, runs, Journal, Kept, fresh_kept, done}
use Rattle.kl1_model_server.specs.JournalText.{entry_line, name_line, heading_line, journal_lines, entry_in, name_in, is_new_name, Heading, heading_in, lines_of, journal_in}
pub use Rattle.kl1_model_server.specs.TextParts.{are_new_names}

-- each is a byte
abbrev pub AreBytes : List ℕ → Type 0
AreBytes bs = AllByRecursion (λ b. b < 256) bs

-- an entry that has a line in a journal of these rules, and is one by them: its numbers are below 2 ^ 63, its source is bytes, its goal can be written and read back, and the line of a
-- source or of a goal isn't too long
abbrev pub HasLine : Rules → Entry → Type 0
HasLine rules (loads text) = AreBytes text × (length (entry_line (loads text)) ≤ MOST_LINE_BYTES)
HasLine rules (starts allowance low high t) =
    (allowance < NUMBER_LIMIT) × (low < NUMBER_LIMIT) × (high < NUMBER_LIMIT) × IsTrue (is_goal t) × IsTrue (is_writable t) × IsTrue (is_numbered t) × (length (start_line allowance low high t) ≤ MOST_LINE_BYTES)
HasLine rules (sends n m) = IsTrue (may_send n m)
HasLine rules (steps goal clause) = (goal < NUMBER_LIMIT) × (clause < NUMBER_LIMIT)
HasLine rules (answers n report t) = (n < NUMBER_LIMIT) × (report < NUMBER_LIMIT) × IsTrue (is_goal t) × IsTrue (is_writable t) × IsTrue (is_numbered_by rules t) × (length (answer_line n report t) ≤ MOST_LINE_BYTES)
HasLine rules (forgets n count) = IsTrue (has_forgetting rules) × (n < NUMBER_LIMIT) × (count < NUMBER_LIMIT)
HasLine rules (runs n) = (1 ≤ n) × (n < NUMBER_LIMIT)

-- the line of an entry reads back
abbrev pub EntriesReadBack : Type 0
EntriesReadBack = (rules : Rules) (e : Entry) → HasLine rules e → entry_in rules (entry_line e) ≡ Some e

-- a line that is read as an entry is the line of that entry
abbrev pub StrictLinesAreEntries : Type 0
StrictLinesAreEntries = (rules : Rules) (line : List ℕ) (e : Entry) → entry_in rules line ≡ Some e → entry_line e ≡ line

-- the line of a name reads back
abbrev pub NamesReadBack : Type 0
NamesReadBack = (t : List ℕ) → IsTrue (is_text t) → name_in (name_line t) ≡ Some t

-- a line that is read as a name is the line of that name
abbrev pub StrictLinesAreNames : Type 0
StrictLinesAreNames = (line t : List ℕ) → name_in line ≡ Some t → IsTrue (is_text t) × (name_line t ≡ line)

-- the first line of a journal reads back
abbrev pub HeadingsReadBack : Type 0
HeadingsReadBack = (rules : Rules) (sessions names : ℕ) → sessions ≤ MOST_SESSIONS → names ≤ (limits_of rules).names → heading_in (heading_line rules sessions names) ≡ Some (record { rules = rules; sessions = sessions; names = names })

-- a line that is read as the first of a journal is the first line of what it says
abbrev pub StrictLinesAreHeadings : Type 0
StrictLinesAreHeadings = (line : List ℕ) (h : Heading) → heading_in line ≡ Some h → (h.sessions ≤ MOST_SESSIONS) × (h.names ≤ (limits_of h.rules).names) × (heading_line h.rules h.sessions h.names ≡ line)

-- whether bytes have no line feed among them
abbrev pub is_unbroken : List ℕ → Bool
is_unbroken bs = list_all (λ b. not (b == 10)) bs

-- lines as they are written are the lines of that text, with what stands after them
abbrev pub LinesOfLines : Type 0
LinesOfLines = (lines : List (List ℕ)) (rest : List ℕ) → IsTrue (list_all is_unbroken lines) → IsTrue (is_unbroken rest) → lines_of (written_lines lines ++ rest) ≡ record { whole = lines; rest = rest }

-- a text is its lines as they are written, and then its rest; none of these has a line feed
abbrev pub TextsAreLines : Type 0
TextsAreLines = (text : List ℕ) → (written_lines (lines_of text).whole ++ (lines_of text).rest ≡ text) × IsTrue (list_all is_unbroken (lines_of text).whole) × IsTrue (is_unbroken (lines_of text).rest)

-- names that an account that keeps to these rules may have used: there aren't too many, each is the text of a name, none is built in, and no two are the same
pub record AreNames (rules : Rules) (names : List (List ℕ)) : Type 0 where
  pub few : length names ≤ (limits_of rules).names
  pub new : IsTrue (are_new_names [] names)

-- a journal that has a text: not too many sessions are open, its names may have been used, and each entry has a line
pub record IsWritten (j : Journal) : Type 0 where
  pub sessions : j.sessions ≤ MOST_SESSIONS
  pub names : AreNames j.rules j.names
  pub image : j.image ≡ []
  pub entries : AllByRecursion (HasLine j.rules) j.entries

-- the text of a journal
abbrev pub journal_text : Journal → List ℕ
journal_text j = written_lines (journal_lines j)

-- the text of a journal reads back
abbrev pub JournalsReadBack : Type 0
JournalsReadBack = (j : Journal) → IsWritten j → journal_in (journal_text j) ≡ Some j

-- a text that is read as a journal is the text of that journal
abbrev pub StrictTextsAreJournals : Type 0
StrictTextsAreJournals = (text : List ℕ) (j : Journal) → journal_in text ≡ Some j → journal_text j ≡ text

-- an account whose journal has its rules and a text, and whose names may stand in the next one
pub record IsWrittenDown (k : Kept) : Type 0 where
  pub rules : k.journal.rules ≡ k.state.rules
  pub journal : IsWritten k.journal
  pub names : AreNames k.state.rules k.state.names
  pub sessions : k.state.sessions ≤ MOST_SESSIONS

-- the source of a load is bytes
abbrev pub HasBytes : Event → Type 0
HasBytes (load text) = AreBytes text
HasBytes e = Unit {0}

-- the journal of a fresh account has a text
abbrev pub FreshIsWritten : Type 0
FreshIsWritten = (rules : Rules) (name : List ℕ) → IsWrittenDown (fresh_kept rules name)

-- and each event, whatever becomes of it, leaves a journal that has a text
abbrev pub WrittenStays : Type 0
WrittenStays = (k : Kept) (e : Event) → HasBytes e → IsWrittenDown k → IsWrittenDown (done k e).kept
