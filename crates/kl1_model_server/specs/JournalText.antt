-- The text of a journal: its lines, and the journal that a text is.
use Rattle.std.specs.Prelude.{ℕ, zero, suc, ◌+◌, ◌*◌, ◌-◌, ◌/◌, ◌%◌, ◌==◌, nat_le, nat_lt, ◌&&◌, ◌||◌, not, Bool, true, false, if◌then◌else◌, List, [], ◌∷◌, ◌++◌, length, take, drop, map, codes, bytes_eq, decimal, Option, Some, None, option_map, option_and_then}
use Rattle.std.specs.List.{list_all, list_any}
use Rattle.kl1_model.specs.declared.message.Message.{Message}
use Rattle.kl1_model.specs.declared.message.Message.TheVariants.{Stop, Start, Abort, Allow}
use Rattle.kl1_model.specs.declared.rules.Rules.{Rules}
use Rattle.kl1_model.specs.declared.rules.Rules.TheVariants.{One, Two, Three, Four, Five}
use Rattle.kl1_model.specs.declared.limits.TheConstants.{MOST_LINE_BYTES, MOST_SESSIONS}
use Rattle.kl1_model.specs.Text.{is_text, is_built_in}
use Rattle.kl1_model.specs.Name.{atom_text}
use Rattle.kl1_model.specs.Token.{is_digit}
use Rattle.kl1_model.specs.Line.{before_space, behind_space, number_in}
use Rattle.kl1_model.specs.Module.{Reading, good, bad, read_goal}
use Rattle.kl1_model.specs.Opening.{start_line}
use Rattle.kl1_model.specs.Telling.{read_answer}
use Rattle.kl1_model.specs.State.{has_forgetting, limits_of}
use Rattle.kl1_model.specs.Answering.{answer_line}
use Rattle.kl1_model_server.specs.Journal.{Entry, loads, starts, sends, steps, answers, forgets, runs, Journal}
pub use Rattle.kl1_model_server.specs.TextParts.{hex_digit, hex_text, name_line, version, is_hex_digit, hex_value, hex_bytes, exactly, unquoted, name_by, if_text, name_in, is_new_name, rules_of, Lines, lines_of}

-- what was read, if it is good
abbrev pub if_good : {A : Type 0} → Reading A → Option A
if_good (good a) = Some a
if_good (bad line) = None

-- ---- the lines of a journal

-- the line of a message to a shoen
abbrev pub message_line : ℕ → Message → List ℕ
message_line n Stop = codes "stop " ++ decimal n
message_line n Start = codes "resume " ++ decimal n
message_line n Abort = codes "abort " ++ decimal n
message_line n (Allow k) = codes "allow " ++ decimal n ++ codes " " ++ decimal k

-- the line of an entry
abbrev pub entry_line : Entry → List ℕ
entry_line (loads text) = codes "load " ++ hex_text text
entry_line (starts allowance low high t) = start_line allowance low high t
entry_line (sends n m) = message_line n m
entry_line (steps goal clause) = codes "reduce " ++ decimal goal ++ codes " " ++ decimal clause
entry_line (answers n report t) = answer_line n report t
entry_line (forgets n count) = codes "forget " ++ decimal n ++ codes " " ++ decimal count
entry_line (runs n) = codes "run " ++ decimal n

-- the first line of a journal: its version, how many sessions are open, and how many names follow
abbrev pub heading_line : Rules → ℕ → ℕ → List ℕ
heading_line rules sessions names = codes "journal " ++ version rules ++ codes " " ++ decimal sessions ++ codes " " ++ decimal names

-- the lines of a journal
abbrev pub journal_lines : Journal → List (List ℕ)
journal_lines j = heading_line j.rules j.sessions (length j.names) ∷ map name_line j.names ++ map entry_line j.entries

-- the lines of a journal from line `from` on, the first being 1, at most `count` of them
abbrev pub page_of : Journal → ℕ → ℕ → List (List ℕ)
page_of j from count = take count (drop (from - 1) (journal_lines j))

-- ---- the entry that a line is

-- a load of the source whose hexadecimal digits these are
abbrev pub load_in : List ℕ → Option Entry
load_in rest = if list_all is_hex_digit rest then Some (loads (hex_bytes rest)) else None

-- what is made of the number before the first space and of what is after it
abbrev pub of_number : {A : Type 0} → (ℕ → List ℕ → Option A) → List ℕ → Option A
of_number make rest = option_and_then (λ n. make n (behind_space rest)) (number_in (before_space rest))

-- an entry of two numbers
abbrev pub of_two : (ℕ → ℕ → Entry) → List ℕ → Option Entry
of_two make = of_number (λ a rest. option_map (make a) (number_in rest))

-- a start of three numbers and a goal
abbrev pub start_in : List ℕ → Option Entry
start_in = of_number (λ allowance. of_number (λ low. of_number (λ high rest. option_map (starts allowance low high) (if_good (read_goal rest)))))

-- an answer of two numbers and a goal, as these rules read it
abbrev pub answer_in : Rules → List ℕ → Option Entry
answer_in rules = of_number (λ n. of_number (λ report rest. option_map (answers n report) (if_good (read_answer rules rest))))

-- a run of this number of reductions, which is at least 1
abbrev pub run_of : ℕ → Option Entry
run_of n = if nat_le 1 n then Some (runs n) else None

-- the entry that a line may be by these rules, by its first word and what is after that
abbrev pub entry_by : Rules → List ℕ → List ℕ → Option Entry
entry_by rules w rest =
    if bytes_eq w (codes "reduce") then of_two steps rest
    else if bytes_eq w (codes "load") then load_in rest
    else if bytes_eq w (codes "start") then start_in rest
    else if bytes_eq w (codes "answer") then answer_in rules rest
    else if bytes_eq w (codes "forget") && has_forgetting rules then of_two forgets rest
    else if bytes_eq w (codes "stop") then option_map (λ n. sends n Stop) (number_in rest)
    else if bytes_eq w (codes "resume") then option_map (λ n. sends n Start) (number_in rest)
    else if bytes_eq w (codes "abort") then option_map (λ n. sends n Abort) (number_in rest)
    else if bytes_eq w (codes "allow") then of_two (λ n k. sends n (Allow k)) rest
    else if bytes_eq w (codes "run") then option_and_then run_of (number_in rest)
    else None

-- the entry of a journal of these rules whose line this is, if there is one and the line isn't too long
abbrev pub entry_in : Rules → List ℕ → Option Entry
entry_in rules line =
    if nat_le (length line) MOST_LINE_BYTES then exactly entry_line (λ line. entry_by rules (before_space line) (behind_space line)) line else None

-- ---- the name that a line has, and the first line

-- what the first line of a journal says: the rules of the account, how many sessions are open, and how many names follow
pub record Heading : Type 0 where
  pub rules : Rules
  pub sessions : ℕ
  pub names : ℕ

-- the heading that a line may be, by what is after its first word: a version and two numbers
abbrev pub heading_by : List ℕ → Option Heading
heading_by line =
    option_and_then
    (λ rules. of_number
    (λ sessions rest. option_map (λ names. record { rules = rules; sessions = sessions; names = names }) (number_in rest))
    (behind_space line))
    (rules_of (before_space line))

-- a heading, if its numbers are allowed
abbrev pub if_allowed : Heading → Option Heading
if_allowed h = if nat_le h.sessions MOST_SESSIONS && nat_le h.names (limits_of h.rules).names then Some h else None

-- the heading whose line this is, if there is one and its numbers are allowed
abbrev pub heading_in : List ℕ → Option Heading
heading_in line =
    exactly (λ h. heading_line h.rules h.sessions h.names) (λ line. option_and_then if_allowed (heading_by (behind_space line))) line

-- ---- the lines of a text

-- ---- the journal that a text is

-- the entries whose lines these are, if each line is that of an entry of these rules
abbrev pub entries_in : Rules → List (List ℕ) → Option (List Entry)
entries_in rules [] = Some []
entries_in rules (line ∷ lines) = option_and_then (λ e. option_map (λ es. e ∷ es) (entries_in rules lines)) (entry_in rules line)

-- the journal of these rules, sessions and names, if its other lines are these: first those of n more names, then those of entries
abbrev pub journal_after : Rules → ℕ → List (List ℕ) → ℕ → List (List ℕ) → Option Journal
journal_after rules sessions names zero lines =
    option_map (λ es. record { rules = rules; sessions = sessions; names = names; image = []; entries = es }) (entries_in rules lines)
journal_after rules sessions names (suc n) [] = None
journal_after rules sessions names (suc n) (line ∷ lines) =
    option_and_then (λ t. if is_new_name names t then journal_after rules sessions (names ++ t ∷ []) n lines else None) (name_in line)

-- the journal whose lines these are, if there is one
abbrev pub journal_of : List (List ℕ) → Option Journal
journal_of [] = None
journal_of (line ∷ lines) = option_and_then (λ h. journal_after h.rules h.sessions [] h.names lines) (heading_in line)

-- the journal that a text is, if it is one: each line ends with a line feed
abbrev pub journal_in : List ℕ → Option Journal
journal_in text = if length (lines_of text).rest == 0 then journal_of (lines_of text).whole else None
