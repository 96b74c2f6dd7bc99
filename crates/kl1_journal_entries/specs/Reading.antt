-- How the text of a journal is read.
use Rattle.std.specs.Prelude.{ℕ, ◌∷◌, [], List, Bool, false, if◌then◌else◌, ◌==◌, length, bytes_eq, codes, Option, Some, None, option_map, option_and_then}
use Rattle.kl1_model.specs.declared.message.Message.TheVariants.{Stop, Start, Abort, Allow}
use Rattle.kl1_model.specs.declared.rules.Rules.{Rules}
use Rattle.kl1_model.specs.Line.{before_space, behind_space, number_in}
use Rattle.kl1_model_server.specs.Journal.{Entry, sends, Journal, entered}
use Rattle.kl1_model_server.specs.JournalText as model
use Rattle.kl1_model_server.specs.JournalText.{Lines, of_two, entry_line, entry_in, lines_of, journal_after}
use Rattle.kl1_journal_entries.specs.declared.heading.Heading.{Heading}

-- lines with one more in front
abbrev pub with_line : List ℕ → Lines → Lines
with_line line ls = record { whole = line ∷ ls.whole; rest = ls.rest }

-- the heading that this one is
abbrev pub heading_view : Heading → model.Heading
heading_view h = record { rules = h.rules; sessions = h.sessions; names = h.names }

-- two numbers that a line has
abbrev pub two_in : List ℕ → Option (ℕ × ℕ)
two_in rest = option_and_then (λ a. option_map (λ b. (a, b)) (number_in (behind_space rest))) (number_in (before_space rest))

-- the message that a line may be, by its first word and what is after that
abbrev pub message_by : List ℕ → List ℕ → Option Entry
message_by w rest =
    if bytes_eq w (codes "stop") then option_map (λ n. sends n Stop) (number_in rest)
    else if bytes_eq w (codes "resume") then option_map (λ n. sends n Start) (number_in rest)
    else if bytes_eq w (codes "abort") then option_map (λ n. sends n Abort) (number_in rest)
    else if bytes_eq w (codes "allow") then of_two (λ n k. sends n (Allow k)) rest
    else None

-- whether a line is that of an entry, if there is one
abbrev pub is_line_of : Option Entry → List ℕ → Bool
is_line_of None line = false
is_line_of (Some e) line = bytes_eq (entry_line e) line

-- a journal with the entries of lines after its own, if each is an entry's
abbrev pub read_on : Journal → List (List ℕ) → Option Journal
read_on j [] = Some j
read_on j (line ∷ lines) = option_and_then (λ e. read_on (entered j e) lines) (entry_in j.rules line)

-- the journal that this one is after the entries whose lines a text is, if it is
abbrev pub read_text : Journal → List ℕ → Option Journal
read_text j text = if length (lines_of text).rest == 0 then read_on j (lines_of text).whole else None

-- the journal of these rules, sessions and names, after which a text has this number of names and then entries, if it has
abbrev pub read_after : Rules → ℕ → List (List ℕ) → ℕ → List ℕ → Option Journal
read_after rules sessions names n text = if length (lines_of text).rest == 0 then journal_after rules sessions names n (lines_of text).whole else None
