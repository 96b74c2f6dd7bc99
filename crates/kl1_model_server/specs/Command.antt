-- Commands and replies as texts, and what a command does.
use Rattle.std.specs.Prelude.{ℕ, zero, suc, ◌==◌, nat_le, ◌&&◌, true, false, if◌then◌else◌, List, [], ◌∷◌, ◌++◌, length, codes, bytes_eq, decimal, Option, Some, None, option_map, option_and_then}
use Rattle.kl1_model.specs.declared.message.Message.TheVariants.{Stop, Start, Abort, Allow}
use Rattle.kl1_model.specs.declared.condition.Condition.{Condition}
use Rattle.kl1_model.specs.declared.condition.Condition.TheVariants.{Terminated, Aborted, Stopped, Exhausted, Running}
use Rattle.kl1_model.specs.Term.{Term}
use Rattle.kl1_model.specs.Name.{atom_text}
use Rattle.kl1_model.specs.declared.limits.TheConstants.{MOST_COMMAND_BYTES, MOST_LISTED, MOST_STEPS}
use Rattle.kl1_model.specs.Line.{word_in, behind_word_in, number_in, up_to, only_number, is_blank_line}
use Rattle.kl1_model.specs.Event.{Refusal, syntax, source, exists, no_shoen, shoen_ended, step_refused, too_many_names, limit_passed, journal_full, sessions_refused, answer_refused, value, status, reports, modules, is_quiet, Event, load, start, control, reduce, read, login, logout, reset, answer, forget, Reply, loaded, opened, sent, reduced, ran, shown, status_is, listed, quiet_is, welcome, bye, was_reset, forgot, refused, is_refused, is_range}
use Rattle.kl1_model.specs.Module.{Reading, good, bad, read_goal}
use Rattle.kl1_model.specs.declared.rules.Rules.{Rules}
use Rattle.kl1_model.specs.State.{has_forgetting}
use Rattle.kl1_model.specs.Telling.{read_answer}
use Rattle.kl1_model.specs.Choice.{first}
use Rattle.kl1_model.specs.Record.{Request, load_of, spoiled_load, other_line}
use Rattle.kl1_model_server.specs.Journal.{Kept, Done, done}
use Rattle.kl1_model_server.specs.JournalText.{page_of}
pub use Rattle.kl1_model_server.specs.TextParts.{written_line, written_lines}

-- a command: an event; a run of at most n steps; or the journal's lines from number n on, the first being 1, at most m of them
pub data Command : Type 0 where
  does : Event → Command
  run : ℕ → Command
  shows : ℕ → ℕ → Command

-- the command of a line whose first word is a number, by that and what is after it
abbrev pub by_number : (ℕ → List ℕ → Option Command) → List ℕ → Option Command
by_number make line = option_and_then (λ n. make n (behind_word_in line)) (number_in (word_in line))

-- the command of a line that has two numbers and nothing else
abbrev pub by_two : (ℕ → ℕ → Option Command) → List ℕ → Option Command
by_two make = by_number (λ n rest. option_and_then (make n) (only_number rest))

-- a start with its goal as it was read
abbrev pub start_with : ℕ → ℕ → ℕ → Reading Term → Option Command
start_with allowance low high (bad line) = None
start_with allowance low high (good t) = if is_range low high then Some (does (start allowance low high t)) else None

-- a start, by its allowance, its lowest and its highest priority, and its goal
abbrev pub start_command : List ℕ → Option Command
start_command = by_number (λ allowance. by_number (λ low. by_number (λ high rest. start_with allowance low high (read_goal rest))))

-- an answer with its goal as it was read, to a report whose number is at least 1
abbrev pub answer_with : ℕ → ℕ → Reading Term → Option Command
answer_with n report (bad line) = None
answer_with n report (good t) = if nat_le 1 report then Some (does (answer n report t)) else None

-- an answer, by the number of a shoen, the number of its report, from 1, and the goal as these rules read it
abbrev pub answer_command : Rules → List ℕ → Option Command
answer_command rules = by_number (λ n. by_number (λ report rest. answer_with n report (read_answer rules rest)))

-- the reports of a shoen, by its number and that of the first report, from 1
abbrev pub reports_command : List ℕ → Option Command
reports_command = by_two (λ n from. if nat_le 1 from then Some (does (read (reports n from))) else None)

-- a page of the journal, by the number of the page's first line, from 1, and how many lines at most, also from 1
abbrev pub journal_command : List ℕ → Option Command
journal_command = by_two (λ from count. if nat_le 1 from && nat_le 1 count && nat_le count MOST_LISTED then Some (shows from count) else None)

-- an event, if blanks alone are after its word
abbrev pub alone_command : Event → List ℕ → Option Command
alone_command e line = if is_blank_line line then Some (does e) else None

-- the command of a line by its first word `w` and what is after it, as accounts of these rules have it
abbrev pub command_by : Rules → List ℕ → List ℕ → Option Command
command_by rules w rest =
    if bytes_eq w (codes "start") then start_command rest
    else if bytes_eq w (codes "run") then option_map run (up_to MOST_STEPS (only_number rest))
    else if bytes_eq w (codes "stop") then option_map (λ n. does (control n Stop)) (only_number rest)
    else if bytes_eq w (codes "resume") then option_map (λ n. does (control n Start)) (only_number rest)
    else if bytes_eq w (codes "abort") then option_map (λ n. does (control n Abort)) (only_number rest)
    else if bytes_eq w (codes "allow") then by_two (λ n more. Some (does (control n (Allow more)))) rest
    else if bytes_eq w (codes "value") then option_map (λ n. does (read (value n))) (only_number rest)
    else if bytes_eq w (codes "status") then option_map (λ n. does (read (status n))) (only_number rest)
    else if bytes_eq w (codes "reports") then reports_command rest
    else if bytes_eq w (codes "modules") then alone_command (read modules) rest
    else if bytes_eq w (codes "quiet") then alone_command (read is_quiet) rest
    else if bytes_eq w (codes "reduce") then by_two (λ goal clause. Some (does (reduce goal clause))) rest
    else if bytes_eq w (codes "journal") then journal_command rest
    else if bytes_eq w (codes "login") then alone_command login rest
    else if bytes_eq w (codes "logout") then alone_command logout rest
    else if bytes_eq w (codes "reset") then alone_command reset rest
    else if bytes_eq w (codes "answer") then answer_command rules rest
    else if bytes_eq w (codes "forget") && has_forgetting rules then by_two (λ n count. Some (does (forget n count))) rest
    else None

-- the command that a line without its end is by these rules, if it is one and isn't too long; a `load` line without its source is none
abbrev pub parse : Rules → List ℕ → Option Command
parse rules line = if nat_le (length line) MOST_COMMAND_BYTES then command_by rules (word_in line) (behind_word_in line) else None

-- the command that is asked for, if there is one
abbrev pub command_of : Rules → Request → Option Command
command_of rules (load_of text) = Some (does (load text))
command_of rules spoiled_load = None
command_of rules (other_line line) = parse rules line

-- a reply that leaves an account as it is
abbrev pub said : Kept → Reply → Done
said k r = record { kept = k; reply = r }

-- first reductions, one after another, at most this number of them and until none can be done or one is refused, after n that are done; if the
-- very first is refused, so is the run
abbrev pub run_from : ℕ → ℕ → Kept → Done
run_from zero n k = said k (ran n)
run_from (suc most) n k = elim (first k.state) [
  | None ↦ said k (ran n)
  | Some c ↦
      let x = done k (reduce c.goal c.clause) in
      if is_refused x.reply then said k (if n == 0 then x.reply else ran n) else run_from most (suc n) x.kept
]

-- what a command does to an account with its journal, and the reply
abbrev pub act : Kept → Command → Done
act k (does e) = done k e
act k (run most) = run_from most 0 k
act k (shows from count) = said k (listed (page_of k.journal from count))

-- the text of a refusal: its number and its word, and for a source the line
abbrev pub refusal_text : Refusal → List ℕ
refusal_text syntax = codes "1 syntax"
refusal_text (source line) = codes "2 source " ++ decimal line
refusal_text exists = codes "3 exists"
refusal_text no_shoen = codes "4 noshoen"
refusal_text shoen_ended = codes "5 ended"
refusal_text step_refused = codes "6 step"
refusal_text too_many_names = codes "7 names"
refusal_text limit_passed = codes "8 limit"
refusal_text journal_full = codes "9 journal"
refusal_text sessions_refused = codes "12 sessions"
refusal_text answer_refused = codes "13 answer"

-- the word for the state of a shoen
abbrev pub condition_word : Condition → List ℕ
condition_word Terminated = codes "terminated"
condition_word Aborted = codes "aborted"
condition_word Stopped = codes "stopped"
condition_word Exhausted = codes "exhausted"
condition_word Running = codes "running"

-- the lines of a reply
abbrev pub reply_lines : Reply → List (List ℕ)
reply_lines (loaded name) = (codes "+ loaded " ++ atom_text name) ∷ []
reply_lines (opened n) = (codes "+ shoen " ++ decimal n) ∷ []
reply_lines sent = codes "+ sent" ∷ []
reply_lines reduced = codes "+ reduced" ∷ []
reply_lines (ran n) = (codes "+ " ++ decimal n) ∷ []
reply_lines (shown text) = (codes "+ " ++ text) ∷ []
reply_lines (status_is c charged allowance alive) =
    (codes "+ " ++ condition_word c ++ codes " " ++ decimal charged ++ codes " " ++ decimal allowance ++ codes " " ++ decimal alive) ∷ []
reply_lines (listed texts) = (codes "+ " ++ decimal (length texts)) ∷ texts
reply_lines (quiet_is true) = codes "+ yes" ∷ []
reply_lines (quiet_is false) = codes "+ no" ∷ []
reply_lines (welcome name) = (codes "+ welcome " ++ name) ∷ []
reply_lines bye = codes "+ bye" ∷ []
reply_lines was_reset = codes "+ reset" ∷ []
reply_lines forgot = codes "+ forgotten" ∷ []
reply_lines (refused r) = (codes "- " ++ refusal_text r) ∷ []
