-- What is written for the text of a journal, entry by entry.
use Rattle.std.specs.Prelude.{ℕ, zero, suc, if◌then◌else◌, List, [], ◌∷◌, ◌++◌, Option, Some, None, option_and_then}
use Rattle.kl1_model.specs.declared.rules.Rules.{Rules}
use Rattle.kl1_model.specs.State.{State, fresh_with}
use Rattle.kl1_model.specs.Event.{Transition, is_refused}
use Rattle.kl1_model_server.specs.Command.{reply_lines, written_lines}
use Rattle.kl1_model_server.specs.Journal.{entry_step}
use Rattle.kl1_model_server.specs.JournalText.{Heading, Lines, entry_in, name_in, is_new_name, heading_in, lines_of}
use Rattle.kl1_model_server.specs.Replay.{replay_name, written_fault, written_rest}
use Rattle.kl1_lines.specs.Replies.{Written}

-- what became of an event or an entry, if it is accepted
abbrev pub if_accepted : Transition → Option Transition
if_accepted x = if is_refused x.reply then None else Some x

-- what became of the entry of a line, if it is one by the account's rules and is accepted
abbrev pub accepted_in : State → List ℕ → Option Transition
accepted_in s line = option_and_then (λ e. if_accepted (entry_step s e)) (entry_in s.rules line)

-- the reply to an entry, with those to the entries after it; nothing if it isn't accepted
abbrev pub reply_then : (State → List (List ℕ)) → Option Transition → List (List ℕ)
reply_then next None = [] ∷ []
reply_then next (Some x) = written_lines (reply_lines x.reply) ∷ next x.state

-- the reply to the entry of each line, up to the first that isn't accepted, to which there is none
abbrev pub entry_replies : State → List (List ℕ) → List (List ℕ)
entry_replies s [] = []
entry_replies s (line ∷ lines) = reply_then (λ after. entry_replies after lines) (accepted_in s line)

-- what ends the replay after an entry; the fault of line k if that isn't accepted
abbrev pub end_then : ℕ → (State → List ℕ) → Option Transition → List ℕ
end_then k next None = written_fault k
end_then k next (Some x) = next x.state

-- what ends the replay of lines from line k on, and of the bytes after them, after n entries that led to this account
abbrev pub entry_end : ℕ → ℕ → State → List (List ℕ) → List ℕ → List ℕ
entry_end k n s [] rest = written_rest k n rest
entry_end k n s (line ∷ lines) rest = end_then k (λ after. entry_end (suc k) (suc n) after lines rest) (accepted_in s line)

-- what is written for lines from line k on, after n entries that led to this account
abbrev pub written_on : ℕ → ℕ → State → Lines → Written
written_on k n s ls = record { each = entry_replies s ls.whole; last = entry_end k n s ls.whole ls.rest }

-- how it goes on after a line, if that has a name that may follow the names before it
abbrev pub after_name : (List (List ℕ) → List (List ℕ)) → List (List ℕ) → Option (List ℕ) → List (List ℕ)
after_name next names None = []
after_name next names (Some t) = if is_new_name names t then next (names ++ t ∷ []) else []

-- the replies to the entries after `count` lines of names
abbrev pub name_replies : ℕ → Rules → ℕ → List (List ℕ) → List (List ℕ) → List (List ℕ)
name_replies zero rules sessions names lines = entry_replies (fresh_with rules replay_name names sessions) lines
name_replies (suc count) rules sessions names [] = []
name_replies (suc count) rules sessions names (line ∷ lines) = after_name (λ more. name_replies count rules sessions more lines) names (name_in line)

-- the replies to the entries of lines after the first, by what that says
abbrev pub heading_replies : Option Heading → List (List ℕ) → List (List ℕ)
heading_replies None lines = []
heading_replies (Some h) lines = name_replies h.names h.rules h.sessions [] lines

-- the replies to the entries of the lines of a journal
abbrev pub line_replies : List (List ℕ) → List (List ℕ)
line_replies [] = []
line_replies (line ∷ lines) = heading_replies (heading_in line) lines

-- the reply to each entry of a journal's text
abbrev pub replay_replies : List ℕ → List (List ℕ)
replay_replies text = line_replies (lines_of text).whole
