-- Rows of sessions, resets, journals and replays: what accounts come to in the course of events.
use Rattle.std.specs.Prelude.{◌≡◌, codes, List, [], ◌∷◌, ◌++◌, Some, None, pos, ℕ}
use Rattle.kl1_model.specs.declared.message.Message.TheVariants.{Allow}
use Rattle.kl1_model.specs.declared.rules.Rules.TheVariants.{One, Three}
use Rattle.kl1_model.specs.Term.{variable, integer, atom}
use Rattle.kl1_model.specs.State.{State, fresh, fresh_with}
use Rattle.kl1_model.specs.Event.{Event, load, start, reduce, login, logout, reset, Reply, loaded, opened, welcome, bye, was_reset, refused, step_refused, too_many_names, sessions_refused}
use Rattle.kl1_model.specs.Step.{step}
use Rattle.kl1_model_server.specs.Journal.{loads, starts, sends, steps, new_journal, replay, Kept, done, fresh_kept}
use Rattle.kl1_model_server.specs.JournalText.{journal_lines, page_of, entry_in, name_in, heading_in, journal_in}
use Rattle.kl1_model_server.specs.Alone.{Deed, only, replies_at, alone}
use Rattle.kl1_model_server.specs.Command.{parse, written_lines}
use Rattle.kl1_model_server.specs.Script.{done_by}
use Rattle.kl1_model_laws.specs.AccountRows.{equals, numbers, stream, true_term, with_entries}
use Rattle.kl1_model_laws.specs.ShoenRows.{with_counts, with_reports, with_last_shoen, with_many_names, with_modules}

-- the account of alice with its journal, in which nothing has happened
abbrev pub alice : Kept
alice = fresh_kept Three (codes "alice")

-- a module without clauses
abbrev pub no_clauses : List ℕ
no_clauses = codes ":- module e."

-- an account with its journal, after lines of commands
abbrev pub kept_after_lines : Kept → List (List ℕ) → Kept
kept_after_lines k [] = k
kept_after_lines k (l ∷ ls) = kept_after_lines (done_by k (parse k.state.rules l)).kept ls

-- an account's replies to lines of commands, in order
abbrev pub replies_to : Kept → List (List ℕ) → List Reply
replies_to k [] = []
replies_to k (l ∷ ls) = (done_by k (parse k.state.rules l)).reply ∷ replies_to (done_by k (parse k.state.rules l)).kept ls

-- an account with each kind of entry in its journal, and an open session
abbrev pub with_each_entry : Kept
with_each_entry = kept_after_lines (done alice (load no_clauses)).kept (codes "login" ∷ codes "start 9 0 9 X := f(Y)" ∷ codes "stop 1" ∷ codes "resume 1" ∷ codes "allow 1 5" ∷ codes "abort 1" ∷ codes "run 9" ∷ [])

-- an account after a reset
abbrev pub after_reset : State → State
after_reset s = (step s reset).state

-- a start of a goal that uses a name
abbrev pub start_of : List ℕ → Event
start_of name = start 1 0 1 (equals (atom name) (atom name))

-- events of two accounts
abbrev pub deeds : List Deed
deeds = record { account = 0; event = login } ∷ record { account = 1; event = login } ∷ record { account = 1; event = logout } ∷ record { account = 0; event = reset } ∷ record { account = 1; event = logout } ∷ []

-- what accounts come to in the course of events, and the lines of their journals
pub record HistoryRowsHold : Type 0 where
  -- a fifth session is refused
  pub fifth_session : replies_to alice (codes "login" ∷ codes "login" ∷ codes "login" ∷ codes "login" ∷ codes "login" ∷ []) ≡ welcome (codes "alice") ∷ welcome (codes "alice") ∷ welcome (codes "alice") ∷ welcome (codes "alice") ∷ refused sessions_refused ∷ []
  -- sessions that are open can be closed
  pub sessions_closed : replies_to (kept_after_lines alice (codes "login" ∷ codes "login" ∷ codes "login" ∷ codes "login" ∷ [])) (codes "logout" ∷ codes "logout" ∷ codes "logout" ∷ codes "logout" ∷ codes "logout" ∷ []) ≡ bye ∷ bye ∷ bye ∷ bye ∷ refused sessions_refused ∷ []
  -- a session that was closed makes room for another
  pub session_after_another : replies_to (kept_after_lines alice (codes "login" ∷ codes "login" ∷ codes "login" ∷ codes "login" ∷ codes "logout" ∷ [])) (codes "login" ∷ codes "login" ∷ []) ≡ welcome (codes "alice") ∷ refused sessions_refused ∷ []
  -- a journal tells the sessions that are open
  pub sessions_of_a_journal : (kept_after_lines alice (codes "login" ∷ codes "login" ∷ codes "logout" ∷ [])).journal ≡ new_journal Three [] 1
  -- the lines of each kind of entry
  pub lines_of_entries : journal_lines with_each_entry.journal ≡ codes "journal 3 1 0" ∷ codes "load 3a2d206d6f64756c6520652e" ∷ codes "start 9 0 9 ':='(_1,f(_2))" ∷ codes "stop 1" ∷ codes "resume 1" ∷ codes "allow 1 5" ∷ codes "abort 1" ∷ codes "reduce 1 0" ∷ codes "reduce 1 0" ∷ codes "reduce 1 0" ∷ codes "reduce 1 0" ∷ []
  -- they read back
  pub entries_read_back : journal_in (written_lines (journal_lines with_each_entry.journal)) ≡ Some with_each_entry.journal
  -- variables, goals, shoens and entries of the account
  pub numbers_of_the_account : numbers with_each_entry.state ≡ 12 ∷ 2 ∷ 1 ∷ 10 ∷ []
  -- and of the replay of its journal
  pub numbers_of_the_replay : numbers (replay (codes "alice") with_each_entry.journal) ≡ 12 ∷ 2 ∷ 1 ∷ 10 ∷ []
  -- the reports of the account
  pub reports_of_the_account : stream 1 with_each_entry.state ≡ codes "[started,stopped,resumed,aborted]"
  -- and of the replay of its journal
  pub reports_of_the_replay : stream 1 (replay (codes "alice") with_each_entry.journal) ≡ codes "[started,stopped,resumed,aborted]"
  -- the names of the replay
  pub names_of_the_replay : (replay (codes "alice") with_each_entry.journal).names ≡ codes "e" ∷ codes "f" ∷ []
  -- and its sessions
  pub sessions_of_the_replay : (replay (codes "alice") with_each_entry.journal).sessions ≡ 1
  -- a page of a journal
  pub page_of_two : page_of with_each_entry.journal 6 2 ≡ codes "allow 1 5" ∷ codes "abort 1" ∷ []
  -- a page that the journal ends
  pub page_at_the_end : page_of with_each_entry.journal 11 64 ≡ codes "reduce 1 0" ∷ []
  -- a page after the end
  pub page_after_the_end : page_of with_each_entry.journal 12 64 ≡ []
  -- a reduction of no goal is refused
  pub refused_reduction : (done with_each_entry (reduce 99 1)).reply ≡ refused step_refused
  -- and leaves the journal
  pub journal_of_a_refused_reduction : page_of (done with_each_entry (reduce 99 1)).kept.journal 11 64 ≡ codes "reduce 1 0" ∷ []
  -- queries, and lines that are no command, leave account and journal
  pub queries : kept_after_lines with_each_entry (codes "status 1" ∷ codes "journal 1 64" ∷ codes "quiet" ∷ codes "journal 0 1" ∷ []) ≡ with_each_entry
  -- after a reset the account is fresh but for its names and sessions
  pub account_after_a_reset : (done with_each_entry reset).kept.state ≡ fresh_with Three (codes "alice") (codes "e" ∷ codes "f" ∷ []) 1
  -- and its journal has no entry
  pub journal_after_a_reset : (done with_each_entry reset).kept.journal ≡ new_journal Three (codes "e" ∷ codes "f" ∷ []) 1
  -- the reply of a reset
  pub reply_of_a_reset : (done with_each_entry reset).reply ≡ was_reset
  -- names of a journal read back
  pub names_read_back : journal_in (written_lines (journal_lines (done with_each_entry reset).kept.journal)) ≡ Some (new_journal Three (codes "e" ∷ codes "f" ∷ []) 1)
  -- a full journal has room after a reset
  pub full_journal_reset : (step (after_reset (with_entries 262144 (fresh Three (codes "alice")))) (start 1 0 1 true_term)).reply ≡ opened 1
  -- a full journal refuses no session
  pub full_journal_login : (step (with_entries 262144 (fresh Three (codes "alice"))) login).reply ≡ welcome (codes "alice")
  -- names stay used after a reset
  pub names_reset : (step (after_reset (with_many_names 1024 (fresh Three (codes "alice")))) (start_of (codes "y"))).reply ≡ refused too_many_names
  -- and can be used again
  pub names_used_again : (step (after_reset (with_many_names 1024 (fresh Three (codes "alice")))) (start_of (codes "x1023"))).reply ≡ opened 1
  -- variables and structures are counted anew after a reset
  pub counts_reset : (step (after_reset (with_counts 262144 1048576 (fresh Three (codes "alice")))) (start 1 0 1 true_term)).reply ≡ opened 1
  -- so are shoens
  pub shoens_reset : (step (after_reset (with_last_shoen 1024 (fresh Three (codes "alice")))) (start 1 0 1 true_term)).reply ≡ opened 1
  -- reports
  pub reports_reset : stream 1 (step (after_reset (with_reports 65536 (fresh Three (codes "alice")))) (start 1 0 1 true_term)).state ≡ codes "[started|_3]"
  -- and modules
  pub modules_reset : (step (after_reset (with_modules 32 (fresh Three (codes "alice")))) (load no_clauses)).reply ≡ loaded (codes "e")
  -- the entry of a load
  pub load_line : entry_in One (codes "load 3a0a7e") ≡ Some (loads (58 ∷ 10 ∷ 126 ∷ []))
  -- a letter after f is no digit
  pub load_line_of_other_letters : entry_in One (codes "load g0") ≡ None
  -- neither is a capital
  pub load_line_of_capitals : entry_in One (codes "load 3A") ≡ None
  -- a byte has two digits
  pub load_line_of_three_digits : entry_in One (codes "load 3a0") ≡ None
  -- the entry of a start
  pub start_line : entry_in One (codes "start 7 0 4095 '='(_1,1)") ≡ Some (starts 7 0 4095 (equals (variable 1) (integer (pos 1))))
  -- a goal that is printed otherwise is none
  pub start_line_in_another_spelling : entry_in One (codes "start 7 0 4095 X = 1") ≡ None
  -- the entry of a message
  pub allow_line : entry_in One (codes "allow 3 9223372036854775807") ≡ Some (sends 3 (Allow 9223372036854775807))
  -- a number of 2 ^ 63 is none
  pub allow_line_of_64_bits : entry_in One (codes "allow 3 9223372036854775808") ≡ None
  -- the entry of a reduction
  pub reduce_line : entry_in One (codes "reduce 2 0") ≡ Some (steps 2 0)
  -- a leading zero
  pub reduce_line_with_a_zero : entry_in One (codes "reduce 2 00") ≡ None
  -- two blanks
  pub reduce_line_with_two_blanks : entry_in One (codes "reduce 2  0") ≡ None
  -- a blank at the end
  pub reduce_line_with_a_blank : entry_in One (codes "reduce 2 0 ") ≡ None
  -- a carriage return
  pub reduce_line_with_a_return : entry_in One (codes "reduce 2 0" ++ 13 ∷ []) ≡ None
  -- an empty line
  pub empty_line : entry_in One [] ≡ None
  -- a name in quotes
  pub name_line : name_in (codes "name 'it''s'") ≡ Some (codes "it's")
  -- the name of no bytes
  pub name_line_of_no_bytes : name_in (codes "name ''") ≡ Some []
  -- quotes that a name doesn't need
  pub name_line_with_other_quotes : name_in (codes "name 'e'") ≡ None
  -- 4 sessions and 1,024 names
  pub heading_line : heading_in (codes "journal 1 4 1024") ≡ Some (record { rules = One; sessions = 4; names = 1024 })
  -- 5 sessions
  pub heading_line_of_5_sessions : heading_in (codes "journal 1 5 0") ≡ None
  -- 1,025 names
  pub heading_line_of_1025_names : heading_in (codes "journal 1 0 1025") ≡ None
  -- the events of one account
  pub events_of_one : only 1 deeds ≡ login ∷ logout ∷ logout ∷ []
  -- its replies, alone
  pub replies_alone : (alone alice (only 1 deeds)).replies ≡ welcome (codes "alice") ∷ bye ∷ refused sessions_refused ∷ []
  -- its replies among those of several
  pub replies_of_one : replies_at 1 deeds (welcome (codes "bob") ∷ welcome (codes "alice") ∷ bye ∷ was_reset ∷ []) ≡ welcome (codes "alice") ∷ bye ∷ []
