-- What accounts come to in the course of events, computed from the definitions.
use Rattle.std.specs.Prelude.{◌≡◌, refl, codes, [], ◌∷◌, ◌++◌, Some, None, pos}
use Rattle.kl1_model.specs.declared.message.Message.TheVariants.{Allow}
use Rattle.kl1_model.specs.declared.rules.Rules.TheVariants.{One, Three}
use Rattle.kl1_model.specs.Term.{variable, integer}
use Rattle.kl1_model.specs.State.{fresh, fresh_with}
use Rattle.kl1_model.specs.Event.{load, start, reduce, login, logout, reset, loaded, opened, welcome, bye, was_reset, refused, step_refused, too_many_names, sessions_refused}
use Rattle.kl1_model.specs.Step.{step}
use Rattle.kl1_model_server.specs.Journal.{loads, starts, sends, steps, new_journal, replay, done}
use Rattle.kl1_model_server.specs.JournalText.{journal_lines, page_of, entry_in, name_in, heading_in, journal_in}
use Rattle.kl1_model_server.specs.Alone.{only, replies_at, alone}
use Rattle.kl1_model_server.specs.Command.{written_lines}
use Rattle.std.specs.Fmt.{digits}
use Rattle.kl1_model.specs.Unify.{mgu_within}
use Rattle.kl1_model.specs.Tree.{path_within}
use Rattle.kl1_model.specs.Token.{tokens_within}
use Rattle.kl1_model.specs.reader.Reader.{expression_at, parted_by, grouped_by}
use Rattle.kl1_model_laws.specs.AccountRows.{equals, numbers, stream, true_term, with_entries}
use Rattle.kl1_model_laws.specs.ShoenRows.{with_counts, with_reports, with_last_shoen, with_many_names, with_modules}
use Rattle.kl1_model_laws.specs.HistoryRows.{alice, no_clauses, kept_after_lines, replies_to, with_each_entry, after_reset, start_of, deeds, HistoryRowsHold}

fifth_session_row : replies_to alice (codes "login" ∷ codes "login" ∷ codes "login" ∷ codes "login" ∷ codes "login" ∷ []) ≡ welcome (codes "alice") ∷ welcome (codes "alice") ∷ welcome (codes "alice") ∷ welcome (codes "alice") ∷ refused sessions_refused ∷ []
unfolding digits tokens_within expression_at parted_by grouped_by mgu_within path_within
fifth_session_row = refl

sessions_closed_row : replies_to (kept_after_lines alice (codes "login" ∷ codes "login" ∷ codes "login" ∷ codes "login" ∷ [])) (codes "logout" ∷ codes "logout" ∷ codes "logout" ∷ codes "logout" ∷ codes "logout" ∷ []) ≡ bye ∷ bye ∷ bye ∷ bye ∷ refused sessions_refused ∷ []
unfolding digits tokens_within expression_at parted_by grouped_by mgu_within path_within
sessions_closed_row = refl

session_after_another_row : replies_to (kept_after_lines alice (codes "login" ∷ codes "login" ∷ codes "login" ∷ codes "login" ∷ codes "logout" ∷ [])) (codes "login" ∷ codes "login" ∷ []) ≡ welcome (codes "alice") ∷ refused sessions_refused ∷ []
unfolding digits tokens_within expression_at parted_by grouped_by mgu_within path_within
session_after_another_row = refl

sessions_of_a_journal_row : (kept_after_lines alice (codes "login" ∷ codes "login" ∷ codes "logout" ∷ [])).journal ≡ new_journal Three [] 1
unfolding digits tokens_within expression_at parted_by grouped_by mgu_within path_within
sessions_of_a_journal_row = refl

lines_of_entries_row : journal_lines with_each_entry.journal ≡ codes "journal 3 1 0" ∷ codes "load 3a2d206d6f64756c6520652e" ∷ codes "start 9 0 9 ':='(_1,f(_2))" ∷ codes "stop 1" ∷ codes "resume 1" ∷ codes "allow 1 5" ∷ codes "abort 1" ∷ codes "reduce 1 0" ∷ codes "reduce 1 0" ∷ codes "reduce 1 0" ∷ codes "reduce 1 0" ∷ []
unfolding digits tokens_within expression_at parted_by grouped_by mgu_within path_within
lines_of_entries_row = refl

entries_read_back_row : journal_in (written_lines (journal_lines with_each_entry.journal)) ≡ Some with_each_entry.journal
unfolding digits tokens_within expression_at parted_by grouped_by mgu_within path_within
entries_read_back_row = refl

numbers_of_the_account_row : numbers with_each_entry.state ≡ 12 ∷ 2 ∷ 1 ∷ 10 ∷ []
unfolding digits tokens_within expression_at parted_by grouped_by mgu_within path_within
numbers_of_the_account_row = refl

numbers_of_the_replay_row : numbers (replay (codes "alice") with_each_entry.journal) ≡ 12 ∷ 2 ∷ 1 ∷ 10 ∷ []
unfolding digits tokens_within expression_at parted_by grouped_by mgu_within path_within
numbers_of_the_replay_row = refl

reports_of_the_account_row : stream 1 with_each_entry.state ≡ codes "[started,stopped,resumed,aborted]"
unfolding digits tokens_within expression_at parted_by grouped_by mgu_within path_within
reports_of_the_account_row = refl

reports_of_the_replay_row : stream 1 (replay (codes "alice") with_each_entry.journal) ≡ codes "[started,stopped,resumed,aborted]"
unfolding digits tokens_within expression_at parted_by grouped_by mgu_within path_within
reports_of_the_replay_row = refl

names_of_the_replay_row : (replay (codes "alice") with_each_entry.journal).names ≡ codes "e" ∷ codes "f" ∷ []
unfolding digits tokens_within expression_at parted_by grouped_by mgu_within path_within
names_of_the_replay_row = refl

sessions_of_the_replay_row : (replay (codes "alice") with_each_entry.journal).sessions ≡ 1
unfolding digits tokens_within expression_at parted_by grouped_by mgu_within path_within
sessions_of_the_replay_row = refl

page_of_two_row : page_of with_each_entry.journal 6 2 ≡ codes "allow 1 5" ∷ codes "abort 1" ∷ []
unfolding digits tokens_within expression_at parted_by grouped_by mgu_within path_within
page_of_two_row = refl

page_at_the_end_row : page_of with_each_entry.journal 11 64 ≡ codes "reduce 1 0" ∷ []
unfolding digits tokens_within expression_at parted_by grouped_by mgu_within path_within
page_at_the_end_row = refl

page_after_the_end_row : page_of with_each_entry.journal 12 64 ≡ []
unfolding digits tokens_within expression_at parted_by grouped_by mgu_within path_within
page_after_the_end_row = refl

refused_reduction_row : (done with_each_entry (reduce 99 1)).reply ≡ refused step_refused
unfolding digits tokens_within expression_at parted_by grouped_by mgu_within path_within
refused_reduction_row = refl

journal_of_a_refused_reduction_row : page_of (done with_each_entry (reduce 99 1)).kept.journal 11 64 ≡ codes "reduce 1 0" ∷ []
unfolding digits tokens_within expression_at parted_by grouped_by mgu_within path_within
journal_of_a_refused_reduction_row = refl

queries_row : kept_after_lines with_each_entry (codes "status 1" ∷ codes "journal 1 64" ∷ codes "quiet" ∷ codes "journal 0 1" ∷ []) ≡ with_each_entry
unfolding digits tokens_within expression_at parted_by grouped_by mgu_within path_within
queries_row = refl

account_after_a_reset_row : (done with_each_entry reset).kept.state ≡ fresh_with Three (codes "alice") (codes "e" ∷ codes "f" ∷ []) 1
unfolding digits tokens_within expression_at parted_by grouped_by mgu_within path_within
account_after_a_reset_row = refl

journal_after_a_reset_row : (done with_each_entry reset).kept.journal ≡ new_journal Three (codes "e" ∷ codes "f" ∷ []) 1
unfolding digits tokens_within expression_at parted_by grouped_by mgu_within path_within
journal_after_a_reset_row = refl

reply_of_a_reset_row : (done with_each_entry reset).reply ≡ was_reset
unfolding digits tokens_within expression_at parted_by grouped_by mgu_within path_within
reply_of_a_reset_row = refl

names_read_back_row : journal_in (written_lines (journal_lines (done with_each_entry reset).kept.journal)) ≡ Some (new_journal Three (codes "e" ∷ codes "f" ∷ []) 1)
unfolding digits tokens_within expression_at parted_by grouped_by mgu_within path_within
names_read_back_row = refl

full_journal_reset_row : (step (after_reset (with_entries 262144 (fresh Three (codes "alice")))) (start 1 0 1 true_term)).reply ≡ opened 1
unfolding digits tokens_within expression_at parted_by grouped_by mgu_within path_within
full_journal_reset_row = refl

full_journal_login_row : (step (with_entries 262144 (fresh Three (codes "alice"))) login).reply ≡ welcome (codes "alice")
unfolding digits tokens_within expression_at parted_by grouped_by mgu_within path_within
full_journal_login_row = refl

names_reset_row : (step (after_reset (with_many_names 1024 (fresh Three (codes "alice")))) (start_of (codes "y"))).reply ≡ refused too_many_names
unfolding digits tokens_within expression_at parted_by grouped_by mgu_within path_within
names_reset_row = refl

names_used_again_row : (step (after_reset (with_many_names 1024 (fresh Three (codes "alice")))) (start_of (codes "x1023"))).reply ≡ opened 1
unfolding digits tokens_within expression_at parted_by grouped_by mgu_within path_within
names_used_again_row = refl

counts_reset_row : (step (after_reset (with_counts 262144 1048576 (fresh Three (codes "alice")))) (start 1 0 1 true_term)).reply ≡ opened 1
unfolding digits tokens_within expression_at parted_by grouped_by mgu_within path_within
counts_reset_row = refl

shoens_reset_row : (step (after_reset (with_last_shoen 1024 (fresh Three (codes "alice")))) (start 1 0 1 true_term)).reply ≡ opened 1
unfolding digits tokens_within expression_at parted_by grouped_by mgu_within path_within
shoens_reset_row = refl

reports_reset_row : stream 1 (step (after_reset (with_reports 65536 (fresh Three (codes "alice")))) (start 1 0 1 true_term)).state ≡ codes "[started|_3]"
unfolding digits tokens_within expression_at parted_by grouped_by mgu_within path_within
reports_reset_row = refl

modules_reset_row : (step (after_reset (with_modules 32 (fresh Three (codes "alice")))) (load no_clauses)).reply ≡ loaded (codes "e")
unfolding digits tokens_within expression_at parted_by grouped_by mgu_within path_within
modules_reset_row = refl

load_line_row : entry_in One (codes "load 3a0a7e") ≡ Some (loads (58 ∷ 10 ∷ 126 ∷ []))
unfolding digits tokens_within expression_at parted_by grouped_by mgu_within path_within
load_line_row = refl

load_line_of_other_letters_row : entry_in One (codes "load g0") ≡ None
unfolding digits tokens_within expression_at parted_by grouped_by mgu_within path_within
load_line_of_other_letters_row = refl

load_line_of_capitals_row : entry_in One (codes "load 3A") ≡ None
unfolding digits tokens_within expression_at parted_by grouped_by mgu_within path_within
load_line_of_capitals_row = refl

load_line_of_three_digits_row : entry_in One (codes "load 3a0") ≡ None
unfolding digits tokens_within expression_at parted_by grouped_by mgu_within path_within
load_line_of_three_digits_row = refl

start_line_row : entry_in One (codes "start 7 0 4095 '='(_1,1)") ≡ Some (starts 7 0 4095 (equals (variable 1) (integer (pos 1))))
unfolding digits tokens_within expression_at parted_by grouped_by mgu_within path_within
start_line_row = refl

start_line_in_another_spelling_row : entry_in One (codes "start 7 0 4095 X = 1") ≡ None
unfolding digits tokens_within expression_at parted_by grouped_by mgu_within path_within
start_line_in_another_spelling_row = refl

allow_line_row : entry_in One (codes "allow 3 9223372036854775807") ≡ Some (sends 3 (Allow 9223372036854775807))
unfolding digits tokens_within expression_at parted_by grouped_by mgu_within path_within
allow_line_row = refl

allow_line_of_64_bits_row : entry_in One (codes "allow 3 9223372036854775808") ≡ None
unfolding digits tokens_within expression_at parted_by grouped_by mgu_within path_within
allow_line_of_64_bits_row = refl

reduce_line_row : entry_in One (codes "reduce 2 0") ≡ Some (steps 2 0)
unfolding digits tokens_within expression_at parted_by grouped_by mgu_within path_within
reduce_line_row = refl

reduce_line_with_a_zero_row : entry_in One (codes "reduce 2 00") ≡ None
unfolding digits tokens_within expression_at parted_by grouped_by mgu_within path_within
reduce_line_with_a_zero_row = refl

reduce_line_with_two_blanks_row : entry_in One (codes "reduce 2  0") ≡ None
unfolding digits tokens_within expression_at parted_by grouped_by mgu_within path_within
reduce_line_with_two_blanks_row = refl

reduce_line_with_a_blank_row : entry_in One (codes "reduce 2 0 ") ≡ None
unfolding digits tokens_within expression_at parted_by grouped_by mgu_within path_within
reduce_line_with_a_blank_row = refl

reduce_line_with_a_return_row : entry_in One (codes "reduce 2 0" ++ 13 ∷ []) ≡ None
unfolding digits tokens_within expression_at parted_by grouped_by mgu_within path_within
reduce_line_with_a_return_row = refl

empty_line_row : entry_in One [] ≡ None
unfolding digits tokens_within expression_at parted_by grouped_by mgu_within path_within
empty_line_row = refl

name_line_row : name_in (codes "name 'it''s'") ≡ Some (codes "it's")
unfolding digits tokens_within expression_at parted_by grouped_by mgu_within path_within
name_line_row = refl

name_line_of_no_bytes_row : name_in (codes "name ''") ≡ Some []
unfolding digits tokens_within expression_at parted_by grouped_by mgu_within path_within
name_line_of_no_bytes_row = refl

name_line_with_other_quotes_row : name_in (codes "name 'e'") ≡ None
unfolding digits tokens_within expression_at parted_by grouped_by mgu_within path_within
name_line_with_other_quotes_row = refl

heading_line_row : heading_in (codes "journal 1 4 1024") ≡ Some (record { rules = One; sessions = 4; names = 1024 })
unfolding digits tokens_within expression_at parted_by grouped_by mgu_within path_within
heading_line_row = refl

heading_line_of_5_sessions_row : heading_in (codes "journal 1 5 0") ≡ None
unfolding digits tokens_within expression_at parted_by grouped_by mgu_within path_within
heading_line_of_5_sessions_row = refl

heading_line_of_1025_names_row : heading_in (codes "journal 1 0 1025") ≡ None
unfolding digits tokens_within expression_at parted_by grouped_by mgu_within path_within
heading_line_of_1025_names_row = refl

events_of_one_row : only 1 deeds ≡ login ∷ logout ∷ logout ∷ []
unfolding digits tokens_within expression_at parted_by grouped_by mgu_within path_within
events_of_one_row = refl

replies_alone_row : (alone alice (only 1 deeds)).replies ≡ welcome (codes "alice") ∷ bye ∷ refused sessions_refused ∷ []
unfolding digits tokens_within expression_at parted_by grouped_by mgu_within path_within
replies_alone_row = refl

replies_of_one_row : replies_at 1 deeds (welcome (codes "bob") ∷ welcome (codes "alice") ∷ bye ∷ was_reset ∷ []) ≡ welcome (codes "alice") ∷ bye ∷ []
unfolding digits tokens_within expression_at parted_by grouped_by mgu_within path_within
replies_of_one_row = refl

-- all of them
pub history_rows_hold : HistoryRowsHold
history_rows_hold = record { fifth_session = fifth_session_row; sessions_closed = sessions_closed_row; session_after_another = session_after_another_row; sessions_of_a_journal = sessions_of_a_journal_row; lines_of_entries = lines_of_entries_row; entries_read_back = entries_read_back_row; numbers_of_the_account = numbers_of_the_account_row; numbers_of_the_replay = numbers_of_the_replay_row; reports_of_the_account = reports_of_the_account_row; reports_of_the_replay = reports_of_the_replay_row; names_of_the_replay = names_of_the_replay_row; sessions_of_the_replay = sessions_of_the_replay_row; page_of_two = page_of_two_row; page_at_the_end = page_at_the_end_row; page_after_the_end = page_after_the_end_row; refused_reduction = refused_reduction_row; journal_of_a_refused_reduction = journal_of_a_refused_reduction_row; queries = queries_row; account_after_a_reset = account_after_a_reset_row; journal_after_a_reset = journal_after_a_reset_row; reply_of_a_reset = reply_of_a_reset_row; names_read_back = names_read_back_row; full_journal_reset = full_journal_reset_row; full_journal_login = full_journal_login_row; names_reset = names_reset_row; names_used_again = names_used_again_row; counts_reset = counts_reset_row; shoens_reset = shoens_reset_row; reports_reset = reports_reset_row; modules_reset = modules_reset_row; load_line = load_line_row; load_line_of_other_letters = load_line_of_other_letters_row; load_line_of_capitals = load_line_of_capitals_row; load_line_of_three_digits = load_line_of_three_digits_row; start_line = start_line_row; start_line_in_another_spelling = start_line_in_another_spelling_row; allow_line = allow_line_row; allow_line_of_64_bits = allow_line_of_64_bits_row; reduce_line = reduce_line_row; reduce_line_with_a_zero = reduce_line_with_a_zero_row; reduce_line_with_two_blanks = reduce_line_with_two_blanks_row; reduce_line_with_a_blank = reduce_line_with_a_blank_row; reduce_line_with_a_return = reduce_line_with_a_return_row; empty_line = empty_line_row; name_line = name_line_row; name_line_of_no_bytes = name_line_of_no_bytes_row; name_line_with_other_quotes = name_line_with_other_quotes_row; heading_line = heading_line_row; heading_line_of_5_sessions = heading_line_of_5_sessions_row; heading_line_of_1025_names = heading_line_of_1025_names_row; events_of_one = events_of_one_row; replies_alone = replies_alone_row; replies_of_one = replies_of_one_row }
