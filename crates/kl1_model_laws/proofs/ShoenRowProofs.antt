-- The rows of shoens, computed from the definitions.
use Rattle.std.specs.Prelude.{◌≡◌, ◌^◌, refl, codes, [], ◌∷◌, ◌++◌}
use Rattle.kl1_model.specs.declared.message.Message.TheVariants.{Stop, Allow}
use Rattle.kl1_model.specs.declared.condition.Condition.TheVariants.{Running}
use Rattle.kl1_model.specs.Term.{variable, atom}
use Rattle.kl1_model.specs.Meaning.{nil, cell}
use Rattle.kl1_model.specs.Print.{print}
use Rattle.kl1_model.specs.Tree.{path_within, path, goals_alive}
use Rattle.kl1_model.specs.Event.{load, start, control, reduce, read, status, reports, loaded, opened, sent, reduced, status_is, listed, refused, syntax, exists, no_shoen, shoen_ended, step_refused, too_many_names, limit_passed, journal_full}
use Rattle.kl1_model.specs.Step.{step}
use Rattle.std.specs.Fmt.{digits}
use Rattle.kl1_model.specs.Unify.{mgu_within}
use Rattle.kl1_model.specs.Token.{tokens_within}
use Rattle.kl1_model.specs.reader.Reader.{expression_at, parted_by, grouped_by}
use Rattle.kl1_model_laws.specs.AccountRows.{after_events, after_lines, equals, having, lines, numbers, stream, true_term, with_entries}
use Rattle.kl1_model_laws.specs.ShoenRows.{nothing_done, with_counts, with_reports, with_last_shoen, with_many_names, with_modules, crowded, letters, from_codes, with_fresh_variable, with_order, with_codes, ended_and_waiting, twice_text, with_many_reports, with_head_variable, with_known_codes, with_built_in_codes, counts, repeated, with_one_long_report, lines_listed, ShoenRowsHold}

commit_to_the_last_goal_row : goals_alive (step (crowded 8191 100) (reduce 2 1)).state ≡ 8192
unfolding digits tokens_within expression_at parted_by grouped_by mgu_within path_within
commit_to_the_last_goal_row = refl

status_of_a_crowd_row : (step (crowded 8192 8191) (read (status 1))).reply ≡ status_is Running 8191 100000 8192
unfolding digits tokens_within expression_at parted_by grouped_by mgu_within path_within
status_of_a_crowd_row = refl

commit_past_the_last_goal_row : (step (after_events (crowded 8192 8191) (reduce 2 1 ∷ [])) (read (status 1))).reply ≡ status_is Running 8192 100000 8191
unfolding digits tokens_within expression_at parted_by grouped_by mgu_within path_within
commit_past_the_last_goal_row = refl

report_of_a_crowd_row : (step (after_events (crowded 8192 8191) (reduce 2 1 ∷ [])) (read (reports 1 2))).reply ≡ listed (codes "exception(exhaustion,r:r)" ∷ [])
unfolding digits tokens_within expression_at parted_by grouped_by mgu_within path_within
report_of_a_crowd_row = refl

start_of_the_last_goal_row : (step (crowded 8191 0) (start 1 0 1 true_term)).reply ≡ opened 2
unfolding digits tokens_within expression_at parted_by grouped_by mgu_within path_within
start_of_the_last_goal_row = refl

start_past_the_last_goal_row : (step (crowded 8192 0) (start 1 0 1 true_term)).reply ≡ refused limit_passed
unfolding digits tokens_within expression_at parted_by grouped_by mgu_within path_within
start_past_the_last_goal_row = refl

start_of_the_last_variable_row : (step (with_counts 262140 0 nothing_done) (start 1 0 1 (equals (variable 1) (variable 2)))).reply ≡ opened 1
unfolding digits tokens_within expression_at parted_by grouped_by mgu_within path_within
start_of_the_last_variable_row = refl

start_past_the_last_variable_row : (step (with_counts 262141 0 nothing_done) (start 1 0 1 (equals (variable 1) (variable 2)))).reply ≡ refused limit_passed
unfolding digits tokens_within expression_at parted_by grouped_by mgu_within path_within
start_past_the_last_variable_row = refl

message_of_the_last_variable_row : (step (with_counts 262143 0 ended_and_waiting) (control 2 Stop)).reply ≡ sent
unfolding digits tokens_within expression_at parted_by grouped_by mgu_within path_within
message_of_the_last_variable_row = refl

message_past_the_last_variable_row : (step (with_counts 262144 0 ended_and_waiting) (control 2 Stop)).reply ≡ refused limit_passed
unfolding digits tokens_within expression_at parted_by grouped_by mgu_within path_within
message_past_the_last_variable_row = refl

commit_of_the_last_variable_row : stream 1 (after_events (with_counts 262143 0 with_fresh_variable) (reduce 2 1 ∷ [])) ≡ codes "[started|_3]"
unfolding digits tokens_within expression_at parted_by grouped_by mgu_within path_within
commit_of_the_last_variable_row = refl

commit_past_the_last_variable_row : stream 1 (after_events (with_counts 262144 0 with_fresh_variable) (reduce 2 1 ∷ [])) ≡ codes "[started,exception(exhaustion,m:p),terminated]"
unfolding digits tokens_within expression_at parted_by grouped_by mgu_within path_within
commit_past_the_last_variable_row = refl

commit_of_the_last_structure_row : stream 1 (after_events (with_counts 0 1048575 with_fresh_variable) (reduce 2 1 ∷ [])) ≡ codes "[started|_3]"
unfolding digits tokens_within expression_at parted_by grouped_by mgu_within path_within
commit_of_the_last_structure_row = refl

commit_past_the_last_structure_row : stream 1 (after_events (with_counts 0 1048576 with_fresh_variable) (reduce 2 1 ∷ [])) ≡ codes "[started,exception(exhaustion,m:p),terminated]"
unfolding digits tokens_within expression_at parted_by grouped_by mgu_within path_within
commit_past_the_last_structure_row = refl

start_of_the_last_structure_row : (step (with_counts 0 1048575 nothing_done) (start 1 0 1 (equals (cell (variable 1) nil) nil))).reply ≡ opened 1
unfolding digits tokens_within expression_at parted_by grouped_by mgu_within path_within
start_of_the_last_structure_row = refl

start_past_the_last_structure_row : (step (with_counts 0 1048576 nothing_done) (start 1 0 1 (equals (cell (variable 1) nil) nil))).reply ≡ refused limit_passed
unfolding digits tokens_within expression_at parted_by grouped_by mgu_within path_within
start_past_the_last_structure_row = refl

message_of_the_last_structure_row : (step (with_counts 0 1048575 ended_and_waiting) (control 2 Stop)).reply ≡ sent
unfolding digits tokens_within expression_at parted_by grouped_by mgu_within path_within
message_of_the_last_structure_row = refl

message_past_the_last_structure_row : (step (with_counts 0 1048575 ended_and_waiting) (control 2 (Allow 1))).reply ≡ refused limit_passed
unfolding digits tokens_within expression_at parted_by grouped_by mgu_within path_within
message_past_the_last_structure_row = refl

start_of_the_last_shoen_row : (step (with_last_shoen 1023 nothing_done) (start 1 0 1 true_term)).reply ≡ opened 1024
unfolding digits tokens_within expression_at parted_by grouped_by mgu_within path_within
start_of_the_last_shoen_row = refl

start_past_the_last_shoen_row : (step (with_last_shoen 1024 nothing_done) (start 1 0 1 true_term)).reply ≡ refused limit_passed
unfolding digits tokens_within expression_at parted_by grouped_by mgu_within path_within
start_past_the_last_shoen_row = refl

order_past_the_last_shoen_row : stream 1 (after_events (with_last_shoen 1024 with_order) (reduce 2 0 ∷ [])) ≡ codes "[started,exception(exhaustion,shoen:execute(true,0,1,1,_1,_2)),terminated]"
unfolding digits tokens_within expression_at parted_by grouped_by mgu_within path_within
order_past_the_last_shoen_row = refl

start_of_the_last_name_row : (step (with_many_names 1023 nothing_done) (start 1 0 1 (equals (variable 1) (atom (codes "new"))))).reply ≡ opened 1
unfolding digits tokens_within expression_at parted_by grouped_by mgu_within path_within
start_of_the_last_name_row = refl

start_past_the_last_name_row : (step (with_many_names 1024 nothing_done) (start 1 0 1 (equals (variable 1) (atom (codes "new"))))).reply ≡ refused too_many_names
unfolding digits tokens_within expression_at parted_by grouped_by mgu_within path_within
start_past_the_last_name_row = refl

start_of_a_known_name_row : (step (with_many_names 1024 nothing_done) (start 1 0 1 (equals (variable 1) (atom (codes "x7"))))).reply ≡ opened 1
unfolding digits tokens_within expression_at parted_by grouped_by mgu_within path_within
start_of_a_known_name_row = refl

load_past_the_last_name_row : (step (with_many_names 1024 nothing_done) (load (codes ":- module e."))).reply ≡ refused too_many_names
unfolding digits tokens_within expression_at parted_by grouped_by mgu_within path_within
load_past_the_last_name_row = refl

codes_past_the_last_name_row : stream 1 (after_events (with_many_names 1024 with_codes) (reduce 2 0 ∷ [])) ≡ codes "[started,exception(exhaustion,atom_from([104,105],_1)),terminated]"
unfolding digits tokens_within expression_at parted_by grouped_by mgu_within path_within
codes_past_the_last_name_row = refl

codes_of_the_last_name_row : stream 1 (after_events (with_many_names 1023 with_codes) (reduce 2 0 ∷ [])) ≡ codes "[started,terminated]"
unfolding digits tokens_within expression_at parted_by grouped_by mgu_within path_within
codes_of_the_last_name_row = refl

name_of_a_failed_unification_row : (after_lines nothing_done (codes "start 9 0 9 atom_from([97],b)" ∷ codes "run 1" ∷ [])).names ≡ codes "b" ∷ codes "a" ∷ []
unfolding digits tokens_within expression_at parted_by grouped_by mgu_within path_within
name_of_a_failed_unification_row = refl

codes_of_63_cells_row : stream 1 (after_events nothing_done (start 9 0 9 (from_codes (letters 63) (variable 1)) ∷ reduce 2 0 ∷ [])) ≡ codes "[started,terminated]"
unfolding digits tokens_within expression_at parted_by grouped_by mgu_within path_within
codes_of_63_cells_row = refl

codes_of_64_cells_row : stream 1 (after_events nothing_done (start 9 0 9 (from_codes (letters 64) (variable 1)) ∷ reduce 2 0 ∷ [])) ≡ codes "[started,exception(illegal_input,atom_from(" ++ print (letters 64) ++ codes ",_1)),terminated]"
unfolding digits tokens_within expression_at parted_by grouped_by mgu_within path_within
codes_of_64_cells_row = refl

load_of_the_last_module_row : (step (with_modules 31 nothing_done) (load (codes ":- module e."))).reply ≡ loaded (codes "e")
unfolding digits tokens_within expression_at parted_by grouped_by mgu_within path_within
load_of_the_last_module_row = refl

load_past_the_last_module_row : (step (with_modules 32 nothing_done) (load (codes ":- module e."))).reply ≡ refused limit_passed
unfolding digits tokens_within expression_at parted_by grouped_by mgu_within path_within
load_past_the_last_module_row = refl

names_before_limits_row : (step (with_many_names 1024 (with_modules 32 nothing_done)) (load (codes ":- module e."))).reply ≡ refused too_many_names
unfolding digits tokens_within expression_at parted_by grouped_by mgu_within path_within
names_before_limits_row = refl

exists_before_names_row : (step (with_many_names 1024 (with_modules 32 nothing_done)) (load (codes ":- module z."))).reply ≡ refused exists
unfolding digits tokens_within expression_at parted_by grouped_by mgu_within path_within
exists_before_names_row = refl

limits_before_the_journal_row : (step (with_entries 262144 (with_modules 32 nothing_done)) (load (codes ":- module e."))).reply ≡ refused limit_passed
unfolding digits tokens_within expression_at parted_by grouped_by mgu_within path_within
limits_before_the_journal_row = refl

message_to_a_full_journal_row : (step (with_entries 262144 ended_and_waiting) (control 2 Stop)).reply ≡ refused journal_full
unfolding digits tokens_within expression_at parted_by grouped_by mgu_within path_within
message_to_a_full_journal_row = refl

message_past_limit_and_journal_row : (step (with_entries 262144 (with_counts 262144 0 ended_and_waiting)) (control 2 Stop)).reply ≡ refused limit_passed
unfolding digits tokens_within expression_at parted_by grouped_by mgu_within path_within
message_past_limit_and_journal_row = refl

message_to_an_ended_shoen_row : (step (with_entries 262144 (with_counts 262144 0 ended_and_waiting)) (control 1 Stop)).reply ≡ refused shoen_ended
unfolding digits tokens_within expression_at parted_by grouped_by mgu_within path_within
message_to_an_ended_shoen_row = refl

message_to_no_shoen_row : (step (with_counts 262144 0 ended_and_waiting) (control 3 Stop)).reply ≡ refused no_shoen
unfolding digits tokens_within expression_at parted_by grouped_by mgu_within path_within
message_to_no_shoen_row = refl

message_of_64_bits_row : (step ended_and_waiting (control 9 (Allow (2 ^ 63)))).reply ≡ refused syntax
unfolding digits tokens_within expression_at parted_by grouped_by mgu_within path_within
message_of_64_bits_row = refl

reports_from_0_row : (step ended_and_waiting (read (reports 1 0))).reply ≡ refused syntax
unfolding digits tokens_within expression_at parted_by grouped_by mgu_within path_within
reports_from_0_row = refl

monitor_by_clause_1_row : (step (after_events ended_and_waiting (control 2 Stop ∷ [])) (reduce 3 1)).reply ≡ refused step_refused
unfolding digits tokens_within expression_at parted_by grouped_by mgu_within path_within
monitor_by_clause_1_row = refl

monitor_by_clause_0_row : (step (after_events ended_and_waiting (control 2 Stop ∷ [])) (reduce 3 0)).reply ≡ reduced
unfolding digits tokens_within expression_at parted_by grouped_by mgu_within path_within
monitor_by_clause_0_row = refl

monitor_with_a_full_journal_row : (step (with_entries 262144 (after_events ended_and_waiting (control 2 Stop ∷ []))) (reduce 3 0)).reply ≡ refused journal_full
unfolding digits tokens_within expression_at parted_by grouped_by mgu_within path_within
monitor_with_a_full_journal_row = refl

goal_of_a_stopped_shoen_row : (step (after_lines nothing_done (codes "start 9 0 9 true" ∷ codes "stop 1" ∷ codes "run 1" ∷ [])) (reduce 2 0)).reply ≡ refused step_refused
unfolding digits tokens_within expression_at parted_by grouped_by mgu_within path_within
goal_of_a_stopped_shoen_row = refl

last_report_row : stream 1 (after_lines (with_reports 65535 nothing_done) (codes "start 10 0 10 true" ∷ codes "run 1" ∷ [])) ≡ codes "[started|_3]"
unfolding digits tokens_within expression_at parted_by grouped_by mgu_within path_within
last_report_row = refl

numbers_after_the_last_report_row : numbers (after_lines (with_reports 65535 nothing_done) (codes "start 10 0 10 true" ∷ codes "run 1" ∷ [])) ≡ 3 ∷ 2 ∷ 1 ∷ 2 ∷ []
unfolding digits tokens_within expression_at parted_by grouped_by mgu_within path_within
numbers_after_the_last_report_row = refl

numbers_after_a_message_row : numbers (after_events ended_and_waiting (control 2 Stop ∷ [])) ≡ 10 ∷ 4 ∷ 2 ∷ 4 ∷ []
unfolding digits tokens_within expression_at parted_by grouped_by mgu_within path_within
numbers_after_a_message_row = refl

work_of_a_monitor_row : (after_lines nothing_done (codes "start 9 0 9 X := Y" ∷ codes "stop 1" ∷ codes "run 9" ∷ [])).work ≡ []
unfolding digits tokens_within expression_at parted_by grouped_by mgu_within path_within
work_of_a_monitor_row = refl

work_of_nested_shoens_row : (after_lines nothing_done (codes "start 9 0 9 shoen:execute(true,0,1,1,[foo],R)" ∷ codes "run 9" ∷ [])).work ≡ 2 ∷ 1 ∷ []
unfolding digits tokens_within expression_at parted_by grouped_by mgu_within path_within
work_of_nested_shoens_row = refl

path_of_a_child_row : path (after_lines nothing_done (codes "start 9 0 9 shoen:execute(true,0,1,1,C,R)" ∷ codes "run 9" ∷ [])).shoens 2 ≡ 2 ∷ 1 ∷ []
unfolding digits tokens_within expression_at parted_by grouped_by mgu_within path_within
path_of_a_child_row = refl

exhausted_before_terminations_row : stream 1 (after_lines (having (lines (codes ":- module s." ∷ codes "s :- true | shoen:execute(true,0,10,1,C,R), X := Y." ∷ []))) (codes "start 3 0 10 s:s" ∷ codes "run 9" ∷ [])) ≡ codes "[started,exhausted|_9]"
unfolding digits tokens_within expression_at parted_by grouped_by mgu_within path_within
exhausted_before_terminations_row = refl

exhausted_after_what_is_inside_row : stream 1 (after_lines (having twice_text) (codes "start 2 0 10 shoen:execute(r:r,0,10,1,C,R)" ∷ codes "run 9" ∷ [])) ≡ codes "[started,exhausted|_8]"
unfolding digits tokens_within expression_at parted_by grouped_by mgu_within path_within
exhausted_after_what_is_inside_row = refl

many_reports_row : lines_listed (step (with_many_reports 70) (read (reports 1 1))).reply ≡ 64
unfolding digits tokens_within expression_at parted_by grouped_by mgu_within path_within
many_reports_row = refl

last_of_many_reports_row : lines_listed (step (with_many_reports 70) (read (reports 1 67))).reply ≡ 4
unfolding digits tokens_within expression_at parted_by grouped_by mgu_within path_within
last_of_many_reports_row = refl

reports_past_the_last_row : lines_listed (step (with_many_reports 70) (read (reports 1 71))).reply ≡ 0
unfolding digits tokens_within expression_at parted_by grouped_by mgu_within path_within
reports_past_the_last_row = refl

counts_of_a_start_row : counts with_fresh_variable ≡ 2 ∷ 0 ∷ []
unfolding digits tokens_within expression_at parted_by grouped_by mgu_within path_within
counts_of_a_start_row = refl

counts_of_a_start_with_a_structure_row : counts (after_events nothing_done (start 1 0 1 (equals (variable 1) (cell (variable 2) nil)) ∷ [])) ≡ 4 ∷ 1 ∷ []
unfolding digits tokens_within expression_at parted_by grouped_by mgu_within path_within
counts_of_a_start_with_a_structure_row = refl

counts_of_a_commit_row : counts (after_events with_fresh_variable (reduce 2 1 ∷ [])) ≡ 3 ∷ 1 ∷ []
unfolding digits tokens_within expression_at parted_by grouped_by mgu_within path_within
counts_of_a_commit_row = refl

counts_of_a_message_row : counts (after_events with_fresh_variable (control 1 Stop ∷ [])) ≡ 3 ∷ 1 ∷ []
unfolding digits tokens_within expression_at parted_by grouped_by mgu_within path_within
counts_of_a_message_row = refl

counts_of_allow_row : counts (after_events with_fresh_variable (reduce 2 1 ∷ control 1 (Allow 1) ∷ [])) ≡ 4 ∷ 3 ∷ []
unfolding digits tokens_within expression_at parted_by grouped_by mgu_within path_within
counts_of_allow_row = refl

commit_of_head_variables_row : stream 1 (after_events (with_counts 262144 1048576 with_head_variable) (reduce 2 1 ∷ [])) ≡ codes "[started|_3]"
unfolding digits tokens_within expression_at parted_by grouped_by mgu_within path_within
commit_of_head_variables_row = refl

names_before_limits_of_a_start_row : (step (with_many_names 1024 (crowded 8192 0)) (start 1 0 1 (equals (variable 1) (atom (codes "new"))))).reply ≡ refused too_many_names
unfolding digits tokens_within expression_at parted_by grouped_by mgu_within path_within
names_before_limits_of_a_start_row = refl

limits_before_the_journal_of_a_start_row : (step (with_entries 262144 (crowded 8192 0)) (start 1 0 1 true_term)).reply ≡ refused limit_passed
unfolding digits tokens_within expression_at parted_by grouped_by mgu_within path_within
limits_before_the_journal_of_a_start_row = refl

names_before_all_of_a_start_row : (step (with_entries 262144 (with_many_names 1024 (crowded 8192 0))) (start 1 0 1 (equals (variable 1) (atom (codes "new"))))).reply ≡ refused too_many_names
unfolding digits tokens_within expression_at parted_by grouped_by mgu_within path_within
names_before_all_of_a_start_row = refl

codes_of_a_known_name_row : stream 1 (after_events (with_many_names 1024 with_known_codes) (reduce 2 0 ∷ [])) ≡ codes "[started,terminated]"
unfolding digits tokens_within expression_at parted_by grouped_by mgu_within path_within
codes_of_a_known_name_row = refl

codes_of_a_built_in_name_row : stream 1 (after_events (with_many_names 1024 with_built_in_codes) (reduce 2 0 ∷ [])) ≡ codes "[started,terminated]"
unfolding digits tokens_within expression_at parted_by grouped_by mgu_within path_within
codes_of_a_built_in_name_row = refl

innermost_terminates_first_row : stream 1 (after_lines (with_reports 65533 nothing_done) (codes "start 9 0 9 shoen:execute(true,0,9,5,C,R)" ∷ codes "run 2" ∷ [])) ≡ codes "[started|_5]"
unfolding digits tokens_within expression_at parted_by grouped_by mgu_within path_within
innermost_terminates_first_row = refl

last_report_of_a_start_row : stream 1 (after_lines (with_reports 65535 nothing_done) (codes "start 0 0 9 true" ∷ [])) ≡ codes "[started|_3]"
unfolding digits tokens_within expression_at parted_by grouped_by mgu_within path_within
last_report_of_a_start_row = refl

numbers_after_the_last_report_of_a_start_row : numbers (after_lines (with_reports 65535 nothing_done) (codes "start 0 0 9 true" ∷ [])) ≡ 3 ∷ 2 ∷ 1 ∷ 1 ∷ []
unfolding digits tokens_within expression_at parted_by grouped_by mgu_within path_within
numbers_after_the_last_report_of_a_start_row = refl

no_report_of_a_start_row : stream 1 (after_lines (with_reports 65536 nothing_done) (codes "start 0 0 9 true" ∷ [])) ≡ codes "_2"
unfolding digits tokens_within expression_at parted_by grouped_by mgu_within path_within
no_report_of_a_start_row = refl

numbers_without_a_report_of_a_start_row : numbers (after_lines (with_reports 65536 nothing_done) (codes "start 0 0 9 true" ∷ [])) ≡ 2 ∷ 2 ∷ 1 ∷ 1 ∷ []
unfolding digits tokens_within expression_at parted_by grouped_by mgu_within path_within
numbers_without_a_report_of_a_start_row = refl

long_report_is_cut_row : (step with_one_long_report (read (reports 1 1))).reply ≡ listed ((codes "exception(failure,m:p([" ++ repeated 1325 (codes "97,") ++ codes "97...") ∷ [])
unfolding digits tokens_within expression_at parted_by grouped_by mgu_within path_within
long_report_is_cut_row = refl

-- all of them
pub shoen_rows_hold : ShoenRowsHold
shoen_rows_hold = record { commit_to_the_last_goal = commit_to_the_last_goal_row; status_of_a_crowd = status_of_a_crowd_row; commit_past_the_last_goal = commit_past_the_last_goal_row; report_of_a_crowd = report_of_a_crowd_row; start_of_the_last_goal = start_of_the_last_goal_row; start_past_the_last_goal = start_past_the_last_goal_row; start_of_the_last_variable = start_of_the_last_variable_row; start_past_the_last_variable = start_past_the_last_variable_row; message_of_the_last_variable = message_of_the_last_variable_row; message_past_the_last_variable = message_past_the_last_variable_row; commit_of_the_last_variable = commit_of_the_last_variable_row; commit_past_the_last_variable = commit_past_the_last_variable_row; commit_of_the_last_structure = commit_of_the_last_structure_row; commit_past_the_last_structure = commit_past_the_last_structure_row; start_of_the_last_structure = start_of_the_last_structure_row; start_past_the_last_structure = start_past_the_last_structure_row; message_of_the_last_structure = message_of_the_last_structure_row; message_past_the_last_structure = message_past_the_last_structure_row; start_of_the_last_shoen = start_of_the_last_shoen_row; start_past_the_last_shoen = start_past_the_last_shoen_row; order_past_the_last_shoen = order_past_the_last_shoen_row; start_of_the_last_name = start_of_the_last_name_row; start_past_the_last_name = start_past_the_last_name_row; start_of_a_known_name = start_of_a_known_name_row; load_past_the_last_name = load_past_the_last_name_row; codes_past_the_last_name = codes_past_the_last_name_row; codes_of_the_last_name = codes_of_the_last_name_row; name_of_a_failed_unification = name_of_a_failed_unification_row; codes_of_63_cells = codes_of_63_cells_row; codes_of_64_cells = codes_of_64_cells_row; load_of_the_last_module = load_of_the_last_module_row; load_past_the_last_module = load_past_the_last_module_row; names_before_limits = names_before_limits_row; exists_before_names = exists_before_names_row; limits_before_the_journal = limits_before_the_journal_row; message_to_a_full_journal = message_to_a_full_journal_row; message_past_limit_and_journal = message_past_limit_and_journal_row; message_to_an_ended_shoen = message_to_an_ended_shoen_row; message_to_no_shoen = message_to_no_shoen_row; message_of_64_bits = message_of_64_bits_row; reports_from_0 = reports_from_0_row; monitor_by_clause_1 = monitor_by_clause_1_row; monitor_by_clause_0 = monitor_by_clause_0_row; monitor_with_a_full_journal = monitor_with_a_full_journal_row; goal_of_a_stopped_shoen = goal_of_a_stopped_shoen_row; last_report = last_report_row; numbers_after_the_last_report = numbers_after_the_last_report_row; numbers_after_a_message = numbers_after_a_message_row; work_of_a_monitor = work_of_a_monitor_row; work_of_nested_shoens = work_of_nested_shoens_row; path_of_a_child = path_of_a_child_row; exhausted_before_terminations = exhausted_before_terminations_row; exhausted_after_what_is_inside = exhausted_after_what_is_inside_row; many_reports = many_reports_row; last_of_many_reports = last_of_many_reports_row; reports_past_the_last = reports_past_the_last_row; counts_of_a_start = counts_of_a_start_row; counts_of_a_start_with_a_structure = counts_of_a_start_with_a_structure_row; counts_of_a_commit = counts_of_a_commit_row; counts_of_a_message = counts_of_a_message_row; counts_of_allow = counts_of_allow_row; commit_of_head_variables = commit_of_head_variables_row; names_before_limits_of_a_start = names_before_limits_of_a_start_row; limits_before_the_journal_of_a_start = limits_before_the_journal_of_a_start_row; names_before_all_of_a_start = names_before_all_of_a_start_row; codes_of_a_known_name = codes_of_a_known_name_row; codes_of_a_built_in_name = codes_of_a_built_in_name_row; innermost_terminates_first = innermost_terminates_first_row; last_report_of_a_start = last_report_of_a_start_row; numbers_after_the_last_report_of_a_start = numbers_after_the_last_report_of_a_start_row; no_report_of_a_start = no_report_of_a_start_row; numbers_without_a_report_of_a_start = numbers_without_a_report_of_a_start_row; long_report_is_cut = long_report_is_cut_row }
