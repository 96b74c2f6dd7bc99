-- The rows of substitutes, computed from the definitions.
use Rattle.std.specs.Prelude.{◌≡◌, [], ◌∷◌, codes, Some, None, pos, map, option_map, refl}
use Rattle.kl1_model.specs.declared.rules.Rules.TheVariants.{One, Two, Three}
use Rattle.kl1_model.specs.declared.condition.Condition.TheVariants.{Running}
use Rattle.kl1_model.specs.declared.life.Life.TheVariants.{Terminated}
use Rattle.kl1_model.specs.Term.{variable, integer, atom}
use Rattle.kl1_model.specs.Meaning.{nil, cell}
use Rattle.kl1_model.specs.State.{fresh, shoen_at}
use Rattle.kl1_model.specs.Event.{reduce, read, answer, status, reports, sent, status_is, listed, refused, syntax, no_shoen, shoen_ended, too_many_names, limit_passed, journal_full, answer_refused}
use Rattle.kl1_model.specs.Step.{step}
use Rattle.kl1_model_server.specs.Journal.{answers}
use Rattle.kl1_model_server.specs.JournalText.{entry_in, heading_in}
use Rattle.std.specs.Fmt.{digits}
use Rattle.kl1_model.specs.Unify.{mgu_within}
use Rattle.kl1_model.specs.Tree.{path_within}
use Rattle.kl1_model.specs.Token.{tokens_within}
use Rattle.kl1_model.specs.reader.Reader.{expression_at, parted_by, grouped_by}
use Rattle.kl1_model_laws.specs.AccountRows.{after_events, after_lines, equals, having, numbers, one_fact, stream, true_term, with_entries}
use Rattle.kl1_model_laws.specs.ShoenRows.{counts, crowded, with_counts, with_many_names, with_reports}
use Rattle.kl1_model_laws.specs.SubstituteRows.{by_the_second, with_failing_goal, with_substitute, SubstituteRowsHold}

stream_after_a_failure_row : stream 1 (after_lines (by_the_second (having one_fact)) (codes "start 10 0 10 t:q(X,c)" ∷ codes "run 10" ∷ [])) ≡ codes "[started,exception(failure,t:q(_1,c),_5)|_6]"
unfolding digits tokens_within expression_at parted_by grouped_by mgu_within path_within
stream_after_a_failure_row = refl

goals_after_a_failure_row : map (λ g. g.number) (after_lines (by_the_second (having one_fact)) (codes "start 10 0 10 t:q(X,c)" ∷ codes "run 10" ∷ [])).goals ≡ 1 ∷ 3 ∷ []
unfolding digits tokens_within expression_at parted_by grouped_by mgu_within path_within
goals_after_a_failure_row = refl

numbers_after_a_failure_row : numbers (after_lines (by_the_second (having one_fact)) (codes "start 10 0 10 t:q(X,c)" ∷ codes "run 10" ∷ [])) ≡ 6 ∷ 3 ∷ 1 ∷ 3 ∷ []
unfolding digits tokens_within expression_at parted_by grouped_by mgu_within path_within
numbers_after_a_failure_row = refl

sum_that_overflows_row : stream 1 (after_lines (by_the_second (fresh One (codes "alice"))) (codes "start 10 0 10 X := 9223372036854775807 + 1" ∷ codes "run 10" ∷ [])) ≡ codes "[started,exception(overflow,':='(_1,'+'(9223372036854775807,1)),_5)|_6]"
unfolding digits tokens_within expression_at parted_by grouped_by mgu_within path_within
sum_that_overflows_row = refl

commit_past_the_last_goal_row : (step (after_events (by_the_second (crowded 8192 8191)) (reduce 2 1 ∷ [])) (read (status 1))).reply ≡ status_is Running 8192 100000 8192
unfolding digits tokens_within expression_at parted_by grouped_by mgu_within path_within
commit_past_the_last_goal_row = refl

report_of_a_crowd_row : (step (after_events (by_the_second (crowded 8192 8191)) (reduce 2 1 ∷ [])) (read (reports 1 2))).reply ≡ listed (codes "exception(exhaustion,r:r,_4)" ∷ [])
unfolding digits tokens_within expression_at parted_by grouped_by mgu_within path_within
report_of_a_crowd_row = refl

last_report_row : stream 1 (after_events (with_reports 65535 with_failing_goal) (reduce 2 0 ∷ [])) ≡ codes "[started,exception(failure,'='(1,2),_4)|_5]"
unfolding digits tokens_within expression_at parted_by grouped_by mgu_within path_within
last_report_row = refl

no_report_row : numbers (after_events (with_reports 65536 with_failing_goal) (reduce 2 0 ∷ [])) ≡ 3 ∷ 2 ∷ 1 ∷ 2 ∷ []
unfolding digits tokens_within expression_at parted_by grouped_by mgu_within path_within
no_report_row = refl

life_without_a_report_row : option_map (λ h. h.life) (shoen_at 1 (after_events (with_reports 65536 with_failing_goal) (reduce 2 0 ∷ [])).shoens) ≡ Some Terminated
unfolding digits tokens_within expression_at parted_by grouped_by mgu_within path_within
life_without_a_report_row = refl

answer_is_sent_row : (step with_substitute (answer 1 2 true_term)).reply ≡ sent
unfolding digits tokens_within expression_at parted_by grouped_by mgu_within path_within
answer_is_sent_row = refl

numbers_after_an_answer_row : numbers (step with_substitute (answer 1 2 (equals (variable 1) (variable 2)))).state ≡ 7 ∷ 3 ∷ 1 ∷ 3 ∷ []
unfolding digits tokens_within expression_at parted_by grouped_by mgu_within path_within
numbers_after_an_answer_row = refl

counts_of_an_answer_row : counts (step (with_counts 0 0 with_substitute) (answer 1 2 (equals (variable 1) (cell (variable 2) nil)))).state ≡ 2 ∷ 2 ∷ []
unfolding digits tokens_within expression_at parted_by grouped_by mgu_within path_within
counts_of_an_answer_row = refl

answer_of_the_last_variable_row : (step (with_counts 262142 0 with_substitute) (answer 1 2 (equals (variable 1) (variable 2)))).reply ≡ sent
unfolding digits tokens_within expression_at parted_by grouped_by mgu_within path_within
answer_of_the_last_variable_row = refl

answer_past_the_last_variable_row : (step (with_counts 262143 0 with_substitute) (answer 1 2 (equals (variable 1) (variable 2)))).reply ≡ refused limit_passed
unfolding digits tokens_within expression_at parted_by grouped_by mgu_within path_within
answer_past_the_last_variable_row = refl

answer_of_the_last_structure_row : (step (with_counts 0 1048575 with_substitute) (answer 1 2 (equals (variable 1) nil))).reply ≡ sent
unfolding digits tokens_within expression_at parted_by grouped_by mgu_within path_within
answer_of_the_last_structure_row = refl

answer_past_the_last_structure_row : (step (with_counts 0 1048576 with_substitute) (answer 1 2 (equals (variable 1) nil))).reply ≡ refused limit_passed
unfolding digits tokens_within expression_at parted_by grouped_by mgu_within path_within
answer_past_the_last_structure_row = refl

answer_of_the_last_name_row : (step (with_many_names 1023 with_substitute) (answer 1 2 (equals (variable 1) (atom (codes "new"))))).reply ≡ sent
unfolding digits tokens_within expression_at parted_by grouped_by mgu_within path_within
answer_of_the_last_name_row = refl

answer_past_the_last_name_row : (step (with_many_names 1024 with_substitute) (answer 1 2 (equals (variable 1) (atom (codes "new"))))).reply ≡ refused too_many_names
unfolding digits tokens_within expression_at parted_by grouped_by mgu_within path_within
answer_past_the_last_name_row = refl

answer_of_a_known_name_row : (step (with_many_names 1024 with_substitute) (answer 1 2 (equals (variable 1) (atom (codes "x7"))))).reply ≡ sent
unfolding digits tokens_within expression_at parted_by grouped_by mgu_within path_within
answer_of_a_known_name_row = refl

answer_of_the_last_entry_row : (step (with_entries 262143 with_substitute) (answer 1 2 true_term)).reply ≡ sent
unfolding digits tokens_within expression_at parted_by grouped_by mgu_within path_within
answer_of_the_last_entry_row = refl

answer_past_the_last_entry_row : (step (with_entries 262144 with_substitute) (answer 1 2 true_term)).reply ≡ refused journal_full
unfolding digits tokens_within expression_at parted_by grouped_by mgu_within path_within
answer_past_the_last_entry_row = refl

answer_in_a_crowd_row : (step (after_events (by_the_second (crowded 8192 8191)) (reduce 2 1 ∷ [])) (answer 1 2 true_term)).reply ≡ sent
unfolding digits tokens_within expression_at parted_by grouped_by mgu_within path_within
answer_in_a_crowd_row = refl

no_shoen_before_names_row : (step (with_many_names 1024 with_substitute) (answer 2 2 (equals (variable 1) (atom (codes "new"))))).reply ≡ refused no_shoen
unfolding digits tokens_within expression_at parted_by grouped_by mgu_within path_within
no_shoen_before_names_row = refl

names_before_limits_row : (step (with_many_names 1024 (with_counts 262144 0 with_substitute)) (answer 1 2 (equals (variable 1) (atom (codes "new"))))).reply ≡ refused too_many_names
unfolding digits tokens_within expression_at parted_by grouped_by mgu_within path_within
names_before_limits_row = refl

limits_before_the_journal_row : (step (with_counts 262144 0 (with_entries 262144 with_substitute)) (answer 1 2 (equals (variable 1) nil))).reply ≡ refused limit_passed
unfolding digits tokens_within expression_at parted_by grouped_by mgu_within path_within
limits_before_the_journal_row = refl

journal_before_the_report_row : (step (with_entries 262144 with_substitute) (answer 1 3 true_term)).reply ≡ refused journal_full
unfolding digits tokens_within expression_at parted_by grouped_by mgu_within path_within
journal_before_the_report_row = refl

answer_to_no_report_row : (step with_substitute (answer 1 3 true_term)).reply ≡ refused answer_refused
unfolding digits tokens_within expression_at parted_by grouped_by mgu_within path_within
answer_to_no_report_row = refl

answer_to_another_report_row : (step with_substitute (answer 1 1 true_term)).reply ≡ refused answer_refused
unfolding digits tokens_within expression_at parted_by grouped_by mgu_within path_within
answer_to_another_report_row = refl

answer_to_an_answered_report_row : (step (step with_substitute (answer 1 2 true_term)).state (answer 1 2 true_term)).reply ≡ refused answer_refused
unfolding digits tokens_within expression_at parted_by grouped_by mgu_within path_within
answer_to_an_answered_report_row = refl

answer_to_report_0_row : (step with_substitute (answer 1 0 true_term)).reply ≡ refused syntax
unfolding digits tokens_within expression_at parted_by grouped_by mgu_within path_within
answer_to_report_0_row = refl

answer_of_variables_not_in_order_row : (step with_substitute (answer 1 2 (equals (variable 2) (variable 1)))).reply ≡ refused syntax
unfolding digits tokens_within expression_at parted_by grouped_by mgu_within path_within
answer_of_variables_not_in_order_row = refl

answer_by_the_first_rules_row : (step (after_lines (fresh One (codes "alice")) (codes "start 9 0 9 1 = 2" ∷ codes "run 9" ∷ [])) (answer 1 2 true_term)).reply ≡ refused syntax
unfolding digits tokens_within expression_at parted_by grouped_by mgu_within path_within
answer_by_the_first_rules_row = refl

answer_to_an_ended_shoen_row : (step (after_lines with_substitute (codes "abort 1" ∷ codes "run 9" ∷ [])) (answer 1 2 true_term)).reply ≡ refused shoen_ended
unfolding digits tokens_within expression_at parted_by grouped_by mgu_within path_within
answer_to_an_ended_shoen_row = refl

goals_after_an_abort_row : (after_lines with_substitute (codes "abort 1" ∷ codes "run 9" ∷ [])).goals ≡ []
unfolding digits tokens_within expression_at parted_by grouped_by mgu_within path_within
goals_after_an_abort_row = refl

answer_line_row : entry_in Two (codes "answer 1 2 '='(_1,2)") ≡ Some (answers 1 2 (equals (variable 1) (integer (pos 2))))
unfolding digits tokens_within expression_at parted_by grouped_by mgu_within path_within
answer_line_row = refl

answer_line_in_another_spelling_row : entry_in Two (codes "answer 1 2 X = 2") ≡ None
unfolding digits tokens_within expression_at parted_by grouped_by mgu_within path_within
answer_line_in_another_spelling_row = refl

heading_line_row : heading_in (codes "journal 2 4 1024") ≡ Some (record { rules = Two; sessions = 4; names = 1024 })
unfolding digits tokens_within expression_at parted_by grouped_by mgu_within path_within
heading_line_row = refl

heading_line_of_version_3_row : heading_in (codes "journal 3 4 1024") ≡ Some (record { rules = Three; sessions = 4; names = 1024 })
unfolding digits tokens_within expression_at parted_by grouped_by mgu_within path_within
heading_line_of_version_3_row = refl

heading_line_of_version_5_row : heading_in (codes "journal 6 0 0") ≡ None
unfolding digits tokens_within expression_at parted_by grouped_by mgu_within path_within
heading_line_of_version_5_row = refl

-- all of them
pub substitute_rows_hold : SubstituteRowsHold
substitute_rows_hold = record { stream_after_a_failure = stream_after_a_failure_row; goals_after_a_failure = goals_after_a_failure_row; numbers_after_a_failure = numbers_after_a_failure_row; sum_that_overflows = sum_that_overflows_row; commit_past_the_last_goal = commit_past_the_last_goal_row; report_of_a_crowd = report_of_a_crowd_row; last_report = last_report_row; no_report = no_report_row; life_without_a_report = life_without_a_report_row; answer_is_sent = answer_is_sent_row; numbers_after_an_answer = numbers_after_an_answer_row; counts_of_an_answer = counts_of_an_answer_row; answer_of_the_last_variable = answer_of_the_last_variable_row; answer_past_the_last_variable = answer_past_the_last_variable_row; answer_of_the_last_structure = answer_of_the_last_structure_row; answer_past_the_last_structure = answer_past_the_last_structure_row; answer_of_the_last_name = answer_of_the_last_name_row; answer_past_the_last_name = answer_past_the_last_name_row; answer_of_a_known_name = answer_of_a_known_name_row; answer_of_the_last_entry = answer_of_the_last_entry_row; answer_past_the_last_entry = answer_past_the_last_entry_row; answer_in_a_crowd = answer_in_a_crowd_row; no_shoen_before_names = no_shoen_before_names_row; names_before_limits = names_before_limits_row; limits_before_the_journal = limits_before_the_journal_row; journal_before_the_report = journal_before_the_report_row; answer_to_no_report = answer_to_no_report_row; answer_to_another_report = answer_to_another_report_row; answer_to_an_answered_report = answer_to_an_answered_report_row; answer_to_report_0 = answer_to_report_0_row; answer_of_variables_not_in_order = answer_of_variables_not_in_order_row; answer_by_the_first_rules = answer_by_the_first_rules_row; answer_to_an_ended_shoen = answer_to_an_ended_shoen_row; goals_after_an_abort = goals_after_an_abort_row; answer_line = answer_line_row; answer_line_in_another_spelling = answer_line_in_another_spelling_row; heading_line = heading_line_row; heading_line_of_version_3 = heading_line_of_version_3_row; heading_line_of_version_5 = heading_line_of_version_5_row }
