-- What accounts come to by events, computed from the definitions.
use Rattle.std.specs.Prelude.{◌≡◌, ◌^◌, refl, codes, [], ◌∷◌, Some, None, pos, replicate, true, option_map}
use Rattle.kl1_model.specs.Term.{variable, integer}
use Rattle.kl1_model.specs.Print.{print}
use Rattle.kl1_model.specs.declared.life.Life.TheVariants.{Terminated}
use Rattle.kl1_model.specs.declared.rules.Rules.TheVariants.{One}
use Rattle.kl1_model.specs.State.{fresh, shoen_at}
use Rattle.kl1_model.specs.Event.{load, start, reduce, reduced, ran, quiet_is, refused, syntax, exists, step_refused, journal_full}
use Rattle.kl1_model.specs.Step.{step, origin_at}
use Rattle.kl1_model.specs.Choice.{first, quiet}
use Rattle.kl1_model_server.specs.Command.{run, parse}
use Rattle.std.specs.Fmt.{digits}
use Rattle.kl1_model.specs.Unify.{mgu_within}
use Rattle.kl1_model.specs.Tree.{path_within}
use Rattle.kl1_model.specs.Token.{tokens_within}
use Rattle.kl1_model.specs.reader.Reader.{expression_at, parted_by, grouped_by}
use Rattle.kl1_model_laws.specs.AccountRows.{lines, line_done, command_done, after_events, after_lines, app_text, equals, having, numbers, one_fact, stream, three_goals, true_term, two_ways, with_entries, AccountRowsHold}

numbers_after_a_start_row : numbers (after_lines (having one_fact) (codes "start 10 0 10 t:q(X,c)" ∷ [])) ≡ 4 ∷ 2 ∷ 1 ∷ 2 ∷ []
unfolding digits tokens_within expression_at parted_by grouped_by mgu_within path_within
numbers_after_a_start_row = refl

stream_after_a_start_row : stream 1 (after_lines (having one_fact) (codes "start 10 0 10 t:q(X,c)" ∷ [])) ≡ codes "[started|_4]"
unfolding digits tokens_within expression_at parted_by grouped_by mgu_within path_within
stream_after_a_start_row = refl

stream_after_a_failure_row : stream 1 (after_lines (having one_fact) (codes "start 10 0 10 t:q(X,c)" ∷ codes "run 10" ∷ [])) ≡ codes "[started,exception(failure,t:q(_1,c)),terminated]"
unfolding digits tokens_within expression_at parted_by grouped_by mgu_within path_within
stream_after_a_failure_row = refl

numbers_after_a_failure_row : numbers (after_lines (having one_fact) (codes "start 10 0 10 t:q(X,c)" ∷ codes "run 10" ∷ [])) ≡ 6 ∷ 2 ∷ 1 ∷ 3 ∷ []
unfolding digits tokens_within expression_at parted_by grouped_by mgu_within path_within
numbers_after_a_failure_row = refl

life_after_a_failure_row : option_map (λ h. h.life) (shoen_at 1 (after_lines (having one_fact) (codes "start 10 0 10 t:q(X,c)" ∷ codes "run 10" ∷ [])).shoens) ≡ Some Terminated
unfolding digits tokens_within expression_at parted_by grouped_by mgu_within path_within
life_after_a_failure_row = refl

goals_after_a_failure_row : (after_lines (having one_fact) (codes "start 10 0 10 t:q(X,c)" ∷ codes "run 10" ∷ [])).goals ≡ []
unfolding digits tokens_within expression_at parted_by grouped_by mgu_within path_within
goals_after_a_failure_row = refl

second_stream_row : stream 2 (after_lines (having one_fact) (codes "start 10 0 10 t:q(X,c)" ∷ codes "start 9 1 12 f(X,Y,X) = Z" ∷ codes "run 1" ∷ [])) ≡ codes "[started,terminated]"
unfolding digits tokens_within expression_at parted_by grouped_by mgu_within path_within
second_stream_row = refl

numbers_after_two_starts_row : numbers (after_lines (having one_fact) (codes "start 10 0 10 t:q(X,c)" ∷ codes "start 9 1 7 f(X,Y,X) = Z" ∷ [])) ≡ 10 ∷ 4 ∷ 2 ∷ 3 ∷ []
unfolding digits tokens_within expression_at parted_by grouped_by mgu_within path_within
numbers_after_two_starts_row = refl

append_numbers_row : numbers (after_lines (having app_text) (codes "start 100 0 10 app:app([1],[2],R)" ∷ codes "run 100" ∷ [])) ≡ 6 ∷ 5 ∷ 1 ∷ 6 ∷ []
unfolding digits tokens_within expression_at parted_by grouped_by mgu_within path_within
append_numbers_row = refl

append_by_reductions_row : stream 1 (after_events (after_lines (having app_text) (codes "start 100 0 10 app:app([1],[2],R)" ∷ [])) (reduce 2 2 ∷ reduce 3 0 ∷ reduce 4 1 ∷ reduce 5 0 ∷ [])) ≡ codes "[started,terminated]"
unfolding digits tokens_within expression_at parted_by grouped_by mgu_within path_within
append_by_reductions_row = refl

second_of_two_clauses_row : option_map (λ o. print o.goal) (origin_at 1 (after_events (after_lines (having two_ways) (codes "start 9 0 1 m:m(X,R)" ∷ [])) (reduce 2 2 ∷ reduce 3 0 ∷ [])).shoens) ≡ Some (codes "m:m(_1,two)")
unfolding digits tokens_within expression_at parted_by grouped_by mgu_within path_within
second_of_two_clauses_row = refl

reports_are_bound_later_row : stream 1 (after_lines (having three_goals) (codes "start 9 0 1 t:p" ∷ codes "run 9" ∷ [])) ≡ codes "[started,exception(failure,z:q(1)),exception(failure,'='(f(1),g(1))),terminated]"
unfolding digits tokens_within expression_at parted_by grouped_by mgu_within path_within
reports_are_bound_later_row = refl

reports_before_it_row : stream 1 (after_lines (having three_goals) (codes "start 9 0 1 t:p" ∷ codes "run 3" ∷ [])) ≡ codes "[started,exception(failure,z:q(_4)),exception(failure,'='(f(_4),g(_4)))|_6]"
unfolding digits tokens_within expression_at parted_by grouped_by mgu_within path_within
reports_before_it_row = refl

clause_0_of_a_goal_with_candidates_row : (step (after_lines (having app_text) (codes "start 100 0 10 app:app([1],[2],R)" ∷ [])) (reduce 2 0)).reply ≡ refused step_refused
unfolding digits tokens_within expression_at parted_by grouped_by mgu_within path_within
clause_0_of_a_goal_with_candidates_row = refl

clause_that_rejects_row : (step (after_lines (having app_text) (codes "start 100 0 10 app:app([1],[2],R)" ∷ [])) (reduce 2 1)).reply ≡ refused step_refused
unfolding digits tokens_within expression_at parted_by grouped_by mgu_within path_within
clause_that_rejects_row = refl

clause_that_is_not_there_row : (step (after_lines (having app_text) (codes "start 100 0 10 app:app([1],[2],R)" ∷ [])) (reduce 2 3)).reply ≡ refused step_refused
unfolding digits tokens_within expression_at parted_by grouped_by mgu_within path_within
clause_that_is_not_there_row = refl

monitor_waits_row : (step (after_lines (having app_text) (codes "start 100 0 10 app:app([1],[2],R)" ∷ [])) (reduce 1 0)).reply ≡ refused step_refused
unfolding digits tokens_within expression_at parted_by grouped_by mgu_within path_within
monitor_waits_row = refl

goal_0_row : (step (after_lines (having app_text) (codes "start 100 0 10 app:app([1],[2],R)" ∷ [])) (reduce 0 0)).reply ≡ refused step_refused
unfolding digits tokens_within expression_at parted_by grouped_by mgu_within path_within
goal_0_row = refl

goal_that_is_not_there_row : (step (after_lines (having app_text) (codes "start 100 0 10 app:app([1],[2],R)" ∷ [])) (reduce 99 1)).reply ≡ refused step_refused
unfolding digits tokens_within expression_at parted_by grouped_by mgu_within path_within
goal_that_is_not_there_row = refl

clause_that_waits_row : (step (after_lines (having one_fact) (codes "start 10 0 10 t:q(X,b)" ∷ [])) (reduce 2 1)).reply ≡ refused step_refused
unfolding digits tokens_within expression_at parted_by grouped_by mgu_within path_within
clause_that_waits_row = refl

quiet_where_all_wait_row : quiet (after_lines (having one_fact) (codes "start 10 0 10 t:q(X,b)" ∷ [])) ≡ true
unfolding digits tokens_within expression_at parted_by grouped_by mgu_within path_within
quiet_where_all_wait_row = refl

first_with_its_clause_row : first (after_lines (having app_text) (codes "start 100 0 10 app:app([1],[2],R)" ∷ [])) ≡ Some (record { goal = 2; clause = 2 })
unfolding digits tokens_within expression_at parted_by grouped_by mgu_within path_within
first_with_its_clause_row = refl

first_that_fails_row : first (after_lines (having one_fact) (codes "start 10 0 10 t:q(X,c)" ∷ [])) ≡ Some (record { goal = 2; clause = 0 })
unfolding digits tokens_within expression_at parted_by grouped_by mgu_within path_within
first_that_fails_row = refl

allowance_of_64_bits_row : (step (fresh One (codes "alice")) (start (2 ^ 63) 0 1 true_term)).reply ≡ refused syntax
unfolding digits tokens_within expression_at parted_by grouped_by mgu_within path_within
allowance_of_64_bits_row = refl

low_over_high_row : (step (fresh One (codes "alice")) (start 1 2 1 true_term)).reply ≡ refused syntax
unfolding digits tokens_within expression_at parted_by grouped_by mgu_within path_within
low_over_high_row = refl

variables_not_in_order_row : (step (fresh One (codes "alice")) (start 1 0 1 (equals (variable 2) (variable 1)))).reply ≡ refused syntax
unfolding digits tokens_within expression_at parted_by grouped_by mgu_within path_within
variables_not_in_order_row = refl

variable_0_row : (step (fresh One (codes "alice")) (start 1 0 1 (equals (variable 0) (variable 1)))).reply ≡ refused syntax
unfolding digits tokens_within expression_at parted_by grouped_by mgu_within path_within
variable_0_row = refl

integer_of_65_bits_row : (step (fresh One (codes "alice")) (start 1 0 1 (equals (variable 1) (integer (pos (2 ^ 63)))))).reply ≡ refused syntax
unfolding digits tokens_within expression_at parted_by grouped_by mgu_within path_within
integer_of_65_bits_row = refl

goal_number_of_64_bits_row : (step (fresh One (codes "alice")) (reduce (2 ^ 63) 0)).reply ≡ refused syntax
unfolding digits tokens_within expression_at parted_by grouped_by mgu_within path_within
goal_number_of_64_bits_row = refl

source_of_65537_bytes_row : (step (fresh One (codes "alice")) (load (replicate 65537 32))).reply ≡ refused syntax
unfolding digits tokens_within expression_at parted_by grouped_by mgu_within path_within
source_of_65537_bytes_row = refl

full_journal_load_row : (step (with_entries 262144 (after_lines (having one_fact) (codes "start 10 0 10 t:q(X,c)" ∷ []))) (load app_text)).reply ≡ refused journal_full
unfolding digits tokens_within expression_at parted_by grouped_by mgu_within path_within
full_journal_load_row = refl

full_journal_exists_row : (step (with_entries 262144 (after_lines (having one_fact) (codes "start 10 0 10 t:q(X,c)" ∷ []))) (load one_fact)).reply ≡ refused exists
unfolding digits tokens_within expression_at parted_by grouped_by mgu_within path_within
full_journal_exists_row = refl

full_journal_start_row : (step (with_entries 262144 (after_lines (having one_fact) (codes "start 10 0 10 t:q(X,c)" ∷ []))) (start 1 0 1 true_term)).reply ≡ refused journal_full
unfolding digits tokens_within expression_at parted_by grouped_by mgu_within path_within
full_journal_start_row = refl

full_journal_reduction_row : (step (with_entries 262144 (after_lines (having one_fact) (codes "start 10 0 10 t:q(X,c)" ∷ []))) (reduce 2 0)).reply ≡ refused journal_full
unfolding digits tokens_within expression_at parted_by grouped_by mgu_within path_within
full_journal_reduction_row = refl

full_journal_bad_step_row : (step (with_entries 262144 (after_lines (having one_fact) (codes "start 10 0 10 t:q(X,c)" ∷ []))) (reduce 2 1)).reply ≡ refused step_refused
unfolding digits tokens_within expression_at parted_by grouped_by mgu_within path_within
full_journal_bad_step_row = refl

full_journal_run_row : (command_done (with_entries 262144 (after_lines (having one_fact) (codes "start 10 0 10 t:q(X,c)" ∷ []))) (run 5)).reply ≡ refused journal_full
unfolding digits tokens_within expression_at parted_by grouped_by mgu_within path_within
full_journal_run_row = refl

full_journal_quiet_row : (command_done (with_entries 262144 (after_lines (having one_fact) (codes "start 10 0 10 t:q(X,b)" ∷ []))) (run 5)).reply ≡ ran 0
unfolding digits tokens_within expression_at parted_by grouped_by mgu_within path_within
full_journal_quiet_row = refl

run_to_the_last_entry_row : (command_done (with_entries 262142 (after_lines (having app_text) (codes "start 100 0 10 app:app([1],[2],R)" ∷ []))) (run 5)).reply ≡ ran 2
unfolding digits tokens_within expression_at parted_by grouped_by mgu_within path_within
run_to_the_last_entry_row = refl

names_by_first_use_row : (after_lines (having app_text) (codes "start 1 0 1 f(X,a) = g(f,b)" ∷ [])).names ≡ codes "app" ∷ codes "f" ∷ codes "a" ∷ codes "g" ∷ codes "b" ∷ []
unfolding digits tokens_within expression_at parted_by grouped_by mgu_within path_within
names_by_first_use_row = refl

refused_start_takes_no_names_row : (after_lines (having app_text) (codes "start 1 2 1 f(X,a) = g(f,b)" ∷ [])).names ≡ codes "app" ∷ []
unfolding digits tokens_within expression_at parted_by grouped_by mgu_within path_within
refused_start_takes_no_names_row = refl

sum_that_overflows_row : stream 1 (after_lines (fresh One (codes "alice")) (codes "start 10 0 10 X := 9223372036854775807 + 1" ∷ codes "run 10" ∷ [])) ≡ codes "[started,exception(overflow,':='(_1,'+'(9223372036854775807,1))),terminated]"
unfolding digits tokens_within expression_at parted_by grouped_by mgu_within path_within
sum_that_overflows_row = refl

expression_of_a_wrong_type_row : stream 1 (after_lines (fresh One (codes "alice")) (codes "start 10 0 10 X := a + Y" ∷ codes "run 10" ∷ [])) ≡ codes "[started,exception(illegal_input,':='(_1,'+'(a,_2))),terminated]"
unfolding digits tokens_within expression_at parted_by grouped_by mgu_within path_within
expression_of_a_wrong_type_row = refl

division_by_zero_row : stream 1 (after_lines (fresh One (codes "alice")) (codes "start 10 0 10 X := 1 / 0" ∷ codes "run 10" ∷ [])) ≡ codes "[started,exception(illegal_input,':='(_1,'/'(1,0))),terminated]"
unfolding digits tokens_within expression_at parted_by grouped_by mgu_within path_within
division_by_zero_row = refl

result_that_clashes_row : stream 1 (after_lines (fresh One (codes "alice")) (codes "start 10 0 10 3 := 1 + 1" ∷ codes "run 10" ∷ [])) ≡ codes "[started,exception(failure,':='(3,'+'(1,1))),terminated]"
unfolding digits tokens_within expression_at parted_by grouped_by mgu_within path_within
result_that_clashes_row = refl

result_that_agrees_row : stream 1 (after_lines (fresh One (codes "alice")) (codes "start 10 0 10 2 := 1 + 1" ∷ codes "run 10" ∷ [])) ≡ codes "[started,terminated]"
unfolding digits tokens_within expression_at parted_by grouped_by mgu_within path_within
result_that_agrees_row = refl

result_in_the_goal_row : option_map (λ o. print o.goal) (origin_at 1 (after_lines (fresh One (codes "alice")) (codes "start 10 0 10 X := 2 * 3" ∷ codes "run 10" ∷ [])).shoens) ≡ Some (codes "':='(6,'*'(2,3))")
unfolding digits tokens_within expression_at parted_by grouped_by mgu_within path_within
result_in_the_goal_row = refl

expression_that_waits_row : (line_done (after_lines (fresh One (codes "alice")) (codes "start 10 0 10 X := 1 + Y" ∷ [])) (parse One (codes "quiet"))).reply ≡ quiet_is true
unfolding digits tokens_within expression_at parted_by grouped_by mgu_within path_within
expression_that_waits_row = refl

expression_by_clause_0_row : (line_done (after_lines (fresh One (codes "alice")) (codes "start 10 0 10 X := 1 + Y" ∷ [])) (parse One (codes "reduce 2 0"))).reply ≡ refused step_refused
unfolding digits tokens_within expression_at parted_by grouped_by mgu_within path_within
expression_by_clause_0_row = refl

built_in_goal_by_clause_1_row : (line_done (after_lines (fresh One (codes "alice")) (codes "start 10 0 10 X := 1 + 1" ∷ [])) (parse One (codes "reduce 2 1"))).reply ≡ refused step_refused
unfolding digits tokens_within expression_at parted_by grouped_by mgu_within path_within
built_in_goal_by_clause_1_row = refl

built_in_goal_by_clause_0_row : (line_done (after_lines (fresh One (codes "alice")) (codes "start 10 0 10 X := 1 + 1" ∷ [])) (parse One (codes "reduce 2 0"))).reply ≡ reduced
unfolding digits tokens_within expression_at parted_by grouped_by mgu_within path_within
built_in_goal_by_clause_0_row = refl

clause_below_opens_row : first (after_lines (having (lines (codes ":- module m." ∷ codes "p(f(X),X) :- X > 5 | true." ∷ codes "otherwise." ∷ codes "p(X,Y)." ∷ codes "g :- p(V,1), V = f(W)." ∷ []))) (codes "start 9 0 9 m:g" ∷ codes "run 1" ∷ [])) ≡ Some (record { goal = 3; clause = 2 })
unfolding digits tokens_within expression_at parted_by grouped_by mgu_within path_within
clause_below_opens_row = refl

clause_below_closes_row : first (after_lines (having (lines (codes ":- module m." ∷ codes "p(f(X),X) :- X > 5 | true." ∷ codes "otherwise." ∷ codes "p(X,Y)." ∷ codes "g :- p(V,1), V = f(W)." ∷ []))) (codes "start 9 0 9 m:g" ∷ codes "run 1" ∷ codes "reduce 4 0" ∷ [])) ≡ None
unfolding digits tokens_within expression_at parted_by grouped_by mgu_within path_within
clause_below_closes_row = refl

one_variable_eight_times_row : stream 1 (after_lines (having (lines (codes ":- module m." ∷ codes "p(X,X,X,X,X,X,X,X)." ∷ []))) (codes "start 9 0 9 m:p(A,A,1,A,A,A,A,1)" ∷ codes "run 1" ∷ [])) ≡ codes "[started|_4]"
unfolding digits tokens_within expression_at parted_by grouped_by mgu_within path_within
one_variable_eight_times_row = refl

one_variable_seven_and_one_row : stream 1 (after_lines (having (lines (codes ":- module m." ∷ codes "p(X,X,X,X,X,X,X,X)." ∷ []))) (codes "start 9 0 9 m:p(A,A,1,A,A,A,A,2)" ∷ codes "run 1" ∷ [])) ≡ codes "[started,exception(failure,m:p(_1,_1,1,_1,_1,_1,_1,2)),terminated]"
unfolding digits tokens_within expression_at parted_by grouped_by mgu_within path_within
one_variable_seven_and_one_row = refl

failure_is_open_row : (line_done (after_lines (having (lines (codes ":- module m." ∷ codes "p(f(X),X) :- X > 5 | true." ∷ codes "g :- p(V,1), V = f(W)." ∷ []))) (codes "start 9 0 9 m:g" ∷ codes "run 1" ∷ [])) (parse One (codes "reduce 3 0"))).reply ≡ reduced
unfolding digits tokens_within expression_at parted_by grouped_by mgu_within path_within
failure_is_open_row = refl

failure_closes_row : (line_done (after_lines (having (lines (codes ":- module m." ∷ codes "p(f(X),X) :- X > 5 | true." ∷ codes "g :- p(V,1), V = f(W)." ∷ []))) (codes "start 9 0 9 m:g" ∷ codes "run 1" ∷ codes "reduce 4 0" ∷ [])) (parse One (codes "reduce 3 0"))).reply ≡ refused step_refused
unfolding digits tokens_within expression_at parted_by grouped_by mgu_within path_within
failure_closes_row = refl

clause_below_opens_by_number_row : (line_done (after_lines (having (lines (codes ":- module m." ∷ codes "p(f(X),X) :- X > 5 | true." ∷ codes "otherwise." ∷ codes "p(X,Y)." ∷ codes "g :- p(V,1), V = f(W)." ∷ []))) (codes "start 9 0 9 m:g" ∷ codes "run 1" ∷ [])) (parse One (codes "reduce 3 2"))).reply ≡ reduced
unfolding digits tokens_within expression_at parted_by grouped_by mgu_within path_within
clause_below_opens_by_number_row = refl

clause_below_closes_by_number_row : (line_done (after_lines (having (lines (codes ":- module m." ∷ codes "p(f(X),X) :- X > 5 | true." ∷ codes "otherwise." ∷ codes "p(X,Y)." ∷ codes "g :- p(V,1), V = f(W)." ∷ []))) (codes "start 9 0 9 m:g" ∷ codes "run 1" ∷ codes "reduce 4 0" ∷ [])) (parse One (codes "reduce 3 2"))).reply ≡ refused step_refused
unfolding digits tokens_within expression_at parted_by grouped_by mgu_within path_within
clause_below_closes_by_number_row = refl

second_section_waits_row : (line_done (after_lines (having (lines (codes ":- module m." ∷ codes "p(a,X)." ∷ codes "otherwise." ∷ codes "p(X,b)." ∷ codes "otherwise." ∷ codes "p(X,Y)." ∷ []))) (codes "start 9 0 9 m:p(c,V)" ∷ [])) (parse One (codes "quiet"))).reply ≡ quiet_is true
unfolding digits tokens_within expression_at parted_by grouped_by mgu_within path_within
second_section_waits_row = refl

third_section_is_closed_row : (line_done (after_lines (having (lines (codes ":- module m." ∷ codes "p(a,X)." ∷ codes "otherwise." ∷ codes "p(X,b)." ∷ codes "otherwise." ∷ codes "p(X,Y)." ∷ []))) (codes "start 9 0 9 m:p(c,V)" ∷ [])) (parse One (codes "reduce 2 3"))).reply ≡ refused step_refused
unfolding digits tokens_within expression_at parted_by grouped_by mgu_within path_within
third_section_is_closed_row = refl

third_section_is_open_row : (line_done (after_lines (having (lines (codes ":- module m." ∷ codes "p(a,X)." ∷ codes "otherwise." ∷ codes "p(X,b)." ∷ codes "otherwise." ∷ codes "p(X,Y)." ∷ []))) (codes "start 9 0 9 m:p(c,d)" ∷ [])) (parse One (codes "reduce 2 3"))).reply ≡ reduced
unfolding digits tokens_within expression_at parted_by grouped_by mgu_within path_within
third_section_is_open_row = refl

clause_0_of_a_goal_that_waits_row : (line_done (after_lines (having one_fact) (codes "start 10 0 10 t:q(X,b)" ∷ [])) (parse One (codes "reduce 2 0"))).reply ≡ refused step_refused
unfolding digits tokens_within expression_at parted_by grouped_by mgu_within path_within
clause_0_of_a_goal_that_waits_row = refl

variable_in_its_own_expression_row : (line_done (after_lines (fresh One (codes "alice")) (codes "start 10 0 10 X := X + 1" ∷ [])) (parse One (codes "quiet"))).reply ≡ quiet_is true
unfolding digits tokens_within expression_at parted_by grouped_by mgu_within path_within
variable_in_its_own_expression_row = refl

equation_of_an_equation_row : stream 1 (after_lines (fresh One (codes "alice")) (codes "start 10 0 10 (a = b) = c" ∷ codes "run 10" ∷ [])) ≡ codes "[started,exception(failure,'='('='(a,b),c)),terminated]"
unfolding digits tokens_within expression_at parted_by grouped_by mgu_within path_within
equation_of_an_equation_row = refl

-- all of them
pub account_rows_hold : AccountRowsHold
account_rows_hold = record { numbers_after_a_start = numbers_after_a_start_row; stream_after_a_start = stream_after_a_start_row; stream_after_a_failure = stream_after_a_failure_row; numbers_after_a_failure = numbers_after_a_failure_row; life_after_a_failure = life_after_a_failure_row; goals_after_a_failure = goals_after_a_failure_row; second_stream = second_stream_row; numbers_after_two_starts = numbers_after_two_starts_row; append_numbers = append_numbers_row; append_by_reductions = append_by_reductions_row; second_of_two_clauses = second_of_two_clauses_row; reports_are_bound_later = reports_are_bound_later_row; reports_before_it = reports_before_it_row; clause_0_of_a_goal_with_candidates = clause_0_of_a_goal_with_candidates_row; clause_that_rejects = clause_that_rejects_row; clause_that_is_not_there = clause_that_is_not_there_row; monitor_waits = monitor_waits_row; goal_0 = goal_0_row; goal_that_is_not_there = goal_that_is_not_there_row; clause_that_waits = clause_that_waits_row; quiet_where_all_wait = quiet_where_all_wait_row; first_with_its_clause = first_with_its_clause_row; first_that_fails = first_that_fails_row; allowance_of_64_bits = allowance_of_64_bits_row; low_over_high = low_over_high_row; variables_not_in_order = variables_not_in_order_row; variable_0 = variable_0_row; integer_of_65_bits = integer_of_65_bits_row; goal_number_of_64_bits = goal_number_of_64_bits_row; source_of_65537_bytes = source_of_65537_bytes_row; full_journal_load = full_journal_load_row; full_journal_exists = full_journal_exists_row; full_journal_start = full_journal_start_row; full_journal_reduction = full_journal_reduction_row; full_journal_bad_step = full_journal_bad_step_row; full_journal_run = full_journal_run_row; full_journal_quiet = full_journal_quiet_row; run_to_the_last_entry = run_to_the_last_entry_row; names_by_first_use = names_by_first_use_row; refused_start_takes_no_names = refused_start_takes_no_names_row; sum_that_overflows = sum_that_overflows_row; expression_of_a_wrong_type = expression_of_a_wrong_type_row; division_by_zero = division_by_zero_row; result_that_clashes = result_that_clashes_row; result_that_agrees = result_that_agrees_row; result_in_the_goal = result_in_the_goal_row; expression_that_waits = expression_that_waits_row; expression_by_clause_0 = expression_by_clause_0_row; built_in_goal_by_clause_1 = built_in_goal_by_clause_1_row; built_in_goal_by_clause_0 = built_in_goal_by_clause_0_row; clause_below_opens = clause_below_opens_row; clause_below_closes = clause_below_closes_row; one_variable_eight_times = one_variable_eight_times_row; one_variable_seven_and_one = one_variable_seven_and_one_row; failure_is_open = failure_is_open_row; failure_closes = failure_closes_row; clause_below_opens_by_number = clause_below_opens_by_number_row; clause_below_closes_by_number = clause_below_closes_by_number_row; second_section_waits = second_section_waits_row; third_section_is_closed = third_section_is_closed_row; third_section_is_open = third_section_is_open_row; clause_0_of_a_goal_that_waits = clause_0_of_a_goal_that_waits_row; variable_in_its_own_expression = variable_in_its_own_expression_row; equation_of_an_equation = equation_of_an_equation_row }
