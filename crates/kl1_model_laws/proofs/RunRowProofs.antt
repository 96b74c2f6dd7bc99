-- What accounts of the fourth rules come to, computed from the definitions.
use Rattle.std.specs.Prelude.{◌≡◌, refl, codes, [], ◌∷◌, Some, None}
use Rattle.kl1_model.specs.declared.rules.Rules.TheVariants.{Three, Four}
use Rattle.kl1_model.specs.State.{fresh, fresh_with}
use Rattle.kl1_model.specs.Event.{start, reduce, reset, opened, reduced, refused, step_refused, limit_passed, journal_full}
use Rattle.kl1_model.specs.Step.{step}
use Rattle.kl1_model_server.specs.Journal.{runs, new_journal, replay, done, fresh_kept}
use Rattle.kl1_model_server.specs.JournalText.{journal_lines, page_of, entry_in, heading_in, journal_in}
use Rattle.kl1_model_server.specs.Command.{written_lines}
use Rattle.std.specs.Fmt.{digits}
use Rattle.kl1_model.specs.Unify.{mgu_within}
use Rattle.kl1_model.specs.Tree.{path_within}
use Rattle.kl1_model.specs.Token.{tokens_within}
use Rattle.kl1_model.specs.reader.Reader.{expression_at, parted_by, grouped_by}
use Rattle.kl1_model_laws.specs.AccountRows.{numbers, stream, true_term, with_entries}
use Rattle.kl1_model_laws.specs.ShoenRows.{with_counts, with_reports, with_last_shoen}
use Rattle.kl1_model_laws.specs.HistoryRows.{kept_after_lines}
use Rattle.kl1_model_laws.specs.RunRows.{by_four, with_each_and_a_run, second_first, counting, RunRowsHold}

lines_of_a_run_row : journal_lines with_each_and_a_run.journal ≡ codes "journal 4 1 0" ∷ codes "load 3a2d206d6f64756c6520652e" ∷ codes "start 9 0 9 ':='(_1,f(_2))" ∷ codes "stop 1" ∷ codes "resume 1" ∷ codes "allow 1 5" ∷ codes "abort 1" ∷ codes "run 4" ∷ []
unfolding digits tokens_within expression_at parted_by grouped_by mgu_within path_within
lines_of_a_run_row = refl

run_reads_back_row : journal_in (written_lines (journal_lines with_each_and_a_run.journal)) ≡ Some with_each_and_a_run.journal
unfolding digits tokens_within expression_at parted_by grouped_by mgu_within path_within
run_reads_back_row = refl

numbers_with_a_run_row : numbers with_each_and_a_run.state ≡ 12 ∷ 2 ∷ 1 ∷ 7 ∷ []
unfolding digits tokens_within expression_at parted_by grouped_by mgu_within path_within
numbers_with_a_run_row = refl

replay_of_a_run_row : numbers (replay (codes "alice") with_each_and_a_run.journal) ≡ 12 ∷ 2 ∷ 1 ∷ 7 ∷ []
unfolding digits tokens_within expression_at parted_by grouped_by mgu_within path_within
replay_of_a_run_row = refl

run_is_counted_row : with_each_and_a_run.state.run ≡ 4
unfolding digits tokens_within expression_at parted_by grouped_by mgu_within path_within
run_is_counted_row = refl

other_entry_ends_a_run_row : (kept_after_lines with_each_and_a_run (codes "start 9 0 9 X = 1" ∷ [])).state.run ≡ 0
unfolding digits tokens_within expression_at parted_by grouped_by mgu_within path_within
other_entry_ends_a_run_row = refl

query_ends_no_run_row : (kept_after_lines with_each_and_a_run (codes "status 1" ∷ codes "login" ∷ [])).state.run ≡ 4
unfolding digits tokens_within expression_at parted_by grouped_by mgu_within path_within
query_ends_no_run_row = refl

reset_ends_a_run_row : (done with_each_and_a_run reset).kept ≡ record { state = fresh_with Four (codes "alice") (codes "e" ∷ codes "f" ∷ []) 1; journal = new_journal Four (codes "e" ∷ codes "f" ∷ []) 1 }
unfolding digits tokens_within expression_at parted_by grouped_by mgu_within path_within
reset_ends_a_run_row = refl

second_goal_in_no_run_row : page_of (second_first by_four).journal 4 64 ≡ codes "reduce 4 0" ∷ codes "run 1" ∷ []
unfolding digits tokens_within expression_at parted_by grouped_by mgu_within path_within
second_goal_in_no_run_row = refl

older_rules_have_no_runs_row : page_of (second_first (fresh_kept Three (codes "alice"))).journal 4 64 ≡ codes "reduce 4 0" ∷ codes "reduce 2 0" ∷ []
unfolding digits tokens_within expression_at parted_by grouped_by mgu_within path_within
older_rules_have_no_runs_row = refl

full_journal_begins_no_run_row : (step (counting 16777216 0) (reduce 2 0)).reply ≡ refused journal_full
unfolding digits tokens_within expression_at parted_by grouped_by mgu_within path_within
full_journal_begins_no_run_row = refl

full_journal_goes_on_row : (step (counting 16777216 3) (reduce 2 0)).reply ≡ reduced
unfolding digits tokens_within expression_at parted_by grouped_by mgu_within path_within
full_journal_goes_on_row = refl

run_goes_on_row : (step (counting 16777216 3) (reduce 2 0)).state.run ≡ 4
unfolding digits tokens_within expression_at parted_by grouped_by mgu_within path_within
run_goes_on_row = refl

run_takes_no_entry_row : (step (counting 16777216 3) (reduce 2 0)).state.entries ≡ 16777216
unfolding digits tokens_within expression_at parted_by grouped_by mgu_within path_within
run_takes_no_entry_row = refl

longest_run_in_a_full_journal_row : (step (counting 16777216 4294967295) (reduce 2 0)).reply ≡ refused journal_full
unfolding digits tokens_within expression_at parted_by grouped_by mgu_within path_within
longest_run_in_a_full_journal_row = refl

run_after_the_longest_row : (step (counting 7 4294967295) (reduce 2 0)).state.run ≡ 1
unfolding digits tokens_within expression_at parted_by grouped_by mgu_within path_within
run_after_the_longest_row = refl

entry_after_the_longest_row : (step (counting 7 4294967295) (reduce 2 0)).state.entries ≡ 8
unfolding digits tokens_within expression_at parted_by grouped_by mgu_within path_within
entry_after_the_longest_row = refl

goal_that_cannot_step_row : (step (counting 16777216 3) (reduce 1 0)).reply ≡ refused step_refused
unfolding digits tokens_within expression_at parted_by grouped_by mgu_within path_within
goal_that_cannot_step_row = refl

most_variables_row : (step (with_counts 67108862 0 (fresh Four (codes "alice"))) (start 1 0 1 true_term)).reply ≡ opened 1
unfolding digits tokens_within expression_at parted_by grouped_by mgu_within path_within
most_variables_row = refl

too_many_variables_row : (step (with_counts 67108863 0 (fresh Four (codes "alice"))) (start 1 0 1 true_term)).reply ≡ refused limit_passed
unfolding digits tokens_within expression_at parted_by grouped_by mgu_within path_within
too_many_variables_row = refl

most_nodes_row : (step (with_counts 0 268435456 (fresh Four (codes "alice"))) (start 1 0 1 true_term)).reply ≡ opened 1
unfolding digits tokens_within expression_at parted_by grouped_by mgu_within path_within
most_nodes_row = refl

too_many_nodes_row : (step (with_counts 0 268435457 (fresh Four (codes "alice"))) (start 1 0 1 true_term)).reply ≡ refused limit_passed
unfolding digits tokens_within expression_at parted_by grouped_by mgu_within path_within
too_many_nodes_row = refl

most_shoens_row : (step (with_last_shoen 1048575 (fresh Four (codes "alice"))) (start 1 0 1 true_term)).reply ≡ opened 1048576
unfolding digits tokens_within expression_at parted_by grouped_by mgu_within path_within
most_shoens_row = refl

too_many_shoens_row : (step (with_last_shoen 1048576 (fresh Four (codes "alice"))) (start 1 0 1 true_term)).reply ≡ refused limit_passed
unfolding digits tokens_within expression_at parted_by grouped_by mgu_within path_within
too_many_shoens_row = refl

most_reports_row : stream 1 (step (with_reports 16777215 (fresh Four (codes "alice"))) (start 1 0 1 true_term)).state ≡ codes "[started|_3]"
unfolding digits tokens_within expression_at parted_by grouped_by mgu_within path_within
most_reports_row = refl

too_many_reports_row : stream 1 (step (with_reports 16777216 (fresh Four (codes "alice"))) (start 1 0 1 true_term)).state ≡ codes "_2"
unfolding digits tokens_within expression_at parted_by grouped_by mgu_within path_within
too_many_reports_row = refl

most_entries_row : (step (with_entries 16777215 (fresh Four (codes "alice"))) (start 1 0 1 true_term)).reply ≡ opened 1
unfolding digits tokens_within expression_at parted_by grouped_by mgu_within path_within
most_entries_row = refl

too_many_entries_row : (step (with_entries 16777216 (fresh Four (codes "alice"))) (start 1 0 1 true_term)).reply ≡ refused journal_full
unfolding digits tokens_within expression_at parted_by grouped_by mgu_within path_within
too_many_entries_row = refl

run_line_row : entry_in Four (codes "run 5") ≡ Some (runs 5)
unfolding digits tokens_within expression_at parted_by grouped_by mgu_within path_within
run_line_row = refl

run_line_of_0_row : entry_in Four (codes "run 0") ≡ None
unfolding digits tokens_within expression_at parted_by grouped_by mgu_within path_within
run_line_of_0_row = refl

run_line_with_a_zero_row : entry_in Four (codes "run 05") ≡ None
unfolding digits tokens_within expression_at parted_by grouped_by mgu_within path_within
run_line_with_a_zero_row = refl

run_line_without_a_number_row : entry_in Four (codes "run ") ≡ None
unfolding digits tokens_within expression_at parted_by grouped_by mgu_within path_within
run_line_without_a_number_row = refl

run_line_of_63_bits_row : entry_in Four (codes "run 9223372036854775807") ≡ Some (runs 9223372036854775807)
unfolding digits tokens_within expression_at parted_by grouped_by mgu_within path_within
run_line_of_63_bits_row = refl

run_line_of_64_bits_row : entry_in Four (codes "run 9223372036854775808") ≡ None
unfolding digits tokens_within expression_at parted_by grouped_by mgu_within path_within
run_line_of_64_bits_row = refl

heading_of_four_row : heading_in (codes "journal 4 0 0") ≡ Some (record { rules = Four; sessions = 0; names = 0 })
unfolding digits tokens_within expression_at parted_by grouped_by mgu_within path_within
heading_of_four_row = refl

heading_of_five_row : heading_in (codes "journal 6 0 0") ≡ None
unfolding digits tokens_within expression_at parted_by grouped_by mgu_within path_within
heading_of_five_row = refl

-- all of them
pub run_rows_hold : RunRowsHold
run_rows_hold = record { lines_of_a_run = lines_of_a_run_row; run_reads_back = run_reads_back_row; numbers_with_a_run = numbers_with_a_run_row; replay_of_a_run = replay_of_a_run_row; run_is_counted = run_is_counted_row; other_entry_ends_a_run = other_entry_ends_a_run_row; query_ends_no_run = query_ends_no_run_row; reset_ends_a_run = reset_ends_a_run_row; second_goal_in_no_run = second_goal_in_no_run_row; older_rules_have_no_runs = older_rules_have_no_runs_row; full_journal_begins_no_run = full_journal_begins_no_run_row; full_journal_goes_on = full_journal_goes_on_row; run_goes_on = run_goes_on_row; run_takes_no_entry = run_takes_no_entry_row; longest_run_in_a_full_journal = longest_run_in_a_full_journal_row; run_after_the_longest = run_after_the_longest_row; entry_after_the_longest = entry_after_the_longest_row; goal_that_cannot_step = goal_that_cannot_step_row; most_variables = most_variables_row; too_many_variables = too_many_variables_row; most_nodes = most_nodes_row; too_many_nodes = too_many_nodes_row; most_shoens = most_shoens_row; too_many_shoens = too_many_shoens_row; most_reports = most_reports_row; too_many_reports = too_many_reports_row; most_entries = most_entries_row; too_many_entries = too_many_entries_row; run_line = run_line_row; run_line_of_0 = run_line_of_0_row; run_line_with_a_zero = run_line_with_a_zero_row; run_line_without_a_number = run_line_without_a_number_row; run_line_of_63_bits = run_line_of_63_bits_row; run_line_of_64_bits = run_line_of_64_bits_row; heading_of_four = heading_of_four_row; heading_of_five = heading_of_five_row }
