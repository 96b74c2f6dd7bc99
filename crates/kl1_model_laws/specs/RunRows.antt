-- Rows of the fourth rules: their limits, and runs in journals.
use Rattle.std.specs.Prelude.{◌≡◌, codes, ℕ, [], ◌∷◌, Some, None}
use Rattle.kl1_model.specs.declared.rules.Rules.TheVariants.{Three, Four}
use Rattle.kl1_model.specs.State.{State, fresh, fresh_with}
use Rattle.kl1_model.specs.Event.{load, start, reduce, reset, opened, reduced, refused, step_refused, limit_passed, journal_full}
use Rattle.kl1_model.specs.Step.{step}
use Rattle.kl1_model_server.specs.Journal.{runs, new_journal, replay, Kept, done, fresh_kept}
use Rattle.kl1_model_server.specs.JournalText.{journal_lines, page_of, entry_in, heading_in, journal_in}
use Rattle.kl1_model_server.specs.Command.{written_lines}
use Rattle.kl1_model_laws.specs.AccountRows.{numbers, stream, true_term, with_entries}
use Rattle.kl1_model_laws.specs.ShoenRows.{with_counts, with_reports, with_last_shoen}
use Rattle.kl1_model_laws.specs.HistoryRows.{no_clauses, kept_after_lines}

-- an account that keeps to the fourth rules, in which nothing has happened, with its journal
abbrev pub by_four : Kept
by_four = fresh_kept Four (codes "alice")

-- an account of this kind with each kind of entry in its journal, and an open session
abbrev pub with_each_and_a_run : Kept
with_each_and_a_run = kept_after_lines (done by_four (load no_clauses)).kept (codes "login" ∷ codes "start 9 0 9 X := f(Y)" ∷ codes "stop 1" ∷ codes "resume 1" ∷ codes "allow 1 5" ∷ codes "abort 1" ∷ codes "run 9" ∷ [])

-- an account with two goals that can be reduced, of which the second is reduced first
abbrev pub second_first : Kept → Kept
second_first k = kept_after_lines k (codes "start 9 0 9 X = 1" ∷ codes "start 9 0 9 X = 2" ∷ codes "reduce 4 0" ∷ codes "reduce 2 0" ∷ [])

-- an account of this kind with a goal that can be reduced, whose journal has this number of entries, and this number of reductions in the last
abbrev pub counting : ℕ → ℕ → State
counting entries run = record (kept_after_lines by_four (codes "start 9 0 9 X = 1" ∷ [])).state { entries = entries; run = run }

-- what accounts of the fourth rules come to, and the lines of their journals
pub record RunRowsHold : Type 0 where
  -- the lines of each kind of entry
  pub lines_of_a_run : journal_lines with_each_and_a_run.journal ≡ codes "journal 4 1 0" ∷ codes "load 3a2d206d6f64756c6520652e" ∷ codes "start 9 0 9 ':='(_1,f(_2))" ∷ codes "stop 1" ∷ codes "resume 1" ∷ codes "allow 1 5" ∷ codes "abort 1" ∷ codes "run 4" ∷ []
  -- they read back
  pub run_reads_back : journal_in (written_lines (journal_lines with_each_and_a_run.journal)) ≡ Some with_each_and_a_run.journal
  -- variables, goals, shoens and entries of the account
  pub numbers_with_a_run : numbers with_each_and_a_run.state ≡ 12 ∷ 2 ∷ 1 ∷ 7 ∷ []
  -- the replay of its journal
  pub replay_of_a_run : numbers (replay (codes "alice") with_each_and_a_run.journal) ≡ 12 ∷ 2 ∷ 1 ∷ 7 ∷ []
  -- how many reductions its last run has
  pub run_is_counted : with_each_and_a_run.state.run ≡ 4
  -- a start ends a run
  pub other_entry_ends_a_run : (kept_after_lines with_each_and_a_run (codes "start 9 0 9 X = 1" ∷ [])).state.run ≡ 0
  -- a query ends none
  pub query_ends_no_run : (kept_after_lines with_each_and_a_run (codes "status 1" ∷ codes "login" ∷ [])).state.run ≡ 4
  -- after a reset there is none
  pub reset_ends_a_run : (done with_each_and_a_run reset).kept ≡ record { state = fresh_with Four (codes "alice") (codes "e" ∷ codes "f" ∷ []) 1; journal = new_journal Four (codes "e" ∷ codes "f" ∷ []) 1 }
  -- a reduction that isn't the first is in no run
  pub second_goal_in_no_run : page_of (second_first by_four).journal 4 64 ≡ codes "reduce 4 0" ∷ codes "run 1" ∷ []
  -- by the third rules none is
  pub older_rules_have_no_runs : page_of (second_first (fresh_kept Three (codes "alice"))).journal 4 64 ≡ codes "reduce 4 0" ∷ codes "reduce 2 0" ∷ []
  -- a full journal has no room for a new run
  pub full_journal_begins_no_run : (step (counting 16777216 0) (reduce 2 0)).reply ≡ refused journal_full
  -- but a run that is its last entry goes on
  pub full_journal_goes_on : (step (counting 16777216 3) (reduce 2 0)).reply ≡ reduced
  -- and is longer then
  pub run_goes_on : (step (counting 16777216 3) (reduce 2 0)).state.run ≡ 4
  -- without one entry more
  pub run_takes_no_entry : (step (counting 16777216 3) (reduce 2 0)).state.entries ≡ 16777216
  -- the longest run doesn't go on
  pub longest_run_in_a_full_journal : (step (counting 16777216 4294967295) (reduce 2 0)).reply ≡ refused journal_full
  -- after it a new one begins
  pub run_after_the_longest : (step (counting 7 4294967295) (reduce 2 0)).state.run ≡ 1
  -- which is one entry more
  pub entry_after_the_longest : (step (counting 7 4294967295) (reduce 2 0)).state.entries ≡ 8
  -- a goal that can't be reduced
  pub goal_that_cannot_step : (step (counting 16777216 3) (reduce 1 0)).reply ≡ refused step_refused
  -- 67,108,864 variables
  pub most_variables : (step (with_counts 67108862 0 (fresh Four (codes "alice"))) (start 1 0 1 true_term)).reply ≡ opened 1
  -- one more
  pub too_many_variables : (step (with_counts 67108863 0 (fresh Four (codes "alice"))) (start 1 0 1 true_term)).reply ≡ refused limit_passed
  -- 268,435,456 structures
  pub most_nodes : (step (with_counts 0 268435456 (fresh Four (codes "alice"))) (start 1 0 1 true_term)).reply ≡ opened 1
  -- one more
  pub too_many_nodes : (step (with_counts 0 268435457 (fresh Four (codes "alice"))) (start 1 0 1 true_term)).reply ≡ refused limit_passed
  -- 1,048,576 shoens
  pub most_shoens : (step (with_last_shoen 1048575 (fresh Four (codes "alice"))) (start 1 0 1 true_term)).reply ≡ opened 1048576
  -- one more
  pub too_many_shoens : (step (with_last_shoen 1048576 (fresh Four (codes "alice"))) (start 1 0 1 true_term)).reply ≡ refused limit_passed
  -- 16,777,216 reports
  pub most_reports : stream 1 (step (with_reports 16777215 (fresh Four (codes "alice"))) (start 1 0 1 true_term)).state ≡ codes "[started|_3]"
  -- one more
  pub too_many_reports : stream 1 (step (with_reports 16777216 (fresh Four (codes "alice"))) (start 1 0 1 true_term)).state ≡ codes "_2"
  -- 16,777,216 entries
  pub most_entries : (step (with_entries 16777215 (fresh Four (codes "alice"))) (start 1 0 1 true_term)).reply ≡ opened 1
  -- one more
  pub too_many_entries : (step (with_entries 16777216 (fresh Four (codes "alice"))) (start 1 0 1 true_term)).reply ≡ refused journal_full
  -- the line of a run
  pub run_line : entry_in Four (codes "run 5") ≡ Some (runs 5)
  -- of none
  pub run_line_of_0 : entry_in Four (codes "run 0") ≡ None
  -- a leading zero
  pub run_line_with_a_zero : entry_in Four (codes "run 05") ≡ None
  -- no number
  pub run_line_without_a_number : entry_in Four (codes "run ") ≡ None
  -- the longest
  pub run_line_of_63_bits : entry_in Four (codes "run 9223372036854775807") ≡ Some (runs 9223372036854775807)
  -- one more
  pub run_line_of_64_bits : entry_in Four (codes "run 9223372036854775808") ≡ None
  -- the first line
  pub heading_of_four : heading_in (codes "journal 4 0 0") ≡ Some (record { rules = Four; sessions = 0; names = 0 })
  -- a later version
  pub heading_of_five : heading_in (codes "journal 6 0 0") ≡ None
