-- Rows of substitutes: exceptions, and answers to them, by the second rules.
use Rattle.std.specs.Prelude.{◌≡◌, [], ◌∷◌, codes, Some, None, pos, map, option_map}
use Rattle.kl1_model.specs.declared.rules.Rules.TheVariants.{One, Two, Three}
use Rattle.kl1_model.specs.declared.condition.Condition.TheVariants.{Running}
use Rattle.kl1_model.specs.declared.life.Life.TheVariants.{Terminated}
use Rattle.kl1_model.specs.Term.{variable, integer, atom}
use Rattle.kl1_model.specs.Meaning.{nil, cell}
use Rattle.kl1_model.specs.State.{State, fresh, shoen_at}
use Rattle.kl1_model.specs.Event.{reduce, read, answer, status, reports, sent, status_is, listed, refused, syntax, no_shoen, shoen_ended, too_many_names, limit_passed, journal_full, answer_refused}
use Rattle.kl1_model.specs.Step.{step}
use Rattle.kl1_model_server.specs.Journal.{answers}
use Rattle.kl1_model_server.specs.JournalText.{entry_in, heading_in}
use Rattle.kl1_model_laws.specs.AccountRows.{after_events, after_lines, equals, having, numbers, one_fact, stream, true_term, with_entries}
use Rattle.kl1_model_laws.specs.ShoenRows.{counts, crowded, nothing_done, with_counts, with_many_names, with_reports}

-- an account that keeps to the second rules from now on
abbrev pub by_the_second : State → State
by_the_second s = record s { rules = Two }

-- an account whose only goal fails
abbrev pub with_failing_goal : State
with_failing_goal = after_lines (by_the_second nothing_done) (codes "start 9 0 9 1 = 2" ∷ [])

-- an account whose only goal has failed, and left a substitute
abbrev pub with_substitute : State
with_substitute = after_events with_failing_goal (reduce 2 0 ∷ [])

-- what accounts come to by exceptions and by answers
pub record SubstituteRowsHold : Type 0 where
  -- a failure leaves a substitute, which waits for the variable that its report tells
  pub stream_after_a_failure : stream 1 (after_lines (by_the_second (having one_fact)) (codes "start 10 0 10 t:q(X,c)" ∷ codes "run 10" ∷ [])) ≡ codes "[started,exception(failure,t:q(_1,c),_5)|_6]"
  -- its goal is gone, and the substitute has the next number
  pub goals_after_a_failure : map (λ g. g.number) (after_lines (by_the_second (having one_fact)) (codes "start 10 0 10 t:q(X,c)" ∷ codes "run 10" ∷ [])).goals ≡ 1 ∷ 3 ∷ []
  -- variables, goals, shoens and entries
  pub numbers_after_a_failure : numbers (after_lines (by_the_second (having one_fact)) (codes "start 10 0 10 t:q(X,c)" ∷ codes "run 10" ∷ [])) ≡ 6 ∷ 3 ∷ 1 ∷ 3 ∷ []
  -- a result outside 64 bits
  pub sum_that_overflows : stream 1 (after_lines (by_the_second (fresh One (codes "alice"))) (codes "start 10 0 10 X := 9223372036854775807 + 1" ∷ codes "run 10" ∷ [])) ≡ codes "[started,exception(overflow,':='(_1,'+'(9223372036854775807,1)),_5)|_6]"
  -- one goal more than there may be is an exception, which is charged, and by which no goal is gone
  pub commit_past_the_last_goal : (step (after_events (by_the_second (crowded 8192 8191)) (reduce 2 1 ∷ [])) (read (status 1))).reply ≡ status_is Running 8192 100000 8192
  -- and reported
  pub report_of_a_crowd : (step (after_events (by_the_second (crowded 8192 8191)) (reduce 2 1 ∷ [])) (read (reports 1 2))).reply ≡ listed (codes "exception(exhaustion,r:r,_4)" ∷ [])
  -- the last report of an account leaves a substitute
  pub last_report : stream 1 (after_events (with_reports 65535 with_failing_goal) (reduce 2 0 ∷ [])) ≡ codes "[started,exception(failure,'='(1,2),_4)|_5]"
  -- and one past it leaves none, and numbers none
  pub no_report : numbers (after_events (with_reports 65536 with_failing_goal) (reduce 2 0 ∷ [])) ≡ 3 ∷ 2 ∷ 1 ∷ 2 ∷ []
  -- so that its shoen ends
  pub life_without_a_report : option_map (λ h. h.life) (shoen_at 1 (after_events (with_reports 65536 with_failing_goal) (reduce 2 0 ∷ [])).shoens) ≡ Some Terminated
  -- an answer
  pub answer_is_sent : (step with_substitute (answer 1 2 true_term)).reply ≡ sent
  -- it takes the place of the variable, is an entry more, and numbers no goal
  pub numbers_after_an_answer : numbers (step with_substitute (answer 1 2 (equals (variable 1) (variable 2)))).state ≡ 7 ∷ 3 ∷ 1 ∷ 3 ∷ []
  -- an answer counts the variables of its goal, and all its structures
  pub counts_of_an_answer : counts (step (with_counts 0 0 with_substitute) (answer 1 2 (equals (variable 1) (cell (variable 2) nil)))).state ≡ 2 ∷ 2 ∷ []
  -- an answer to the last variable
  pub answer_of_the_last_variable : (step (with_counts 262142 0 with_substitute) (answer 1 2 (equals (variable 1) (variable 2)))).reply ≡ sent
  -- and one more is too many
  pub answer_past_the_last_variable : (step (with_counts 262143 0 with_substitute) (answer 1 2 (equals (variable 1) (variable 2)))).reply ≡ refused limit_passed
  -- an answer to the last structure
  pub answer_of_the_last_structure : (step (with_counts 0 1048575 with_substitute) (answer 1 2 (equals (variable 1) nil))).reply ≡ sent
  -- and one more is too many
  pub answer_past_the_last_structure : (step (with_counts 0 1048576 with_substitute) (answer 1 2 (equals (variable 1) nil))).reply ≡ refused limit_passed
  -- an answer to the last name
  pub answer_of_the_last_name : (step (with_many_names 1023 with_substitute) (answer 1 2 (equals (variable 1) (atom (codes "new"))))).reply ≡ sent
  -- one past it
  pub answer_past_the_last_name : (step (with_many_names 1024 with_substitute) (answer 1 2 (equals (variable 1) (atom (codes "new"))))).reply ≡ refused too_many_names
  -- a name that the account has used takes none
  pub answer_of_a_known_name : (step (with_many_names 1024 with_substitute) (answer 1 2 (equals (variable 1) (atom (codes "x7"))))).reply ≡ sent
  -- an answer to the last entry
  pub answer_of_the_last_entry : (step (with_entries 262143 with_substitute) (answer 1 2 true_term)).reply ≡ sent
  -- one past it
  pub answer_past_the_last_entry : (step (with_entries 262144 with_substitute) (answer 1 2 true_term)).reply ≡ refused journal_full
  -- 8,192 goals are no limit to an answer
  pub answer_in_a_crowd : (step (after_events (by_the_second (crowded 8192 8191)) (reduce 2 1 ∷ [])) (answer 1 2 true_term)).reply ≡ sent
  -- a shoen that isn't there comes before names
  pub no_shoen_before_names : (step (with_many_names 1024 with_substitute) (answer 2 2 (equals (variable 1) (atom (codes "new"))))).reply ≡ refused no_shoen
  -- names come before limits
  pub names_before_limits : (step (with_many_names 1024 (with_counts 262144 0 with_substitute)) (answer 1 2 (equals (variable 1) (atom (codes "new"))))).reply ≡ refused too_many_names
  -- limits come before the journal
  pub limits_before_the_journal : (step (with_counts 262144 0 (with_entries 262144 with_substitute)) (answer 1 2 (equals (variable 1) nil))).reply ≡ refused limit_passed
  -- the journal comes before the report
  pub journal_before_the_report : (step (with_entries 262144 with_substitute) (answer 1 3 true_term)).reply ≡ refused journal_full
  -- a report that isn't there
  pub answer_to_no_report : (step with_substitute (answer 1 3 true_term)).reply ≡ refused answer_refused
  -- a report that is no exception
  pub answer_to_another_report : (step with_substitute (answer 1 1 true_term)).reply ≡ refused answer_refused
  -- a report that is answered
  pub answer_to_an_answered_report : (step (step with_substitute (answer 1 2 true_term)).state (answer 1 2 true_term)).reply ≡ refused answer_refused
  -- a report 0
  pub answer_to_report_0 : (step with_substitute (answer 1 0 true_term)).reply ≡ refused syntax
  -- variables that aren't in order
  pub answer_of_variables_not_in_order : (step with_substitute (answer 1 2 (equals (variable 2) (variable 1)))).reply ≡ refused syntax
  -- by the first rules an answer is none
  pub answer_by_the_first_rules : (step (after_lines (fresh One (codes "alice")) (codes "start 9 0 9 1 = 2" ∷ codes "run 9" ∷ [])) (answer 1 2 true_term)).reply ≡ refused syntax
  -- a shoen that has ended
  pub answer_to_an_ended_shoen : (step (after_lines with_substitute (codes "abort 1" ∷ codes "run 9" ∷ [])) (answer 1 2 true_term)).reply ≡ refused shoen_ended
  -- which has no goal
  pub goals_after_an_abort : (after_lines with_substitute (codes "abort 1" ∷ codes "run 9" ∷ [])).goals ≡ []
  -- the entry of an answer
  pub answer_line : entry_in Two (codes "answer 1 2 '='(_1,2)") ≡ Some (answers 1 2 (equals (variable 1) (integer (pos 2))))
  -- a goal that is printed otherwise is none
  pub answer_line_in_another_spelling : entry_in Two (codes "answer 1 2 X = 2") ≡ None
  -- a journal of version 2
  pub heading_line : heading_in (codes "journal 2 4 1024") ≡ Some (record { rules = Two; sessions = 4; names = 1024 })
  -- a journal of version 3
  pub heading_line_of_version_3 : heading_in (codes "journal 3 4 1024") ≡ Some (record { rules = Three; sessions = 4; names = 1024 })
  -- a version that there isn't
  pub heading_line_of_version_5 : heading_in (codes "journal 6 0 0") ≡ None
