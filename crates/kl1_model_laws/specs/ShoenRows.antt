-- Rows of shoens: accounts at their limits, and the order of refusals.
use Rattle.std.specs.Prelude.{◌≡◌, ◌^◌, ℕ, zero, suc, codes, List, [], ◌∷◌, ◌++◌, Some, pos, replicate, decimal, length, map}
use Rattle.kl1_model.specs.declared.message.Message.TheVariants.{Stop, Allow}
use Rattle.kl1_model.specs.declared.condition.Condition.TheVariants.{Running}
use Rattle.kl1_model.specs.declared.rules.Rules.TheVariants.{One}
use Rattle.kl1_model.specs.Term.{Term, variable, integer, atom, structure, none, more}
use Rattle.kl1_model.specs.Meaning.{nil, cell, pair}
use Rattle.kl1_model.specs.Print.{print}
use Rattle.kl1_model.specs.State.{monitor, reduces, Goal, Shoen, State, fresh}
use Rattle.kl1_model.specs.Tree.{path, goals_alive}
use Rattle.kl1_model.specs.Event.{Reply, load, start, control, reduce, read, status, reports, loaded, opened, sent, reduced, status_is, listed, refused, syntax, exists, no_shoen, shoen_ended, step_refused, too_many_names, limit_passed, journal_full}
use Rattle.kl1_model.specs.Step.{step}
use Rattle.kl1_model_laws.specs.AccountRows.{after_events, after_lines, equals, having, lines, numbers, stream, true_term, with_entries}

-- an account that is fresh
abbrev pub nothing_done : State
nothing_done = fresh One (codes "alice")

-- an account whose starts, messages and commits had `variables` variables and `nodes` structures
abbrev pub with_counts : ℕ → ℕ → State → State
with_counts variables nodes s = record s { variables = variables; nodes = nodes }

-- an account that has made `n` reports
abbrev pub with_reports : ℕ → State → State
with_reports n s = record s { reports = n }

-- an account that has opened `n` shoens
abbrev pub with_last_shoen : ℕ → State → State
with_last_shoen n s = record s { last_shoen = n }

-- `n` names, each the letter x and a decimal
abbrev pub many_names : ℕ → List (List ℕ)
many_names zero = []
many_names (suc n) = (codes "x" ++ decimal n) ∷ many_names n

-- an account that has used `n` names
abbrev pub with_many_names : ℕ → State → State
with_many_names n s = record s { names = many_names n }

-- an account with `n` modules of names that are used nowhere else
abbrev pub with_modules : ℕ → State → State
with_modules n s = record s { modules = replicate n (record { name = codes "z"; source = []; clauses = [] }) }

-- a module whose only goal makes two of itself
abbrev pub twice_text : List ℕ
twice_text = lines (codes ":- module r." ∷ codes "r :- true | r, r." ∷ [])

-- the goal `r:r`
abbrev pub twice : Term
twice = pair (codes ":") (atom (codes "r")) (atom (codes "r"))

-- goals `r:r` of shoen 1, with the `n` numbers after `last`
abbrev pub twins : ℕ → ℕ → List Goal
twins last zero = []
twins last (suc n) = record { number = suc last; task = reduces twice; shoen = 1; priority = 10 } ∷ twins (suc last) n

-- an account in whose first shoen `goals` goals `r:r` stand beside a monitor, after `done` reductions
abbrev pub crowded : ℕ → ℕ → State
crowded goals done =
    let s = after_lines (having twice_text) (codes "start 100000 0 10 r:r" ∷ []) in
    record s { goals = record { number = 1; task = monitor; shoen = 1; priority = 4096 } ∷ twins 1 goals; work = replicate done 1; last_goal = suc goals }

-- a list of `n` codes of the letter a
abbrev pub letters : ℕ → Term
letters zero = nil
letters (suc n) = cell (integer (pos 97)) (letters n)

-- the goal `atom_from` of a list and a term
abbrev pub from_codes : Term → Term → Term
from_codes l t = pair (codes "atom_from") l t

-- an account that has loaded a module of one clause with a fresh variable and a structure, and started its goal
abbrev pub with_fresh_variable : State
with_fresh_variable = after_lines (having (lines (codes ":- module m." ∷ codes "p :- true | q(f(X))." ∷ []))) (codes "start 9 0 9 m:p" ∷ [])

-- an account whose only goal opens a shoen
abbrev pub with_order : State
with_order = after_lines nothing_done (codes "start 9 0 9 shoen:execute(true,0,1,1,C,R)" ∷ [])

-- an account whose only goal makes a name of two codes
abbrev pub with_codes : State
with_codes = after_lines nothing_done (codes "start 9 0 9 atom_from([104,105],A)" ∷ [])

-- an account with one shoen that has ended, and one whose goal waits
abbrev pub ended_and_waiting : State
ended_and_waiting = after_lines nothing_done (codes "start 9 0 9 true" ∷ codes "run 1" ∷ codes "start 9 0 9 X := Y" ∷ [])

-- a shoen whose report stream at the console is a list of `n` codes
abbrev pub with_long_stream : ℕ → Shoen → Shoen
with_long_stream n h = record h { origin = Some (record { goal = true_term; forgotten = 0; reports = letters n; control = nil }) }

-- an account whose first shoen has made `n` reports
abbrev pub with_many_reports : ℕ → State
with_many_reports n = let s = after_lines nothing_done (codes "start 9 0 9 true" ∷ []) in record s { shoens = map (with_long_stream n) s.shoens }

-- an account whose goal holds a structure and becomes one that holds what it held
abbrev pub with_head_variable : State
with_head_variable = after_lines (having (lines (codes ":- module m." ∷ codes "p(X) :- true | q(X)." ∷ []))) (codes "start 9 0 9 m:p([1,2])" ∷ [])

-- an account whose only goal makes a name of two codes, which name x7
abbrev pub with_known_codes : State
with_known_codes = after_lines nothing_done (codes "start 9 0 9 atom_from([120,55],A)" ∷ [])

-- an account whose only goal makes a name of four codes, which name the built-in stop
abbrev pub with_built_in_codes : State
with_built_in_codes = after_lines nothing_done (codes "start 9 0 9 atom_from([115,116,111,112],A)" ∷ [])

-- how many variables and structures an account's starts, messages and commits had
abbrev pub counts : State → List ℕ
counts s = s.variables ∷ s.nodes ∷ []

-- `text`, `n` times
abbrev pub repeated : ℕ → List ℕ → List ℕ
repeated zero text = []
repeated (suc n) text = text ++ repeated n text

-- a shoen whose report stream at the console has one report, of a goal with a list of 2,000 codes
abbrev pub with_long_report : Shoen → Shoen
with_long_report h =
    let goal = pair (codes ":") (atom (codes "m")) (structure (codes "p") (more (letters 2000) none)) in
    record h { origin = Some (record { goal = true_term; forgotten = 0; reports = cell (pair (codes "exception") (atom (codes "failure")) goal) nil; control = nil }) }

-- an account whose first shoen has made one report that is long
abbrev pub with_one_long_report : State
with_one_long_report = let s = after_lines nothing_done (codes "start 9 0 9 true" ∷ []) in record s { shoens = map with_long_report s.shoens }

-- how many texts a reply lists
abbrev pub lines_listed : Reply → ℕ
lines_listed (listed texts) = length texts
lines_listed _ = 0

-- what accounts come to at their limits
pub record ShoenRowsHold : Type 0 where
  -- a commit that leaves 8,192 goals
  pub commit_to_the_last_goal : goals_alive (step (crowded 8191 100) (reduce 2 1)).state ≡ 8192
  -- 8,192 goals after 8,191 reductions
  pub status_of_a_crowd : (step (crowded 8192 8191) (read (status 1))).reply ≡ status_is Running 8191 100000 8192
  -- one goal more is an exception, which is charged, and by which a goal is gone
  pub commit_past_the_last_goal : (step (after_events (crowded 8192 8191) (reduce 2 1 ∷ [])) (read (status 1))).reply ≡ status_is Running 8192 100000 8191
  -- and reported
  pub report_of_a_crowd : (step (after_events (crowded 8192 8191) (reduce 2 1 ∷ [])) (read (reports 1 2))).reply ≡ listed (codes "exception(exhaustion,r:r)" ∷ [])
  -- a start of the 8,192nd goal
  pub start_of_the_last_goal : (step (crowded 8191 0) (start 1 0 1 true_term)).reply ≡ opened 2
  -- and of one more
  pub start_past_the_last_goal : (step (crowded 8192 0) (start 1 0 1 true_term)).reply ≡ refused limit_passed
  -- a start whose goal has two variables takes four
  pub start_of_the_last_variable : (step (with_counts 262140 0 nothing_done) (start 1 0 1 (equals (variable 1) (variable 2)))).reply ≡ opened 1
  -- which may be too many
  pub start_past_the_last_variable : (step (with_counts 262141 0 nothing_done) (start 1 0 1 (equals (variable 1) (variable 2)))).reply ≡ refused limit_passed
  -- a message takes one
  pub message_of_the_last_variable : (step (with_counts 262143 0 ended_and_waiting) (control 2 Stop)).reply ≡ sent
  -- which may be too many
  pub message_past_the_last_variable : (step (with_counts 262144 0 ended_and_waiting) (control 2 Stop)).reply ≡ refused limit_passed
  -- a commit takes one for each fresh variable
  pub commit_of_the_last_variable : stream 1 (after_events (with_counts 262143 0 with_fresh_variable) (reduce 2 1 ∷ [])) ≡ codes "[started|_3]"
  -- which is an exception if it is too many
  pub commit_past_the_last_variable : stream 1 (after_events (with_counts 262144 0 with_fresh_variable) (reduce 2 1 ∷ [])) ≡ codes "[started,exception(exhaustion,m:p),terminated]"
  -- a commit takes a structure for each in its goals' arguments
  pub commit_of_the_last_structure : stream 1 (after_events (with_counts 0 1048575 with_fresh_variable) (reduce 2 1 ∷ [])) ≡ codes "[started|_3]"
  -- which is an exception if it is too many
  pub commit_past_the_last_structure : stream 1 (after_events (with_counts 0 1048576 with_fresh_variable) (reduce 2 1 ∷ [])) ≡ codes "[started,exception(exhaustion,m:p),terminated]"
  -- so does a start; its goal's outermost structure is none
  pub start_of_the_last_structure : (step (with_counts 0 1048575 nothing_done) (start 1 0 1 (equals (cell (variable 1) nil) nil))).reply ≡ opened 1
  -- and one more is too many
  pub start_past_the_last_structure : (step (with_counts 0 1048576 nothing_done) (start 1 0 1 (equals (cell (variable 1) nil) nil))).reply ≡ refused limit_passed
  -- a message takes one structure
  pub message_of_the_last_structure : (step (with_counts 0 1048575 ended_and_waiting) (control 2 Stop)).reply ≡ sent
  -- `allow` takes two
  pub message_past_the_last_structure : (step (with_counts 0 1048575 ended_and_waiting) (control 2 (Allow 1))).reply ≡ refused limit_passed
  -- the 1,024th shoen
  pub start_of_the_last_shoen : (step (with_last_shoen 1023 nothing_done) (start 1 0 1 true_term)).reply ≡ opened 1024
  -- and one more
  pub start_past_the_last_shoen : (step (with_last_shoen 1024 nothing_done) (start 1 0 1 true_term)).reply ≡ refused limit_passed
  -- for an order it is an exception
  pub order_past_the_last_shoen : stream 1 (after_events (with_last_shoen 1024 with_order) (reduce 2 0 ∷ [])) ≡ codes "[started,exception(exhaustion,shoen:execute(true,0,1,1,_1,_2)),terminated]"
  -- the 1,024th name by a start
  pub start_of_the_last_name : (step (with_many_names 1023 nothing_done) (start 1 0 1 (equals (variable 1) (atom (codes "new"))))).reply ≡ opened 1
  -- and one more
  pub start_past_the_last_name : (step (with_many_names 1024 nothing_done) (start 1 0 1 (equals (variable 1) (atom (codes "new"))))).reply ≡ refused too_many_names
  -- a name that is known is none more
  pub start_of_a_known_name : (step (with_many_names 1024 nothing_done) (start 1 0 1 (equals (variable 1) (atom (codes "x7"))))).reply ≡ opened 1
  -- a load with one name too many
  pub load_past_the_last_name : (step (with_many_names 1024 nothing_done) (load (codes ":- module e."))).reply ≡ refused too_many_names
  -- for `atom_from` it is an exception
  pub codes_past_the_last_name : stream 1 (after_events (with_many_names 1024 with_codes) (reduce 2 0 ∷ [])) ≡ codes "[started,exception(exhaustion,atom_from([104,105],_1)),terminated]"
  -- and the 1,024th is none
  pub codes_of_the_last_name : stream 1 (after_events (with_many_names 1023 with_codes) (reduce 2 0 ∷ [])) ≡ codes "[started,terminated]"
  -- a name stays used even if the unification with it fails
  pub name_of_a_failed_unification : (after_lines nothing_done (codes "start 9 0 9 atom_from([97],b)" ∷ codes "run 1" ∷ [])).names ≡ codes "b" ∷ codes "a" ∷ []
  -- 63 codes spell a name
  pub codes_of_63_cells : stream 1 (after_events nothing_done (start 9 0 9 (from_codes (letters 63) (variable 1)) ∷ reduce 2 0 ∷ [])) ≡ codes "[started,terminated]"
  -- 64 don't
  pub codes_of_64_cells : stream 1 (after_events nothing_done (start 9 0 9 (from_codes (letters 64) (variable 1)) ∷ reduce 2 0 ∷ [])) ≡ codes "[started,exception(illegal_input,atom_from(" ++ print (letters 64) ++ codes ",_1)),terminated]"
  -- the 32nd module
  pub load_of_the_last_module : (step (with_modules 31 nothing_done) (load (codes ":- module e."))).reply ≡ loaded (codes "e")
  -- and one more
  pub load_past_the_last_module : (step (with_modules 32 nothing_done) (load (codes ":- module e."))).reply ≡ refused limit_passed
  -- too many names go before another limit
  pub names_before_limits : (step (with_many_names 1024 (with_modules 32 nothing_done)) (load (codes ":- module e."))).reply ≡ refused too_many_names
  -- and a module that is there before them
  pub exists_before_names : (step (with_many_names 1024 (with_modules 32 nothing_done)) (load (codes ":- module z."))).reply ≡ refused exists
  -- a limit goes before a full journal
  pub limits_before_the_journal : (step (with_entries 262144 (with_modules 32 nothing_done)) (load (codes ":- module e."))).reply ≡ refused limit_passed
  -- a message is an entry
  pub message_to_a_full_journal : (step (with_entries 262144 ended_and_waiting) (control 2 Stop)).reply ≡ refused journal_full
  -- a limit goes before it
  pub message_past_limit_and_journal : (step (with_entries 262144 (with_counts 262144 0 ended_and_waiting)) (control 2 Stop)).reply ≡ refused limit_passed
  -- and that a shoen has ended before a limit
  pub message_to_an_ended_shoen : (step (with_entries 262144 (with_counts 262144 0 ended_and_waiting)) (control 1 Stop)).reply ≡ refused shoen_ended
  -- and that there is none before that
  pub message_to_no_shoen : (step (with_counts 262144 0 ended_and_waiting) (control 3 Stop)).reply ≡ refused no_shoen
  -- a message with a number of 2 ^ 63 is no event
  pub message_of_64_bits : (step ended_and_waiting (control 9 (Allow (2 ^ 63)))).reply ≡ refused syntax
  -- reports are counted from 1
  pub reports_from_0 : (step ended_and_waiting (read (reports 1 0))).reply ≡ refused syntax
  -- a monitor takes clause 0 alone
  pub monitor_by_clause_1 : (step (after_events ended_and_waiting (control 2 Stop ∷ [])) (reduce 3 1)).reply ≡ refused step_refused
  -- by which it reads a message
  pub monitor_by_clause_0 : (step (after_events ended_and_waiting (control 2 Stop ∷ [])) (reduce 3 0)).reply ≡ reduced
  -- which is an entry too
  pub monitor_with_a_full_journal : (step (with_entries 262144 (after_events ended_and_waiting (control 2 Stop ∷ []))) (reduce 3 0)).reply ≡ refused journal_full
  -- a goal of a stopped shoen can't step
  pub goal_of_a_stopped_shoen : (step (after_lines nothing_done (codes "start 9 0 9 true" ∷ codes "stop 1" ∷ codes "run 1" ∷ [])) (reduce 2 0)).reply ≡ refused step_refused
  -- the 65,536th report is made, and the next breaks its stream, which isn't closed
  pub last_report : stream 1 (after_lines (with_reports 65535 nothing_done) (codes "start 10 0 10 true" ∷ codes "run 1" ∷ [])) ≡ codes "[started|_3]"
  -- a report that is dropped takes no number
  pub numbers_after_the_last_report : numbers (after_lines (with_reports 65535 nothing_done) (codes "start 10 0 10 true" ∷ codes "run 1" ∷ [])) ≡ 3 ∷ 2 ∷ 1 ∷ 2 ∷ []
  -- a message takes a number of a variable, and an entry
  pub numbers_after_a_message : numbers (after_events ended_and_waiting (control 2 Stop ∷ [])) ≡ 10 ∷ 4 ∷ 2 ∷ 4 ∷ []
  -- what a monitor reads charges nobody
  pub work_of_a_monitor : (after_lines nothing_done (codes "start 9 0 9 X := Y" ∷ codes "stop 1" ∷ codes "run 9" ∷ [])).work ≡ []
  -- each other reduction is worked in its own shoen
  pub work_of_nested_shoens : (after_lines nothing_done (codes "start 9 0 9 shoen:execute(true,0,1,1,[foo],R)" ∷ codes "run 9" ∷ [])).work ≡ 2 ∷ 1 ∷ []
  -- a child's path goes on with its parent's
  pub path_of_a_child : path (after_lines nothing_done (codes "start 9 0 9 shoen:execute(true,0,1,1,C,R)" ∷ codes "run 9" ∷ [])).shoens 2 ≡ 2 ∷ 1 ∷ []
  -- a shoen that has reached its allowance reports that before one inside it terminates
  pub exhausted_before_terminations : stream 1 (after_lines (having (lines (codes ":- module s." ∷ codes "s :- true | shoen:execute(true,0,10,1,C,R), X := Y." ∷ []))) (codes "start 3 0 10 s:s" ∷ codes "run 9" ∷ [])) ≡ codes "[started,exhausted|_9]"
  -- and after one inside it that has reached its own
  pub exhausted_after_what_is_inside : stream 1 (after_lines (having twice_text) (codes "start 2 0 10 shoen:execute(r:r,0,10,1,C,R)" ∷ codes "run 9" ∷ [])) ≡ codes "[started,exhausted|_8]"
  -- at most 64 reports are listed
  pub many_reports : lines_listed (step (with_many_reports 70) (read (reports 1 1))).reply ≡ 64
  -- and those from one on
  pub last_of_many_reports : lines_listed (step (with_many_reports 70) (read (reports 1 67))).reply ≡ 4
  -- and none past the last
  pub reports_past_the_last : lines_listed (step (with_many_reports 70) (read (reports 1 71))).reply ≡ 0
  -- a start counts its goal's variables and two more
  pub counts_of_a_start : counts with_fresh_variable ≡ 2 ∷ 0 ∷ []
  -- and the structures in its goal's arguments
  pub counts_of_a_start_with_a_structure : counts (after_events nothing_done (start 1 0 1 (equals (variable 1) (cell (variable 2) nil)) ∷ [])) ≡ 4 ∷ 1 ∷ []
  -- a commit counts its fresh variables and its structures
  pub counts_of_a_commit : counts (after_events with_fresh_variable (reduce 2 1 ∷ [])) ≡ 3 ∷ 1 ∷ []
  -- a message counts one of each
  pub counts_of_a_message : counts (after_events with_fresh_variable (control 1 Stop ∷ [])) ≡ 3 ∷ 1 ∷ []
  -- and `allow` two structures
  pub counts_of_allow : counts (after_events with_fresh_variable (reduce 2 1 ∷ control 1 (Allow 1) ∷ [])) ≡ 4 ∷ 3 ∷ []
  -- neither a variable of the head nor a structure that it stands for counts at a commit
  pub commit_of_head_variables : stream 1 (after_events (with_counts 262144 1048576 with_head_variable) (reduce 2 1 ∷ [])) ≡ codes "[started|_3]"
  -- for a start too, too many names go before another limit
  pub names_before_limits_of_a_start : (step (with_many_names 1024 (crowded 8192 0)) (start 1 0 1 (equals (variable 1) (atom (codes "new"))))).reply ≡ refused too_many_names
  -- and a limit before a full journal
  pub limits_before_the_journal_of_a_start : (step (with_entries 262144 (crowded 8192 0)) (start 1 0 1 true_term)).reply ≡ refused limit_passed
  -- and too many names before both
  pub names_before_all_of_a_start : (step (with_entries 262144 (with_many_names 1024 (crowded 8192 0))) (start 1 0 1 (equals (variable 1) (atom (codes "new"))))).reply ≡ refused too_many_names
  -- codes of a name that is known make none more
  pub codes_of_a_known_name : stream 1 (after_events (with_many_names 1024 with_known_codes) (reduce 2 0 ∷ [])) ≡ codes "[started,terminated]"
  -- nor do codes of a built-in name
  pub codes_of_a_built_in_name : stream 1 (after_events (with_many_names 1024 with_built_in_codes) (reduce 2 0 ∷ [])) ≡ codes "[started,terminated]"
  -- if one report is left, the innermost of two shoens that terminate makes it
  pub innermost_terminates_first : stream 1 (after_lines (with_reports 65533 nothing_done) (codes "start 9 0 9 shoen:execute(true,0,9,5,C,R)" ∷ codes "run 2" ∷ [])) ≡ codes "[started|_5]"
  -- a start that makes the last report can't tell that it is exhausted
  pub last_report_of_a_start : stream 1 (after_lines (with_reports 65535 nothing_done) (codes "start 0 0 9 true" ∷ [])) ≡ codes "[started|_3]"
  -- by which its stream is broken, and nothing takes a number
  pub numbers_after_the_last_report_of_a_start : numbers (after_lines (with_reports 65535 nothing_done) (codes "start 0 0 9 true" ∷ [])) ≡ 3 ∷ 2 ∷ 1 ∷ 1 ∷ []
  -- if none is left, a start's stream is broken from the beginning
  pub no_report_of_a_start : stream 1 (after_lines (with_reports 65536 nothing_done) (codes "start 0 0 9 true" ∷ [])) ≡ codes "_2"
  -- and takes one number less
  pub numbers_without_a_report_of_a_start : numbers (after_lines (with_reports 65536 nothing_done) (codes "start 0 0 9 true" ∷ [])) ≡ 2 ∷ 2 ∷ 1 ∷ 1 ∷ []
  -- a report of more than 4,000 bytes is cut after them
  pub long_report_is_cut : (step with_one_long_report (read (reports 1 1))).reply ≡ listed ((codes "exception(failure,m:p([" ++ repeated 1325 (codes "97,") ++ codes "97...") ∷ [])
