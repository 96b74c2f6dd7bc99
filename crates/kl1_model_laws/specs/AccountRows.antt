-- Rows of accounts: what accounts come to by events.
use Rattle.std.specs.Prelude.{◌≡◌, ◌^◌, codes, List, [], ◌∷◌, ◌++◌, Option, Some, None, pos, ℕ, replicate, true, option_map}
use Rattle.kl1_model.specs.Term.{Term, variable, integer, atom, structure, none, more}
use Rattle.kl1_model.specs.Print.{print}
use Rattle.kl1_model.specs.declared.life.Life.TheVariants.{Terminated}
use Rattle.kl1_model.specs.declared.rules.Rules.TheVariants.{One}
use Rattle.kl1_model.specs.State.{State, fresh, shoen_at, Origin}
use Rattle.kl1_model.specs.Event.{Event, load, start, reduce, reduced, ran, quiet_is, refused, syntax, exists, step_refused, journal_full}
use Rattle.kl1_model.specs.Step.{step, origin_at}
use Rattle.kl1_model.specs.Choice.{first, quiet}
use Rattle.kl1_model_server.specs.Journal.{Kept, Done, new_journal}
use Rattle.kl1_model_server.specs.Command.{Command, run, parse, act}
use Rattle.kl1_model_server.specs.Script.{done_by}

-- lines, each ended by a line feed
abbrev pub lines : List (List ℕ) → List ℕ
lines [] = []
lines (l ∷ ls) = l ++ 10 ∷ lines ls

-- a module of the rows that appends lists
abbrev pub app_text : List ℕ
app_text = lines (codes ":- module app." ∷ codes "app([],Y,Z) :- true | Z = Y." ∷ []) ++ codes "app([A|X],Y,Z) :- true | Z = [A|W], app(X,Y,W)."

-- a module with one fact
abbrev pub one_fact : List ℕ
one_fact = lines (codes ":- module t." ∷ codes "q(a,b)." ∷ [])

-- a module with two clauses that accept the same goals
abbrev pub two_ways : List ℕ
two_ways = lines (codes ":- module m." ∷ codes "m(X,R) :- true | R = one." ∷ codes "m(X,R) :- true | R = two." ∷ [])

-- a module with three goals in one body
abbrev pub three_goals : List ℕ
three_goals = lines (codes ":- module t." ∷ codes "p :- true | z:q(X), f(X) = g(X), X = 1." ∷ [])

-- an account that has loaded a text
abbrev pub having : List ℕ → State
having text = (step (fresh One (codes "alice")) (load text)).state

-- an account in this state, with a journal in which nothing stands
abbrev pub with_a_journal : State → Kept
with_a_journal s = record { state = s; journal = new_journal s.rules [] 0 }

-- what a line's command does to an account in this state
abbrev pub line_done : State → Option Command → Done
line_done s c = done_by (with_a_journal s) c

-- what a command does to an account in this state
abbrev pub command_done : State → Command → Done
command_done s c = act (with_a_journal s) c

-- an account after lines of commands
abbrev pub after_lines : State → List (List ℕ) → State
after_lines s [] = s
after_lines s (l ∷ ls) = after_lines (line_done s (parse s.rules l)).kept.state ls

-- an account after events
abbrev pub after_events : State → List Event → State
after_events s [] = s
after_events s (e ∷ es) = after_events (step s e).state es

-- what is printed of a shoen's report stream from its beginning
abbrev pub reports_of : Option Origin → List ℕ
reports_of None = []
reports_of (Some o) = print o.reports

-- what is printed of the report stream of an account's shoen with this number
abbrev pub stream : ℕ → State → List ℕ
stream n s = reports_of (origin_at n s.shoens)

-- the last numbers of a variable, a goal and a shoen, and the count of journal entries
abbrev pub numbers : State → List ℕ
numbers s = s.last_variable ∷ s.last_goal ∷ s.last_shoen ∷ s.entries ∷ []

-- an account whose journal has `n` entries
abbrev pub with_entries : ℕ → State → State
with_entries n s = record s { entries = n }

-- the goal that two terms are equal
abbrev pub equals : Term → Term → Term
equals a b = structure (codes "=") (more a (more b none))

-- the goal `true`
abbrev pub true_term : Term
true_term = atom (codes "true")

-- what accounts come to by events
pub record AccountRowsHold : Type 0 where
  -- a start of a goal with one variable: its variable, two tails, and the tail after its report; monitor and goal
  pub numbers_after_a_start : numbers (after_lines (having one_fact) (codes "start 10 0 10 t:q(X,c)" ∷ [])) ≡ 4 ∷ 2 ∷ 1 ∷ 2 ∷ []
  -- the report stream of a shoen that has opened
  pub stream_after_a_start : stream 1 (after_lines (having one_fact) (codes "start 10 0 10 t:q(X,c)" ∷ [])) ≡ codes "[started|_4]"
  -- a failure ends a shoen that has no other goal, and its stream
  pub stream_after_a_failure : stream 1 (after_lines (having one_fact) (codes "start 10 0 10 t:q(X,c)" ∷ codes "run 10" ∷ [])) ≡ codes "[started,exception(failure,t:q(_1,c)),terminated]"
  -- each report takes a variable, and the end of a stream none
  pub numbers_after_a_failure : numbers (after_lines (having one_fact) (codes "start 10 0 10 t:q(X,c)" ∷ codes "run 10" ∷ [])) ≡ 6 ∷ 2 ∷ 1 ∷ 3 ∷ []
  -- the shoen has ended
  pub life_after_a_failure : option_map (λ h. h.life) (shoen_at 1 (after_lines (having one_fact) (codes "start 10 0 10 t:q(X,c)" ∷ codes "run 10" ∷ [])).shoens) ≡ Some Terminated
  -- its monitor is gone
  pub goals_after_a_failure : (after_lines (having one_fact) (codes "start 10 0 10 t:q(X,c)" ∷ codes "run 10" ∷ [])).goals ≡ []
  -- a second shoen has a stream of its own
  pub second_stream : stream 2 (after_lines (having one_fact) (codes "start 10 0 10 t:q(X,c)" ∷ codes "start 9 1 12 f(X,Y,X) = Z" ∷ codes "run 1" ∷ [])) ≡ codes "[started,terminated]"
  -- two starts
  pub numbers_after_two_starts : numbers (after_lines (having one_fact) (codes "start 10 0 10 t:q(X,c)" ∷ codes "start 9 1 7 f(X,Y,X) = Z" ∷ [])) ≡ 10 ∷ 4 ∷ 2 ∷ 3 ∷ []
  -- six events: a load, a start and four reductions; a fresh variable goes before the last report
  pub append_numbers : numbers (after_lines (having app_text) (codes "start 100 0 10 app:app([1],[2],R)" ∷ codes "run 100" ∷ [])) ≡ 6 ∷ 5 ∷ 1 ∷ 6 ∷ []
  -- those numbers by named reductions
  pub append_by_reductions : stream 1 (after_events (after_lines (having app_text) (codes "start 100 0 10 app:app([1],[2],R)" ∷ [])) (reduce 2 2 ∷ reduce 3 0 ∷ reduce 4 1 ∷ reduce 5 0 ∷ [])) ≡ codes "[started,terminated]"
  -- a named reduction may take another candidate
  pub second_of_two_clauses : option_map (λ o. print o.goal) (origin_at 1 (after_events (after_lines (having two_ways) (codes "start 9 0 1 m:m(X,R)" ∷ [])) (reduce 2 2 ∷ reduce 3 0 ∷ [])).shoens) ≡ Some (codes "m:m(_1,two)")
  -- what is bound later shows in the reports before
  pub reports_are_bound_later : stream 1 (after_lines (having three_goals) (codes "start 9 0 1 t:p" ∷ codes "run 9" ∷ [])) ≡ codes "[started,exception(failure,z:q(1)),exception(failure,'='(f(1),g(1))),terminated]"
  -- and before that they show the variable
  pub reports_before_it : stream 1 (after_lines (having three_goals) (codes "start 9 0 1 t:p" ∷ codes "run 3" ∷ [])) ≡ codes "[started,exception(failure,z:q(_4)),exception(failure,'='(f(_4),g(_4)))|_6]"
  -- clause 0 of a goal that doesn't fail is refused
  pub clause_0_of_a_goal_with_candidates : (step (after_lines (having app_text) (codes "start 100 0 10 app:app([1],[2],R)" ∷ [])) (reduce 2 0)).reply ≡ refused step_refused
  -- a clause that rejects is refused
  pub clause_that_rejects : (step (after_lines (having app_text) (codes "start 100 0 10 app:app([1],[2],R)" ∷ [])) (reduce 2 1)).reply ≡ refused step_refused
  -- a clause over the predicate's is refused
  pub clause_that_is_not_there : (step (after_lines (having app_text) (codes "start 100 0 10 app:app([1],[2],R)" ∷ [])) (reduce 2 3)).reply ≡ refused step_refused
  -- a monitor to which nothing was sent is refused
  pub monitor_waits : (step (after_lines (having app_text) (codes "start 100 0 10 app:app([1],[2],R)" ∷ [])) (reduce 1 0)).reply ≡ refused step_refused
  -- a goal of number 0, which no account has, is refused
  pub goal_0 : (step (after_lines (having app_text) (codes "start 100 0 10 app:app([1],[2],R)" ∷ [])) (reduce 0 0)).reply ≡ refused step_refused
  -- a goal that isn't there is refused
  pub goal_that_is_not_there : (step (after_lines (having app_text) (codes "start 100 0 10 app:app([1],[2],R)" ∷ [])) (reduce 99 1)).reply ≡ refused step_refused
  -- a clause that waits is refused
  pub clause_that_waits : (step (after_lines (having one_fact) (codes "start 10 0 10 t:q(X,b)" ∷ [])) (reduce 2 1)).reply ≡ refused step_refused
  -- an account whose goals wait is quiet
  pub quiet_where_all_wait : quiet (after_lines (having one_fact) (codes "start 10 0 10 t:q(X,b)" ∷ [])) ≡ true
  -- the first goal with its least candidate
  pub first_with_its_clause : first (after_lines (having app_text) (codes "start 100 0 10 app:app([1],[2],R)" ∷ [])) ≡ Some (record { goal = 2; clause = 2 })
  -- a goal that fails steps by clause 0
  pub first_that_fails : first (after_lines (having one_fact) (codes "start 10 0 10 t:q(X,c)" ∷ [])) ≡ Some (record { goal = 2; clause = 0 })
  -- an allowance of 2 ^ 63 is no event
  pub allowance_of_64_bits : (step (fresh One (codes "alice")) (start (2 ^ 63) 0 1 true_term)).reply ≡ refused syntax
  -- a range from high to low is no event
  pub low_over_high : (step (fresh One (codes "alice")) (start 1 2 1 true_term)).reply ≡ refused syntax
  -- a goal whose variables are not numbered by first occurrence is no event
  pub variables_not_in_order : (step (fresh One (codes "alice")) (start 1 0 1 (equals (variable 2) (variable 1)))).reply ≡ refused syntax
  -- a goal with a variable 0 is no event
  pub variable_0 : (step (fresh One (codes "alice")) (start 1 0 1 (equals (variable 0) (variable 1)))).reply ≡ refused syntax
  -- a goal with an integer that is too large is no event
  pub integer_of_65_bits : (step (fresh One (codes "alice")) (start 1 0 1 (equals (variable 1) (integer (pos (2 ^ 63)))))).reply ≡ refused syntax
  -- a goal's number of 2 ^ 63 is no event
  pub goal_number_of_64_bits : (step (fresh One (codes "alice")) (reduce (2 ^ 63) 0)).reply ≡ refused syntax
  -- a source of 65,537 bytes is no event
  pub source_of_65537_bytes : (step (fresh One (codes "alice")) (load (replicate 65537 32))).reply ≡ refused syntax
  -- a full journal refuses a load
  pub full_journal_load : (step (with_entries 262144 (after_lines (having one_fact) (codes "start 10 0 10 t:q(X,c)" ∷ []))) (load app_text)).reply ≡ refused journal_full
  -- and before that a module that is there
  pub full_journal_exists : (step (with_entries 262144 (after_lines (having one_fact) (codes "start 10 0 10 t:q(X,c)" ∷ []))) (load one_fact)).reply ≡ refused exists
  -- a full journal refuses a start
  pub full_journal_start : (step (with_entries 262144 (after_lines (having one_fact) (codes "start 10 0 10 t:q(X,c)" ∷ []))) (start 1 0 1 true_term)).reply ≡ refused journal_full
  -- a full journal refuses a reduction
  pub full_journal_reduction : (step (with_entries 262144 (after_lines (having one_fact) (codes "start 10 0 10 t:q(X,c)" ∷ []))) (reduce 2 0)).reply ≡ refused journal_full
  -- and before that a step that isn't allowed
  pub full_journal_bad_step : (step (with_entries 262144 (after_lines (having one_fact) (codes "start 10 0 10 t:q(X,c)" ∷ []))) (reduce 2 1)).reply ≡ refused step_refused
  -- a full journal refuses a run that has something to do
  pub full_journal_run : (command_done (with_entries 262144 (after_lines (having one_fact) (codes "start 10 0 10 t:q(X,c)" ∷ []))) (run 5)).reply ≡ refused journal_full
  -- a run with nothing to do asks no journal
  pub full_journal_quiet : (command_done (with_entries 262144 (after_lines (having one_fact) (codes "start 10 0 10 t:q(X,b)" ∷ []))) (run 5)).reply ≡ ran 0
  -- a run that the journal stops answers its steps
  pub run_to_the_last_entry : (command_done (with_entries 262142 (after_lines (having app_text) (codes "start 100 0 10 app:app([1],[2],R)" ∷ []))) (run 5)).reply ≡ ran 2
  -- names in the order of first use, without the built-in ones
  pub names_by_first_use : (after_lines (having app_text) (codes "start 1 0 1 f(X,a) = g(f,b)" ∷ [])).names ≡ codes "app" ∷ codes "f" ∷ codes "a" ∷ codes "g" ∷ codes "b" ∷ []
  -- a refused start takes no names
  pub refused_start_takes_no_names : (after_lines (having app_text) (codes "start 1 2 1 f(X,a) = g(f,b)" ∷ [])).names ≡ codes "app" ∷ []
  -- a result outside 64 bits is an exception
  pub sum_that_overflows : stream 1 (after_lines (fresh One (codes "alice")) (codes "start 10 0 10 X := 9223372036854775807 + 1" ∷ codes "run 10" ∷ [])) ≡ codes "[started,exception(overflow,':='(_1,'+'(9223372036854775807,1))),terminated]"
  -- so is an expression of a wrong type
  pub expression_of_a_wrong_type : stream 1 (after_lines (fresh One (codes "alice")) (codes "start 10 0 10 X := a + Y" ∷ codes "run 10" ∷ [])) ≡ codes "[started,exception(illegal_input,':='(_1,'+'(a,_2))),terminated]"
  -- and a zero divisor
  pub division_by_zero : stream 1 (after_lines (fresh One (codes "alice")) (codes "start 10 0 10 X := 1 / 0" ∷ codes "run 10" ∷ [])) ≡ codes "[started,exception(illegal_input,':='(_1,'/'(1,0))),terminated]"
  -- a result is unified, which may fail
  pub result_that_clashes : stream 1 (after_lines (fresh One (codes "alice")) (codes "start 10 0 10 3 := 1 + 1" ∷ codes "run 10" ∷ [])) ≡ codes "[started,exception(failure,':='(3,'+'(1,1))),terminated]"
  -- or agree
  pub result_that_agrees : stream 1 (after_lines (fresh One (codes "alice")) (codes "start 10 0 10 2 := 1 + 1" ∷ codes "run 10" ∷ [])) ≡ codes "[started,terminated]"
  -- a variable becomes its result
  pub result_in_the_goal : option_map (λ o. print o.goal) (origin_at 1 (after_lines (fresh One (codes "alice")) (codes "start 10 0 10 X := 2 * 3" ∷ codes "run 10" ∷ [])).shoens) ≡ Some (codes "':='(6,'*'(2,3))")
  -- a goal waits while its expression does
  pub expression_that_waits : (line_done (after_lines (fresh One (codes "alice")) (codes "start 10 0 10 X := 1 + Y" ∷ [])) (parse One (codes "quiet"))).reply ≡ quiet_is true
  -- and is refused
  pub expression_by_clause_0 : (line_done (after_lines (fresh One (codes "alice")) (codes "start 10 0 10 X := 1 + Y" ∷ [])) (parse One (codes "reduce 2 0"))).reply ≡ refused step_refused
  -- a built-in goal steps by clause 0 alone
  pub built_in_goal_by_clause_1 : (line_done (after_lines (fresh One (codes "alice")) (codes "start 10 0 10 X := 1 + 1" ∷ [])) (parse One (codes "reduce 2 1"))).reply ≡ refused step_refused
  -- by which it steps
  pub built_in_goal_by_clause_0 : (line_done (after_lines (fresh One (codes "alice")) (codes "start 10 0 10 X := 1 + 1" ∷ [])) (parse One (codes "reduce 2 0"))).reply ≡ reduced
  -- a clause below `otherwise` is open while the one above rejects by the first place that was reached
  pub clause_below_opens : first (after_lines (having (lines (codes ":- module m." ∷ codes "p(f(X),X) :- X > 5 | true." ∷ codes "otherwise." ∷ codes "p(X,Y)." ∷ codes "g :- p(V,1), V = f(W)." ∷ []))) (codes "start 9 0 9 m:g" ∷ codes "run 1" ∷ [])) ≡ Some (record { goal = 3; clause = 2 })
  -- and closed when another goal binds a variable, so that an earlier place is reached, of which nothing is known
  pub clause_below_closes : first (after_lines (having (lines (codes ":- module m." ∷ codes "p(f(X),X) :- X > 5 | true." ∷ codes "otherwise." ∷ codes "p(X,Y)." ∷ codes "g :- p(V,1), V = f(W)." ∷ []))) (codes "start 9 0 9 m:g" ∷ codes "run 1" ∷ codes "reduce 4 0" ∷ [])) ≡ None
  -- a head with one variable eight times
  pub one_variable_eight_times : stream 1 (after_lines (having (lines (codes ":- module m." ∷ codes "p(X,X,X,X,X,X,X,X)." ∷ []))) (codes "start 9 0 9 m:p(A,A,1,A,A,A,A,1)" ∷ codes "run 1" ∷ [])) ≡ codes "[started|_4]"
  -- of which one place clashes with another
  pub one_variable_seven_and_one : stream 1 (after_lines (having (lines (codes ":- module m." ∷ codes "p(X,X,X,X,X,X,X,X)." ∷ []))) (codes "start 9 0 9 m:p(A,A,1,A,A,A,A,2)" ∷ codes "run 1" ∷ [])) ≡ codes "[started,exception(failure,m:p(_1,_1,1,_1,_1,_1,_1,2)),terminated]"
  -- a goal that each clause rejects fails
  pub failure_is_open : (line_done (after_lines (having (lines (codes ":- module m." ∷ codes "p(f(X),X) :- X > 5 | true." ∷ codes "g :- p(V,1), V = f(W)." ∷ []))) (codes "start 9 0 9 m:g" ∷ codes "run 1" ∷ [])) (parse One (codes "reduce 3 0"))).reply ≡ reduced
  -- and no longer when another goal binds a variable, so that an earlier place is reached
  pub failure_closes : (line_done (after_lines (having (lines (codes ":- module m." ∷ codes "p(f(X),X) :- X > 5 | true." ∷ codes "g :- p(V,1), V = f(W)." ∷ []))) (codes "start 9 0 9 m:g" ∷ codes "run 1" ∷ codes "reduce 4 0" ∷ [])) (parse One (codes "reduce 3 0"))).reply ≡ refused step_refused
  -- the clause below `otherwise` can be named while it is open
  pub clause_below_opens_by_number : (line_done (after_lines (having (lines (codes ":- module m." ∷ codes "p(f(X),X) :- X > 5 | true." ∷ codes "otherwise." ∷ codes "p(X,Y)." ∷ codes "g :- p(V,1), V = f(W)." ∷ []))) (codes "start 9 0 9 m:g" ∷ codes "run 1" ∷ [])) (parse One (codes "reduce 3 2"))).reply ≡ reduced
  -- and not when it is closed
  pub clause_below_closes_by_number : (line_done (after_lines (having (lines (codes ":- module m." ∷ codes "p(f(X),X) :- X > 5 | true." ∷ codes "otherwise." ∷ codes "p(X,Y)." ∷ codes "g :- p(V,1), V = f(W)." ∷ []))) (codes "start 9 0 9 m:g" ∷ codes "run 1" ∷ codes "reduce 4 0" ∷ [])) (parse One (codes "reduce 3 2"))).reply ≡ refused step_refused
  -- a clause that waits closes each section below its own
  pub second_section_waits : (line_done (after_lines (having (lines (codes ":- module m." ∷ codes "p(a,X)." ∷ codes "otherwise." ∷ codes "p(X,b)." ∷ codes "otherwise." ∷ codes "p(X,Y)." ∷ []))) (codes "start 9 0 9 m:p(c,V)" ∷ [])) (parse One (codes "quiet"))).reply ≡ quiet_is true
  -- so that no clause there is a candidate
  pub third_section_is_closed : (line_done (after_lines (having (lines (codes ":- module m." ∷ codes "p(a,X)." ∷ codes "otherwise." ∷ codes "p(X,b)." ∷ codes "otherwise." ∷ codes "p(X,Y)." ∷ []))) (codes "start 9 0 9 m:p(c,V)" ∷ [])) (parse One (codes "reduce 2 3"))).reply ≡ refused step_refused
  -- which is one if all above reject
  pub third_section_is_open : (line_done (after_lines (having (lines (codes ":- module m." ∷ codes "p(a,X)." ∷ codes "otherwise." ∷ codes "p(X,b)." ∷ codes "otherwise." ∷ codes "p(X,Y)." ∷ []))) (codes "start 9 0 9 m:p(c,d)" ∷ [])) (parse One (codes "reduce 2 3"))).reply ≡ reduced
  -- clause 0 of a call that waits is refused
  pub clause_0_of_a_goal_that_waits : (line_done (after_lines (having one_fact) (codes "start 10 0 10 t:q(X,b)" ∷ [])) (parse One (codes "reduce 2 0"))).reply ≡ refused step_refused
  -- a left side that stands in the expression is waited for
  pub variable_in_its_own_expression : (line_done (after_lines (fresh One (codes "alice")) (codes "start 10 0 10 X := X + 1" ∷ [])) (parse One (codes "quiet"))).reply ≡ quiet_is true
  -- parentheses make a relation an operand
  pub equation_of_an_equation : stream 1 (after_lines (fresh One (codes "alice")) (codes "start 10 0 10 (a = b) = c" ∷ codes "run 10" ∷ [])) ≡ codes "[started,exception(failure,'='('='(a,b),c)),terminated]"
