-- The example scripts with what is written for them. Made by tools/examples_as_definitions from examples/scripts.
use Rattle.std.specs.Prelude.{◌≡◌, ℕ, List, [], ◌∷◌, ◌++◌, codes}
use Rattle.kl1_model_server.specs.Script.{output}

-- the bytes of a_failure_stops_nothing_else.script
abbrev pub a_failure_stops_nothing_else_script : List ℕ
a_failure_stops_nothing_else_script = codes "accounts alice bob" ++ 10 ∷ [] ++ codes "alice load 42" ++ 10 ∷ [] ++ codes ":- module f." ++ 10 ∷ [] ++ codes "g(R) :- true | 1 = 2, R = ok." ++ 10 ∷ [] ++ codes "alice start 10 0 10 f:g(R)" ++ 10 ∷ [] ++ codes "alice run 10" ++ 10 ∷ [] ++ codes "alice value 1" ++ 10 ∷ []

-- the bytes of a_failure_stops_nothing_else.expected
abbrev pub a_failure_stops_nothing_else_output : List ℕ
a_failure_stops_nothing_else_output = codes "alice + loaded f" ++ 10 ∷ [] ++ codes "alice + shoen 1" ++ 10 ∷ [] ++ codes "alice + 3" ++ 10 ∷ [] ++ codes "alice + f:g(ok)" ++ 10 ∷ []

-- the bytes of abort_ends_what_is_below.script
abbrev pub abort_ends_what_is_below_script : List ℕ
abort_ends_what_is_below_script = codes "accounts alice" ++ 10 ∷ [] ++ codes "alice load 164" ++ 10 ∷ [] ++ codes ":- module n." ++ 10 ∷ [] ++ codes "w(0) :- true | true, true." ++ 10 ∷ [] ++ codes "w(N) :- N > 0 | M := N - 1, w(M)." ++ 10 ∷ [] ++ codes "a :- true | shoen:execute(n:b,0,10,50,C,R)." ++ 10 ∷ [] ++ codes "b :- true | shoen:execute(n:w(1),0,10,50,C,R)." ++ 10 ∷ [] ++ codes "alice start 100 0 10 n:a" ++ 10 ∷ [] ++ codes "alice run 4" ++ 10 ∷ [] ++ codes "alice abort 1" ++ 10 ∷ [] ++ codes "alice run 100" ++ 10 ∷ [] ++ codes "alice status 3" ++ 10 ∷ [] ++ codes "alice status 1" ++ 10 ∷ [] ++ codes "alice reports 1 1" ++ 10 ∷ [] ++ codes "alice stop 1" ++ 10 ∷ [] ++ codes "alice stop 2" ++ 10 ∷ []

-- the bytes of abort_ends_what_is_below.expected
abbrev pub abort_ends_what_is_below_output : List ℕ
abort_ends_what_is_below_output = codes "alice + loaded n" ++ 10 ∷ [] ++ codes "alice + shoen 1" ++ 10 ∷ [] ++ codes "alice + 4" ++ 10 ∷ [] ++ codes "alice + sent" ++ 10 ∷ [] ++ codes "alice + 1" ++ 10 ∷ [] ++ codes "alice + aborted 0 50 0" ++ 10 ∷ [] ++ codes "alice + aborted 4 100 0" ++ 10 ∷ [] ++ codes "alice + 2" ++ 10 ∷ [] ++ codes "alice started" ++ 10 ∷ [] ++ codes "alice aborted" ++ 10 ∷ [] ++ codes "alice - 5 ended" ++ 10 ∷ [] ++ codes "alice - 4 noshoen" ++ 10 ∷ []

-- the bytes of abort_removes_substitutes.script
abbrev pub abort_removes_substitutes_script : List ℕ
abort_removes_substitutes_script = codes "accounts alice" ++ 10 ∷ [] ++ codes "alice start 10 0 9 1 = 2" ++ 10 ∷ [] ++ codes "alice run 9" ++ 10 ∷ [] ++ codes "alice abort 1" ++ 10 ∷ [] ++ codes "alice run 9" ++ 10 ∷ [] ++ codes "alice status 1" ++ 10 ∷ [] ++ codes "alice quiet" ++ 10 ∷ [] ++ codes "alice answer 1 2 true" ++ 10 ∷ [] ++ codes "alice reports 1 2" ++ 10 ∷ []

-- the bytes of abort_removes_substitutes.expected
abbrev pub abort_removes_substitutes_output : List ℕ
abort_removes_substitutes_output = codes "alice + shoen 1" ++ 10 ∷ [] ++ codes "alice + 1" ++ 10 ∷ [] ++ codes "alice + sent" ++ 10 ∷ [] ++ codes "alice + 1" ++ 10 ∷ [] ++ codes "alice + aborted 1 10 0" ++ 10 ∷ [] ++ codes "alice + yes" ++ 10 ∷ [] ++ codes "alice - 5 ended" ++ 10 ∷ [] ++ codes "alice + 2" ++ 10 ∷ [] ++ codes "alice exception(failure,'='(1,2),_4)" ++ 10 ∷ [] ++ codes "alice aborted" ++ 10 ∷ []

-- the bytes of abort_tells_nothing_below.script
abbrev pub abort_tells_nothing_below_script : List ℕ
abort_tells_nothing_below_script = codes "accounts alice" ++ 10 ∷ [] ++ codes "alice start 100 0 10 shoen:execute(X := Y,0,10,5,C,R)" ++ 10 ∷ [] ++ codes "alice run 9" ++ 10 ∷ [] ++ codes "alice abort 1" ++ 10 ∷ [] ++ codes "alice run 9" ++ 10 ∷ [] ++ codes "alice value 1" ++ 10 ∷ [] ++ codes "alice status 2" ++ 10 ∷ []

-- the bytes of abort_tells_nothing_below.expected
abbrev pub abort_tells_nothing_below_output : List ℕ
abort_tells_nothing_below_output = codes "alice + shoen 1" ++ 10 ∷ [] ++ codes "alice + 1" ++ 10 ∷ [] ++ codes "alice + sent" ++ 10 ∷ [] ++ codes "alice + 1" ++ 10 ∷ [] ++ codes "alice + shoen:execute(':='(_1,_2),0,10,5,_3,[started|_8])" ++ 10 ∷ [] ++ codes "alice + aborted 0 5 0" ++ 10 ∷ []

-- the bytes of abort_with_two_children.script
abbrev pub abort_with_two_children_script : List ℕ
abort_with_two_children_script = codes "accounts alice" ++ 10 ∷ [] ++ codes "alice load 90" ++ 10 ∷ [] ++ codes ":- module v." ++ 10 ∷ [] ++ codes "p :- true | shoen:execute(true,0,10,5,C,R), shoen:execute(X := Y,0,10,5,D,S)." ++ 10 ∷ [] ++ codes "alice start 100 0 10 v:p" ++ 10 ∷ [] ++ codes "alice run 100" ++ 10 ∷ [] ++ codes "alice status 1" ++ 10 ∷ [] ++ codes "alice abort 1" ++ 10 ∷ [] ++ codes "alice run 100" ++ 10 ∷ [] ++ codes "alice status 2" ++ 10 ∷ [] ++ codes "alice status 3" ++ 10 ∷ [] ++ codes "alice status 1" ++ 10 ∷ [] ++ codes "alice quiet" ++ 10 ∷ []

-- the bytes of abort_with_two_children.expected
abbrev pub abort_with_two_children_output : List ℕ
abort_with_two_children_output = codes "alice + loaded v" ++ 10 ∷ [] ++ codes "alice + shoen 1" ++ 10 ∷ [] ++ codes "alice + 4" ++ 10 ∷ [] ++ codes "alice + running 4 100 1" ++ 10 ∷ [] ++ codes "alice + sent" ++ 10 ∷ [] ++ codes "alice + 1" ++ 10 ∷ [] ++ codes "alice + terminated 1 5 0" ++ 10 ∷ [] ++ codes "alice + aborted 0 5 0" ++ 10 ∷ [] ++ codes "alice + aborted 4 100 0" ++ 10 ∷ [] ++ codes "alice + yes" ++ 10 ∷ []

-- the bytes of aborted_child_ends_its_parent.script
abbrev pub aborted_child_ends_its_parent_script : List ℕ
aborted_child_ends_its_parent_script = codes "accounts alice" ++ 10 ∷ [] ++ codes "alice start 100 0 10 shoen:execute(X := Y,0,10,5,[abort],R)" ++ 10 ∷ [] ++ codes "alice run 100" ++ 10 ∷ [] ++ codes "alice value 1" ++ 10 ∷ [] ++ codes "alice status 1" ++ 10 ∷ [] ++ codes "alice status 2" ++ 10 ∷ [] ++ codes "alice reports 1 1" ++ 10 ∷ []

-- the bytes of aborted_child_ends_its_parent.expected
abbrev pub aborted_child_ends_its_parent_output : List ℕ
aborted_child_ends_its_parent_output = codes "alice + shoen 1" ++ 10 ∷ [] ++ codes "alice + 2" ++ 10 ∷ [] ++ codes "alice + shoen:execute(':='(_1,_2),0,10,5,[abort],[started,aborted])" ++ 10 ∷ [] ++ codes "alice + terminated 1 100 0" ++ 10 ∷ [] ++ codes "alice + aborted 0 5 0" ++ 10 ∷ [] ++ codes "alice + 2" ++ 10 ∷ [] ++ codes "alice started" ++ 10 ∷ [] ++ codes "alice terminated" ++ 10 ∷ []

-- the bytes of allow_of_a_variable_waits.script
abbrev pub allow_of_a_variable_waits_script : List ℕ
allow_of_a_variable_waits_script = codes "accounts alice" ++ 10 ∷ [] ++ codes "alice start 100 0 10 shoen:execute(true,0,10,0,[allow(N)],R)" ++ 10 ∷ [] ++ codes "alice run 100" ++ 10 ∷ [] ++ codes "alice quiet" ++ 10 ∷ [] ++ codes "alice status 2" ++ 10 ∷ [] ++ codes "alice value 1" ++ 10 ∷ [] ++ codes "alice status 1" ++ 10 ∷ []

-- the bytes of allow_of_a_variable_waits.expected
abbrev pub allow_of_a_variable_waits_output : List ℕ
allow_of_a_variable_waits_output = codes "alice + shoen 1" ++ 10 ∷ [] ++ codes "alice + 1" ++ 10 ∷ [] ++ codes "alice + yes" ++ 10 ∷ [] ++ codes "alice + exhausted 0 0 1" ++ 10 ∷ [] ++ codes "alice + shoen:execute(true,0,10,0,[allow(_1)],[started,exhausted|_7])" ++ 10 ∷ [] ++ codes "alice + running 1 100 1" ++ 10 ∷ []

-- the bytes of allow_raises_an_allowance.script
abbrev pub allow_raises_an_allowance_script : List ℕ
allow_raises_an_allowance_script = codes "accounts alice" ++ 10 ∷ [] ++ codes "alice start 100 0 10 shoen:execute(true,0,10,0,[allow(3)],R)" ++ 10 ∷ [] ++ codes "alice run 100" ++ 10 ∷ [] ++ codes "alice value 1" ++ 10 ∷ [] ++ codes "alice status 2" ++ 10 ∷ [] ++ codes "alice start 100 0 10 shoen:execute(true,0,10,5,[allow(-1),allow(a),allow,allow(1,2)],R)" ++ 10 ∷ [] ++ codes "alice run 100" ++ 10 ∷ [] ++ codes "alice value 3" ++ 10 ∷ []

-- the bytes of allow_raises_an_allowance.expected
abbrev pub allow_raises_an_allowance_output : List ℕ
allow_raises_an_allowance_output = codes "alice + shoen 1" ++ 10 ∷ [] ++ codes "alice + 4" ++ 10 ∷ [] ++ codes "alice + shoen:execute(true,0,10,0,[allow(3)],[started,exhausted,terminated])" ++ 10 ∷ [] ++ codes "alice + terminated 1 3 0" ++ 10 ∷ [] ++ codes "alice + shoen 3" ++ 10 ∷ [] ++ codes "alice + 7" ++ 10 ∷ [] ++ codes "alice + shoen:execute(true,0,10,5,[allow(-1),allow(a),allow,allow(1,2)],[started,exception(illegal_input,allow(-1)),exception(illegal_input,allow(a)),exception(illegal_input,allow),exception(illegal_input,allow(1,2)),terminated])" ++ 10 ∷ []

-- the bytes of allowance_has_a_greatest.script
abbrev pub allowance_has_a_greatest_script : List ℕ
allowance_has_a_greatest_script = codes "accounts alice" ++ 10 ∷ [] ++ codes "alice start 10 0 10 X := Y + 1" ++ 10 ∷ [] ++ codes "alice allow 1 9223372036854775807" ++ 10 ∷ [] ++ codes "alice run 1" ++ 10 ∷ [] ++ codes "alice status 1" ++ 10 ∷ [] ++ codes "alice allow 1 0" ++ 10 ∷ [] ++ codes "alice run 5" ++ 10 ∷ [] ++ codes "alice status 1" ++ 10 ∷ []

-- the bytes of allowance_has_a_greatest.expected
abbrev pub allowance_has_a_greatest_output : List ℕ
allowance_has_a_greatest_output = codes "alice + shoen 1" ++ 10 ∷ [] ++ codes "alice + sent" ++ 10 ∷ [] ++ codes "alice + 1" ++ 10 ∷ [] ++ codes "alice + running 0 9223372036854775807 1" ++ 10 ∷ [] ++ codes "alice + sent" ++ 10 ∷ [] ++ codes "alice + 1" ++ 10 ∷ [] ++ codes "alice + running 0 9223372036854775807 1" ++ 10 ∷ []

-- the bytes of allowance_of_0.script
abbrev pub allowance_of_0_script : List ℕ
allowance_of_0_script = codes "accounts alice" ++ 10 ∷ [] ++ codes "alice load 91" ++ 10 ∷ [] ++ codes ":- module app." ++ 10 ∷ [] ++ codes "app([],Y,Z) :- true | Z = Y." ++ 10 ∷ [] ++ codes "app([A|X],Y,Z) :- true | Z = [A|W], app(X,Y,W)." ++ 10 ∷ [] ++ codes "alice start 0 0 10 app:app([],[2],R)" ++ 10 ∷ [] ++ codes "alice run 100" ++ 10 ∷ [] ++ codes "alice reports 1 1" ++ 10 ∷ [] ++ codes "alice status 1" ++ 10 ∷ [] ++ codes "alice quiet" ++ 10 ∷ []

-- the bytes of allowance_of_0.expected
abbrev pub allowance_of_0_output : List ℕ
allowance_of_0_output = codes "alice + loaded app" ++ 10 ∷ [] ++ codes "alice + shoen 1" ++ 10 ∷ [] ++ codes "alice + 0" ++ 10 ∷ [] ++ codes "alice + 2" ++ 10 ∷ [] ++ codes "alice started" ++ 10 ∷ [] ++ codes "alice exhausted" ++ 10 ∷ [] ++ codes "alice + exhausted 0 0 1" ++ 10 ∷ [] ++ codes "alice + yes" ++ 10 ∷ []

-- the bytes of allowance_runs_out.script
abbrev pub allowance_runs_out_script : List ℕ
allowance_runs_out_script = codes "accounts alice" ++ 10 ∷ [] ++ codes "alice load 91" ++ 10 ∷ [] ++ codes ":- module app." ++ 10 ∷ [] ++ codes "app([],Y,Z) :- true | Z = Y." ++ 10 ∷ [] ++ codes "app([A|X],Y,Z) :- true | Z = [A|W], app(X,Y,W)." ++ 10 ∷ [] ++ codes "alice start 2 0 10 app:app([1],[2],R)" ++ 10 ∷ [] ++ codes "alice run 100" ++ 10 ∷ [] ++ codes "alice status 1" ++ 10 ∷ [] ++ codes "alice allow 1 10" ++ 10 ∷ [] ++ codes "alice run 100" ++ 10 ∷ [] ++ codes "alice status 1" ++ 10 ∷ []

-- the bytes of allowance_runs_out.expected
abbrev pub allowance_runs_out_output : List ℕ
allowance_runs_out_output = codes "alice + loaded app" ++ 10 ∷ [] ++ codes "alice + shoen 1" ++ 10 ∷ [] ++ codes "alice + 2" ++ 10 ∷ [] ++ codes "alice + exhausted 2 2 1" ++ 10 ∷ [] ++ codes "alice + sent" ++ 10 ∷ [] ++ codes "alice + 3" ++ 10 ∷ [] ++ codes "alice + terminated 4 12 0" ++ 10 ∷ []

-- the bytes of allowance_runs_out_twice.script
abbrev pub allowance_runs_out_twice_script : List ℕ
allowance_runs_out_twice_script = codes "accounts alice" ++ 10 ∷ [] ++ codes "alice load 30" ++ 10 ∷ [] ++ codes ":- module r." ++ 10 ∷ [] ++ codes "r :- true | r, r." ++ 10 ∷ [] ++ codes "alice start 1 0 10 r:r" ++ 10 ∷ [] ++ codes "alice run 9" ++ 10 ∷ [] ++ codes "alice allow 1 1" ++ 10 ∷ [] ++ codes "alice run 9" ++ 10 ∷ [] ++ codes "alice reports 1 1" ++ 10 ∷ []

-- the bytes of allowance_runs_out_twice.expected
abbrev pub allowance_runs_out_twice_output : List ℕ
allowance_runs_out_twice_output = codes "alice + loaded r" ++ 10 ∷ [] ++ codes "alice + shoen 1" ++ 10 ∷ [] ++ codes "alice + 1" ++ 10 ∷ [] ++ codes "alice + sent" ++ 10 ∷ [] ++ codes "alice + 2" ++ 10 ∷ [] ++ codes "alice + 3" ++ 10 ∷ [] ++ codes "alice started" ++ 10 ∷ [] ++ codes "alice exhausted" ++ 10 ∷ [] ++ codes "alice exhausted" ++ 10 ∷ []

-- the bytes of answer_of_the_program_is_no_goal.script
abbrev pub answer_of_the_program_is_no_goal_script : List ℕ
answer_of_the_program_is_no_goal_script = codes "accounts alice" ++ 10 ∷ [] ++ codes "alice load 113" ++ 10 ∷ [] ++ codes ":- module u." ++ 10 ∷ [] ++ codes "m :- true | shoen:execute(1 = 2,0,10,10,C,R), f(R)." ++ 10 ∷ [] ++ codes "f([started,exception(K,G,N)|T]) :- true | N = 0." ++ 10 ∷ [] ++ codes "alice start 100 0 10 u:m" ++ 10 ∷ [] ++ codes "alice run 100" ++ 10 ∷ [] ++ codes "alice status 2" ++ 10 ∷ [] ++ codes "alice status 1" ++ 10 ∷ []

-- the bytes of answer_of_the_program_is_no_goal.expected
abbrev pub answer_of_the_program_is_no_goal_output : List ℕ
answer_of_the_program_is_no_goal_output = codes "alice + loaded u" ++ 10 ∷ [] ++ codes "alice + shoen 1" ++ 10 ∷ [] ++ codes "alice + 6" ++ 10 ∷ [] ++ codes "alice + running 2 10 1" ++ 10 ∷ [] ++ codes "alice + running 6 100 1" ++ 10 ∷ []

-- the bytes of answer_opens_a_shoen.script
abbrev pub answer_opens_a_shoen_script : List ℕ
answer_opens_a_shoen_script = codes "accounts alice" ++ 10 ∷ [] ++ codes "alice start 100 0 10 1 = 2" ++ 10 ∷ [] ++ codes "alice run 10" ++ 10 ∷ [] ++ codes "alice answer 1 2 shoen:execute(true,0,9,9,C,R)" ++ 10 ∷ [] ++ codes "alice run 10" ++ 10 ∷ [] ++ codes "alice reports 1 1" ++ 10 ∷ [] ++ codes "alice status 2" ++ 10 ∷ [] ++ codes "alice status 1" ++ 10 ∷ []

-- the bytes of answer_opens_a_shoen.expected
abbrev pub answer_opens_a_shoen_output : List ℕ
answer_opens_a_shoen_output = codes "alice + shoen 1" ++ 10 ∷ [] ++ codes "alice + 1" ++ 10 ∷ [] ++ codes "alice + sent" ++ 10 ∷ [] ++ codes "alice + 3" ++ 10 ∷ [] ++ codes "alice + 3" ++ 10 ∷ [] ++ codes "alice started" ++ 10 ∷ [] ++ codes "alice exception(failure,'='(1,2),shoen:execute(true,0,9,9,_6,[started,terminated]))" ++ 10 ∷ [] ++ codes "alice terminated" ++ 10 ∷ [] ++ codes "alice + terminated 1 9 0" ++ 10 ∷ [] ++ codes "alice + terminated 4 100 0" ++ 10 ∷ []

-- the bytes of answer_that_fails_is_answered.script
abbrev pub answer_that_fails_is_answered_script : List ℕ
answer_that_fails_is_answered_script = codes "accounts alice" ++ 10 ∷ [] ++ codes "alice start 10 0 10 1 = 2" ++ 10 ∷ [] ++ codes "alice run 10" ++ 10 ∷ [] ++ codes "alice answer 1 2 2 = 3" ++ 10 ∷ [] ++ codes "alice run 10" ++ 10 ∷ [] ++ codes "alice reports 1 1" ++ 10 ∷ [] ++ codes "alice status 1" ++ 10 ∷ [] ++ codes "alice answer 1 2 true" ++ 10 ∷ [] ++ codes "alice answer 1 3 true" ++ 10 ∷ [] ++ codes "alice run 10" ++ 10 ∷ [] ++ codes "alice status 1" ++ 10 ∷ []

-- the bytes of answer_that_fails_is_answered.expected
abbrev pub answer_that_fails_is_answered_output : List ℕ
answer_that_fails_is_answered_output = codes "alice + shoen 1" ++ 10 ∷ [] ++ codes "alice + 1" ++ 10 ∷ [] ++ codes "alice + sent" ++ 10 ∷ [] ++ codes "alice + 2" ++ 10 ∷ [] ++ codes "alice + 3" ++ 10 ∷ [] ++ codes "alice started" ++ 10 ∷ [] ++ codes "alice exception(failure,'='(1,2),'='(2,3))" ++ 10 ∷ [] ++ codes "alice exception(failure,'='(2,3),_6)" ++ 10 ∷ [] ++ codes "alice + running 3 10 1" ++ 10 ∷ [] ++ codes "alice - 13 answer" ++ 10 ∷ [] ++ codes "alice + sent" ++ 10 ∷ [] ++ codes "alice + 2" ++ 10 ∷ [] ++ codes "alice + terminated 5 10 0" ++ 10 ∷ []

-- the bytes of answers_that_are_refused.script
abbrev pub answers_that_are_refused_script : List ℕ
answers_that_are_refused_script = codes "accounts alice" ++ 10 ∷ [] ++ codes "alice start 10 0 9 1 = 2" ++ 10 ∷ [] ++ codes "alice start 10 0 9 shoen:execute(1 = 2,0,9,9,C,R)" ++ 10 ∷ [] ++ codes "alice run 9" ++ 10 ∷ [] ++ codes "alice answer" ++ 10 ∷ [] ++ codes "alice answer 1" ++ 10 ∷ [] ++ codes "alice answer 1 2" ++ 10 ∷ [] ++ codes "alice answer 1 2 1" ++ 10 ∷ [] ++ codes "alice answer 1 2 m:P" ++ 10 ∷ [] ++ codes "alice answer 1 2 p" ++ 10 ∷ [] ++ codes "alice answer 1 0 true" ++ 10 ∷ [] ++ codes "alice answer 1 x true" ++ 10 ∷ [] ++ codes "alice answer 0 2 true" ++ 10 ∷ [] ++ codes "alice answer 3 2 true" ++ 10 ∷ [] ++ codes "alice answer 9 9 true" ++ 10 ∷ [] ++ codes "alice answer 1 9 true" ++ 10 ∷ [] ++ codes "alice answer 1 1 true" ++ 10 ∷ [] ++ codes "alice reports 1 1" ++ 10 ∷ [] ++ codes "alice modules" ++ 10 ∷ [] ++ codes "alice journal 1 64" ++ 10 ∷ []

-- the bytes of answers_that_are_refused.expected
abbrev pub answers_that_are_refused_output : List ℕ
answers_that_are_refused_output = codes "alice + shoen 1" ++ 10 ∷ [] ++ codes "alice + shoen 2" ++ 10 ∷ [] ++ codes "alice + 3" ++ 10 ∷ [] ++ codes "alice - 1 syntax" ++ 10 ∷ [] ++ codes "alice - 1 syntax" ++ 10 ∷ [] ++ codes "alice - 1 syntax" ++ 10 ∷ [] ++ codes "alice - 1 syntax" ++ 10 ∷ [] ++ codes "alice - 1 syntax" ++ 10 ∷ [] ++ codes "alice - 1 syntax" ++ 10 ∷ [] ++ codes "alice - 1 syntax" ++ 10 ∷ [] ++ codes "alice - 1 syntax" ++ 10 ∷ [] ++ codes "alice - 4 noshoen" ++ 10 ∷ [] ++ codes "alice - 4 noshoen" ++ 10 ∷ [] ++ codes "alice - 4 noshoen" ++ 10 ∷ [] ++ codes "alice - 13 answer" ++ 10 ∷ [] ++ codes "alice - 13 answer" ++ 10 ∷ [] ++ codes "alice + 2" ++ 10 ∷ [] ++ codes "alice started" ++ 10 ∷ [] ++ codes "alice exception(failure,'='(1,2),_9)" ++ 10 ∷ [] ++ codes "alice + 0" ++ 10 ∷ [] ++ codes "alice + 6" ++ 10 ∷ [] ++ codes "alice journal 3 0 0" ++ 10 ∷ [] ++ codes "alice start 10 0 9 '='(1,2)" ++ 10 ∷ [] ++ codes "alice start 10 0 9 shoen:execute('='(1,2),0,9,9,_1,_2)" ++ 10 ∷ [] ++ codes "alice reduce 2 0" ++ 10 ∷ [] ++ codes "alice reduce 4 0" ++ 10 ∷ [] ++ codes "alice reduce 7 0" ++ 10 ∷ []

-- the bytes of charges_go_up_the_tree.script
abbrev pub charges_go_up_the_tree_script : List ℕ
charges_go_up_the_tree_script = codes "accounts alice" ++ 10 ∷ [] ++ codes "alice load 164" ++ 10 ∷ [] ++ codes ":- module n." ++ 10 ∷ [] ++ codes "w(0) :- true | true, true." ++ 10 ∷ [] ++ codes "w(N) :- N > 0 | M := N - 1, w(M)." ++ 10 ∷ [] ++ codes "a :- true | shoen:execute(n:b,0,10,50,C,R)." ++ 10 ∷ [] ++ codes "b :- true | shoen:execute(n:w(1),0,10,50,C,R)." ++ 10 ∷ [] ++ codes "alice start 100 0 10 n:a" ++ 10 ∷ [] ++ codes "alice run 100" ++ 10 ∷ [] ++ codes "alice status 3" ++ 10 ∷ [] ++ codes "alice status 2" ++ 10 ∷ [] ++ codes "alice status 1" ++ 10 ∷ []

-- the bytes of charges_go_up_the_tree.expected
abbrev pub charges_go_up_the_tree_output : List ℕ
charges_go_up_the_tree_output = codes "alice + loaded n" ++ 10 ∷ [] ++ codes "alice + shoen 1" ++ 10 ∷ [] ++ codes "alice + 9" ++ 10 ∷ [] ++ codes "alice + terminated 5 50 0" ++ 10 ∷ [] ++ codes "alice + terminated 7 50 0" ++ 10 ∷ [] ++ codes "alice + terminated 9 100 0" ++ 10 ∷ []

-- the bytes of child_stopped_below_an_exhausted_shoen.script
abbrev pub child_stopped_below_an_exhausted_shoen_script : List ℕ
child_stopped_below_an_exhausted_shoen_script = codes "accounts alice" ++ 10 ∷ [] ++ codes "alice start 1 0 10 shoen:execute(true,0,10,5,[stop|T],R)" ++ 10 ∷ [] ++ codes "alice run 9" ++ 10 ∷ [] ++ codes "alice reports 1 1" ++ 10 ∷ [] ++ codes "alice value 1" ++ 10 ∷ []

-- the bytes of child_stopped_below_an_exhausted_shoen.expected
abbrev pub child_stopped_below_an_exhausted_shoen_output : List ℕ
child_stopped_below_an_exhausted_shoen_output = codes "alice + shoen 1" ++ 10 ∷ [] ++ codes "alice + 2" ++ 10 ∷ [] ++ codes "alice + 2" ++ 10 ∷ [] ++ codes "alice started" ++ 10 ∷ [] ++ codes "alice exhausted" ++ 10 ∷ [] ++ codes "alice + shoen:execute(true,0,10,5,[stop|_1],[started,stopped|_8])" ++ 10 ∷ []

-- the bytes of clause_below_otherwise_closes.script
abbrev pub clause_below_otherwise_closes_script : List ℕ
clause_below_otherwise_closes_script = codes "accounts alice" ++ 10 ∷ [] ++ codes "alice load 81" ++ 10 ∷ [] ++ codes ":- module m." ++ 10 ∷ [] ++ codes "p(f(X),X) :- X > 5 | true." ++ 10 ∷ [] ++ codes "otherwise." ++ 10 ∷ [] ++ codes "p(X,Y)." ++ 10 ∷ [] ++ codes "g :- p(V,1), V = f(W)." ++ 10 ∷ [] ++ codes "alice start 9 0 9 m:g" ++ 10 ∷ [] ++ codes "alice run 1" ++ 10 ∷ [] ++ codes "alice reduce 4 0" ++ 10 ∷ [] ++ codes "alice quiet" ++ 10 ∷ [] ++ codes "alice reduce 3 2" ++ 10 ∷ [] ++ codes "alice start 9 0 9 m:g" ++ 10 ∷ [] ++ codes "alice run 1" ++ 10 ∷ [] ++ codes "alice reduce 7 2" ++ 10 ∷ []

-- the bytes of clause_below_otherwise_closes.expected
abbrev pub clause_below_otherwise_closes_output : List ℕ
clause_below_otherwise_closes_output = codes "alice + loaded m" ++ 10 ∷ [] ++ codes "alice + shoen 1" ++ 10 ∷ [] ++ codes "alice + 1" ++ 10 ∷ [] ++ codes "alice + reduced" ++ 10 ∷ [] ++ codes "alice + yes" ++ 10 ∷ [] ++ codes "alice - 6 step" ++ 10 ∷ [] ++ codes "alice + shoen 2" ++ 10 ∷ [] ++ codes "alice + 1" ++ 10 ∷ [] ++ codes "alice + reduced" ++ 10 ∷ []

-- the bytes of commands_to_shoens_that_are_none.script
abbrev pub commands_to_shoens_that_are_none_script : List ℕ
commands_to_shoens_that_are_none_script = codes "accounts alice" ++ 10 ∷ [] ++ codes "alice status 1" ++ 10 ∷ [] ++ codes "alice stop 1" ++ 10 ∷ [] ++ codes "alice resume 0" ++ 10 ∷ [] ++ codes "alice abort 7" ++ 10 ∷ [] ++ codes "alice allow 1 5" ++ 10 ∷ [] ++ codes "alice reports 1 1" ++ 10 ∷ [] ++ codes "alice value 1" ++ 10 ∷ [] ++ codes "alice start 100 0 10 shoen:execute(true,0,10,0,C,R)" ++ 10 ∷ [] ++ codes "alice run 9" ++ 10 ∷ [] ++ codes "alice status 2" ++ 10 ∷ [] ++ codes "alice value 2" ++ 10 ∷ [] ++ codes "alice reports 2 1" ++ 10 ∷ [] ++ codes "alice allow 2 9" ++ 10 ∷ [] ++ codes "alice reports 1 1" ++ 10 ∷ [] ++ codes "alice reports 1 2" ++ 10 ∷ [] ++ codes "alice reports 1 0" ++ 10 ∷ [] ++ codes "alice reports 1" ++ 10 ∷ [] ++ codes "alice reports 1 1 1" ++ 10 ∷ [] ++ codes "alice status" ++ 10 ∷ [] ++ codes "alice status 1 2" ++ 10 ∷ [] ++ codes "alice stop" ++ 10 ∷ [] ++ codes "alice stop x" ++ 10 ∷ [] ++ codes "alice allow 1" ++ 10 ∷ [] ++ codes "alice allow 1 9223372036854775808" ++ 10 ∷ [] ++ codes "alice allow 1 9223372036854775807" ++ 10 ∷ [] ++ codes "alice modules 1" ++ 10 ∷ [] ++ codes "alice reduce 99 1" ++ 10 ∷ []

-- the bytes of commands_to_shoens_that_are_none.expected
abbrev pub commands_to_shoens_that_are_none_output : List ℕ
commands_to_shoens_that_are_none_output = codes "alice - 4 noshoen" ++ 10 ∷ [] ++ codes "alice - 4 noshoen" ++ 10 ∷ [] ++ codes "alice - 4 noshoen" ++ 10 ∷ [] ++ codes "alice - 4 noshoen" ++ 10 ∷ [] ++ codes "alice - 4 noshoen" ++ 10 ∷ [] ++ codes "alice - 4 noshoen" ++ 10 ∷ [] ++ codes "alice - 4 noshoen" ++ 10 ∷ [] ++ codes "alice + shoen 1" ++ 10 ∷ [] ++ codes "alice + 1" ++ 10 ∷ [] ++ codes "alice + exhausted 0 0 1" ++ 10 ∷ [] ++ codes "alice - 4 noshoen" ++ 10 ∷ [] ++ codes "alice - 4 noshoen" ++ 10 ∷ [] ++ codes "alice - 4 noshoen" ++ 10 ∷ [] ++ codes "alice + 1" ++ 10 ∷ [] ++ codes "alice started" ++ 10 ∷ [] ++ codes "alice + 0" ++ 10 ∷ [] ++ codes "alice - 1 syntax" ++ 10 ∷ [] ++ codes "alice - 1 syntax" ++ 10 ∷ [] ++ codes "alice - 1 syntax" ++ 10 ∷ [] ++ codes "alice - 1 syntax" ++ 10 ∷ [] ++ codes "alice - 1 syntax" ++ 10 ∷ [] ++ codes "alice - 1 syntax" ++ 10 ∷ [] ++ codes "alice - 1 syntax" ++ 10 ∷ [] ++ codes "alice - 1 syntax" ++ 10 ∷ [] ++ codes "alice - 1 syntax" ++ 10 ∷ [] ++ codes "alice + sent" ++ 10 ∷ [] ++ codes "alice - 1 syntax" ++ 10 ∷ [] ++ codes "alice - 6 step" ++ 10 ∷ []

-- the bytes of control_breaks_off.script
abbrev pub control_breaks_off_script : List ℕ
control_breaks_off_script = codes "accounts alice" ++ 10 ∷ [] ++ codes "alice start 100 0 10 shoen:execute(true,0,10,5,[stop|foo],R)" ++ 10 ∷ [] ++ codes "alice run 100" ++ 10 ∷ [] ++ codes "alice status 2" ++ 10 ∷ [] ++ codes "alice value 1" ++ 10 ∷ [] ++ codes "alice quiet" ++ 10 ∷ [] ++ codes "alice status 1" ++ 10 ∷ []

-- the bytes of control_breaks_off.expected
abbrev pub control_breaks_off_output : List ℕ
control_breaks_off_output = codes "alice + shoen 1" ++ 10 ∷ [] ++ codes "alice + 3" ++ 10 ∷ [] ++ codes "alice + stopped 0 5 1" ++ 10 ∷ [] ++ codes "alice + shoen:execute(true,0,10,5,[stop|foo],[started,stopped,exception(illegal_input,foo)|_7])" ++ 10 ∷ [] ++ codes "alice + yes" ++ 10 ∷ [] ++ codes "alice + running 1 100 1" ++ 10 ∷ []

-- the bytes of control_is_closed.script
abbrev pub control_is_closed_script : List ℕ
control_is_closed_script = codes "accounts alice" ++ 10 ∷ [] ++ codes "alice start 100 0 10 shoen:execute(true,0,10,5,[],R)" ++ 10 ∷ [] ++ codes "alice run 100" ++ 10 ∷ [] ++ codes "alice value 1" ++ 10 ∷ [] ++ codes "alice start 100 0 10 shoen:execute(true,0,10,5,foo,R)" ++ 10 ∷ [] ++ codes "alice run 100" ++ 10 ∷ [] ++ codes "alice value 3" ++ 10 ∷ []

-- the bytes of control_is_closed.expected
abbrev pub control_is_closed_output : List ℕ
control_is_closed_output = codes "alice + shoen 1" ++ 10 ∷ [] ++ codes "alice + 3" ++ 10 ∷ [] ++ codes "alice + shoen:execute(true,0,10,5,[],[started,terminated])" ++ 10 ∷ [] ++ codes "alice + shoen 3" ++ 10 ∷ [] ++ codes "alice + 3" ++ 10 ∷ [] ++ codes "alice + shoen:execute(true,0,10,5,foo,[started,exception(illegal_input,foo),terminated])" ++ 10 ∷ []

-- the bytes of ended_or_exhausted.script
abbrev pub ended_or_exhausted_script : List ℕ
ended_or_exhausted_script = codes "accounts alice" ++ 10 ∷ [] ++ codes "alice start 1 0 10 true" ++ 10 ∷ [] ++ codes "alice run 10" ++ 10 ∷ [] ++ codes "alice reports 1 1" ++ 10 ∷ [] ++ codes "alice status 1" ++ 10 ∷ [] ++ codes "alice load 30" ++ 10 ∷ [] ++ codes ":- module r." ++ 10 ∷ [] ++ codes "r :- true | r, r." ++ 10 ∷ [] ++ codes "alice start 1 0 10 r:r" ++ 10 ∷ [] ++ codes "alice run 10" ++ 10 ∷ [] ++ codes "alice reports 2 1" ++ 10 ∷ [] ++ codes "alice status 2" ++ 10 ∷ [] ++ codes "alice load 64" ++ 10 ∷ [] ++ codes ":- module s." ++ 10 ∷ [] ++ codes "s :- true | shoen:execute(true,0,10,1,C,R), X := Y." ++ 10 ∷ [] ++ codes "alice start 3 0 10 s:s" ++ 10 ∷ [] ++ codes "alice run 10" ++ 10 ∷ [] ++ codes "alice status 4" ++ 10 ∷ [] ++ codes "alice status 3" ++ 10 ∷ [] ++ codes "alice reports 3 1" ++ 10 ∷ []

-- the bytes of ended_or_exhausted.expected
abbrev pub ended_or_exhausted_output : List ℕ
ended_or_exhausted_output = codes "alice + shoen 1" ++ 10 ∷ [] ++ codes "alice + 1" ++ 10 ∷ [] ++ codes "alice + 2" ++ 10 ∷ [] ++ codes "alice started" ++ 10 ∷ [] ++ codes "alice terminated" ++ 10 ∷ [] ++ codes "alice + terminated 1 1 0" ++ 10 ∷ [] ++ codes "alice + loaded r" ++ 10 ∷ [] ++ codes "alice + shoen 2" ++ 10 ∷ [] ++ codes "alice + 1" ++ 10 ∷ [] ++ codes "alice + 2" ++ 10 ∷ [] ++ codes "alice started" ++ 10 ∷ [] ++ codes "alice exhausted" ++ 10 ∷ [] ++ codes "alice + exhausted 1 1 2" ++ 10 ∷ [] ++ codes "alice + loaded s" ++ 10 ∷ [] ++ codes "alice + shoen 3" ++ 10 ∷ [] ++ codes "alice + 3" ++ 10 ∷ [] ++ codes "alice + terminated 1 1 0" ++ 10 ∷ [] ++ codes "alice + exhausted 3 3 1" ++ 10 ∷ [] ++ codes "alice + 2" ++ 10 ∷ [] ++ codes "alice started" ++ 10 ∷ [] ++ codes "alice exhausted" ++ 10 ∷ []

-- the bytes of exception_is_answered.script
abbrev pub exception_is_answered_script : List ℕ
exception_is_answered_script = codes "accounts alice" ++ 10 ∷ [] ++ codes "alice load 20" ++ 10 ∷ [] ++ codes ":- module t." ++ 10 ∷ [] ++ codes "q(a,b)." ++ 10 ∷ [] ++ codes "alice start 10 0 10 t:q(X,c)" ++ 10 ∷ [] ++ codes "alice run 10" ++ 10 ∷ [] ++ codes "alice quiet" ++ 10 ∷ [] ++ codes "alice status 1" ++ 10 ∷ [] ++ codes "alice reports 1 1" ++ 10 ∷ [] ++ codes "alice answer 2 1 true" ++ 10 ∷ [] ++ codes "alice answer 1 1 true" ++ 10 ∷ [] ++ codes "alice answer 1 2 true" ++ 10 ∷ [] ++ codes "alice run 10" ++ 10 ∷ [] ++ codes "alice status 1" ++ 10 ∷ [] ++ codes "alice answer 1 2 true" ++ 10 ∷ [] ++ codes "alice journal 3 64" ++ 10 ∷ []

-- the bytes of exception_is_answered.expected
abbrev pub exception_is_answered_output : List ℕ
exception_is_answered_output = codes "alice + loaded t" ++ 10 ∷ [] ++ codes "alice + shoen 1" ++ 10 ∷ [] ++ codes "alice + 1" ++ 10 ∷ [] ++ codes "alice + yes" ++ 10 ∷ [] ++ codes "alice + running 1 10 1" ++ 10 ∷ [] ++ codes "alice + 2" ++ 10 ∷ [] ++ codes "alice started" ++ 10 ∷ [] ++ codes "alice exception(failure,t:q(_1,c),_5)" ++ 10 ∷ [] ++ codes "alice - 4 noshoen" ++ 10 ∷ [] ++ codes "alice - 13 answer" ++ 10 ∷ [] ++ codes "alice + sent" ++ 10 ∷ [] ++ codes "alice + 2" ++ 10 ∷ [] ++ codes "alice + terminated 3 10 0" ++ 10 ∷ [] ++ codes "alice - 5 ended" ++ 10 ∷ [] ++ codes "alice + 5" ++ 10 ∷ [] ++ codes "alice start 10 0 10 t:q(_1,c)" ++ 10 ∷ [] ++ codes "alice reduce 2 0" ++ 10 ∷ [] ++ codes "alice answer 1 2 true" ++ 10 ∷ [] ++ codes "alice reduce 3 0" ++ 10 ∷ [] ++ codes "alice reduce 4 0" ++ 10 ∷ []

-- the bytes of exhausted_innermost_first.script
abbrev pub exhausted_innermost_first_script : List ℕ
exhausted_innermost_first_script = codes "accounts alice" ++ 10 ∷ [] ++ codes "alice load 30" ++ 10 ∷ [] ++ codes ":- module r." ++ 10 ∷ [] ++ codes "r :- true | r, r." ++ 10 ∷ [] ++ codes "alice start 2 0 10 shoen:execute(r:r,0,10,1,C,R)" ++ 10 ∷ [] ++ codes "alice run 9" ++ 10 ∷ [] ++ codes "alice value 1" ++ 10 ∷ [] ++ codes "alice status 1" ++ 10 ∷ [] ++ codes "alice status 2" ++ 10 ∷ [] ++ codes "alice start 1 0 10 X = Y" ++ 10 ∷ [] ++ codes "alice run 9" ++ 10 ∷ [] ++ codes "alice value 3" ++ 10 ∷ []

-- the bytes of exhausted_innermost_first.expected
abbrev pub exhausted_innermost_first_output : List ℕ
exhausted_innermost_first_output = codes "alice + loaded r" ++ 10 ∷ [] ++ codes "alice + shoen 1" ++ 10 ∷ [] ++ codes "alice + 2" ++ 10 ∷ [] ++ codes "alice + shoen:execute(r:r,0,10,1,_1,[started,exhausted|_7])" ++ 10 ∷ [] ++ codes "alice + exhausted 2 2 2" ++ 10 ∷ [] ++ codes "alice + exhausted 1 1 2" ++ 10 ∷ [] ++ codes "alice + shoen 3" ++ 10 ∷ [] ++ codes "alice + 1" ++ 10 ∷ [] ++ codes "alice + '='(_9,_9)" ++ 10 ∷ []

-- the bytes of exhausted_parent_holds_back.script
abbrev pub exhausted_parent_holds_back_script : List ℕ
exhausted_parent_holds_back_script = codes "accounts alice" ++ 10 ∷ [] ++ codes "alice start 1 0 10 shoen:execute(true,0,10,5,C,R)" ++ 10 ∷ [] ++ codes "alice run 9" ++ 10 ∷ [] ++ codes "alice status 1" ++ 10 ∷ [] ++ codes "alice status 2" ++ 10 ∷ [] ++ codes "alice quiet" ++ 10 ∷ [] ++ codes "alice reduce 4 0" ++ 10 ∷ [] ++ codes "alice reports 1 1" ++ 10 ∷ [] ++ codes "alice allow 1 1" ++ 10 ∷ [] ++ codes "alice run 9" ++ 10 ∷ [] ++ codes "alice status 2" ++ 10 ∷ [] ++ codes "alice status 1" ++ 10 ∷ [] ++ codes "alice reports 1 1" ++ 10 ∷ []

-- the bytes of exhausted_parent_holds_back.expected
abbrev pub exhausted_parent_holds_back_output : List ℕ
exhausted_parent_holds_back_output = codes "alice + shoen 1" ++ 10 ∷ [] ++ codes "alice + 1" ++ 10 ∷ [] ++ codes "alice + exhausted 1 1 1" ++ 10 ∷ [] ++ codes "alice + running 0 5 1" ++ 10 ∷ [] ++ codes "alice + yes" ++ 10 ∷ [] ++ codes "alice - 6 step" ++ 10 ∷ [] ++ codes "alice + 2" ++ 10 ∷ [] ++ codes "alice started" ++ 10 ∷ [] ++ codes "alice exhausted" ++ 10 ∷ [] ++ codes "alice + sent" ++ 10 ∷ [] ++ codes "alice + 2" ++ 10 ∷ [] ++ codes "alice + terminated 1 5 0" ++ 10 ∷ [] ++ codes "alice + terminated 2 2 0" ++ 10 ∷ [] ++ codes "alice + 3" ++ 10 ∷ [] ++ codes "alice started" ++ 10 ∷ [] ++ codes "alice exhausted" ++ 10 ∷ [] ++ codes "alice terminated" ++ 10 ∷ []

-- the bytes of failure_is_reported.script
abbrev pub failure_is_reported_script : List ℕ
failure_is_reported_script = codes "accounts alice" ++ 10 ∷ [] ++ codes "alice load 20" ++ 10 ∷ [] ++ codes ":- module t." ++ 10 ∷ [] ++ codes "q(a,b)." ++ 10 ∷ [] ++ codes "alice start 10 0 10 t:q(X,c)" ++ 10 ∷ [] ++ codes "alice run 10" ++ 10 ∷ [] ++ codes "alice reports 1 1" ++ 10 ∷ []

-- the bytes of failure_is_reported.expected
abbrev pub failure_is_reported_output : List ℕ
failure_is_reported_output = codes "alice + loaded t" ++ 10 ∷ [] ++ codes "alice + shoen 1" ++ 10 ∷ [] ++ codes "alice + 1" ++ 10 ∷ [] ++ codes "alice + 2" ++ 10 ∷ [] ++ codes "alice started" ++ 10 ∷ [] ++ codes "alice exception(failure,t:q(_1,c),_5)" ++ 10 ∷ []

-- the bytes of goal_of_a_child_has_its_greatest_priority.script
abbrev pub goal_of_a_child_has_its_greatest_priority_script : List ℕ
goal_of_a_child_has_its_greatest_priority_script = codes "accounts alice" ++ 10 ∷ [] ++ codes "alice start 9 0 9 shoen:execute(true,0,2,5,C,R)" ++ 10 ∷ [] ++ codes "alice reduce 2 0" ++ 10 ∷ [] ++ codes "alice start 9 5 5 true" ++ 10 ∷ [] ++ codes "alice run 1" ++ 10 ∷ [] ++ codes "alice status 3" ++ 10 ∷ []

-- the bytes of goal_of_a_child_has_its_greatest_priority.expected
abbrev pub goal_of_a_child_has_its_greatest_priority_output : List ℕ
goal_of_a_child_has_its_greatest_priority_output = codes "alice + shoen 1" ++ 10 ∷ [] ++ codes "alice + reduced" ++ 10 ∷ [] ++ codes "alice + shoen 3" ++ 10 ∷ [] ++ codes "alice + 1" ++ 10 ∷ [] ++ codes "alice + terminated 1 9 0" ++ 10 ∷ []

-- the bytes of inner_shoen_stays_stopped.script
abbrev pub inner_shoen_stays_stopped_script : List ℕ
inner_shoen_stays_stopped_script = codes "accounts alice" ++ 10 ∷ [] ++ codes "alice start 100 0 10 shoen:execute(true,0,10,5,[stop],R)" ++ 10 ∷ [] ++ codes "alice run 100" ++ 10 ∷ [] ++ codes "alice stop 1" ++ 10 ∷ [] ++ codes "alice resume 1" ++ 10 ∷ [] ++ codes "alice run 100" ++ 10 ∷ [] ++ codes "alice status 2" ++ 10 ∷ [] ++ codes "alice status 1" ++ 10 ∷ [] ++ codes "alice reports 1 1" ++ 10 ∷ []

-- the bytes of inner_shoen_stays_stopped.expected
abbrev pub inner_shoen_stays_stopped_output : List ℕ
inner_shoen_stays_stopped_output = codes "alice + shoen 1" ++ 10 ∷ [] ++ codes "alice + 3" ++ 10 ∷ [] ++ codes "alice + sent" ++ 10 ∷ [] ++ codes "alice + sent" ++ 10 ∷ [] ++ codes "alice + 2" ++ 10 ∷ [] ++ codes "alice + stopped 0 5 1" ++ 10 ∷ [] ++ codes "alice + running 1 100 1" ++ 10 ∷ [] ++ codes "alice + 3" ++ 10 ∷ [] ++ codes "alice started" ++ 10 ∷ [] ++ codes "alice stopped" ++ 10 ∷ [] ++ codes "alice resumed" ++ 10 ∷ []

-- the bytes of least_priority_of_a_child_is_clipped.script
abbrev pub least_priority_of_a_child_is_clipped_script : List ℕ
least_priority_of_a_child_is_clipped_script = codes "accounts alice" ++ 10 ∷ [] ++ codes "alice load 81" ++ 10 ∷ [] ++ codes ":- module k." ++ 10 ∷ [] ++ codes "g :- true | h(a)@priority(1), h(b)@priority(9)." ++ 10 ∷ [] ++ codes "h(X) :- true | true." ++ 10 ∷ [] ++ codes "alice start 10 4 9 shoen:execute(k:g,0,9,10,C,R)" ++ 10 ∷ [] ++ codes "alice reduce 2 0" ++ 10 ∷ [] ++ codes "alice reduce 4 1" ++ 10 ∷ [] ++ codes "alice start 10 3 3 true" ++ 10 ∷ [] ++ codes "alice run 4" ++ 10 ∷ [] ++ codes "alice status 3" ++ 10 ∷ []

-- the bytes of least_priority_of_a_child_is_clipped.expected
abbrev pub least_priority_of_a_child_is_clipped_output : List ℕ
least_priority_of_a_child_is_clipped_output = codes "alice + loaded k" ++ 10 ∷ [] ++ codes "alice + shoen 1" ++ 10 ∷ [] ++ codes "alice + reduced" ++ 10 ∷ [] ++ codes "alice + reduced" ++ 10 ∷ [] ++ codes "alice + shoen 3" ++ 10 ∷ [] ++ codes "alice + 4" ++ 10 ∷ [] ++ codes "alice + running 0 10 1" ++ 10 ∷ []

-- the bytes of one_answer_for_two_exceptions.script
abbrev pub one_answer_for_two_exceptions_script : List ℕ
one_answer_for_two_exceptions_script = codes "accounts alice" ++ 10 ∷ [] ++ codes "alice load 189" ++ 10 ∷ [] ++ codes ":- module w." ++ 10 ∷ [] ++ codes "m(R,S) :- true | shoen:execute(1 = 2,0,9,9,C,R), shoen:execute(3 = 4,0,9,9,D,S), f(R,S)." ++ 10 ∷ [] ++ codes "f([started,exception(K,G,N)|T],[started,exception(L,H,M)|U]) :- true | N = M, N = true." ++ 10 ∷ [] ++ codes "alice start 100 0 10 w:m(R,S)" ++ 10 ∷ [] ++ codes "alice run 100" ++ 10 ∷ [] ++ codes "alice value 1" ++ 10 ∷ [] ++ codes "alice status 2" ++ 10 ∷ [] ++ codes "alice status 3" ++ 10 ∷ [] ++ codes "alice status 1" ++ 10 ∷ []

-- the bytes of one_answer_for_two_exceptions.expected
abbrev pub one_answer_for_two_exceptions_output : List ℕ
one_answer_for_two_exceptions_output = codes "alice + loaded w" ++ 10 ∷ [] ++ codes "alice + shoen 1" ++ 10 ∷ [] ++ codes "alice + 12" ++ 10 ∷ [] ++ codes "alice + w:m([started,exception(failure,'='(1,2),true),terminated],[started,exception(failure,'='(3,4),true),terminated])" ++ 10 ∷ [] ++ codes "alice + terminated 3 9 0" ++ 10 ∷ [] ++ codes "alice + terminated 3 9 0" ++ 10 ∷ [] ++ codes "alice + terminated 12 100 0" ++ 10 ∷ []

-- the bytes of orders_of_each_kind.script
abbrev pub orders_of_each_kind_script : List ℕ
orders_of_each_kind_script = codes "accounts alice" ++ 10 ∷ [] ++ codes "alice load 36" ++ 10 ∷ [] ++ codes ":- module g." ++ 10 ∷ [] ++ codes "p(X) :- true | X = one." ++ 10 ∷ [] ++ codes "alice start 99 0 9 shoen:execute(g:p(X),4,20,5,C,R)" ++ 10 ∷ [] ++ codes "alice run 99" ++ 10 ∷ [] ++ codes "alice value 1" ++ 10 ∷ [] ++ codes "alice start 99 0 9 shoen:execute(Y = 2,0,0,5,C,R)" ++ 10 ∷ [] ++ codes "alice start 99 0 9 shoen:execute(Z := 2 + 1,0,0,5,C,R)" ++ 10 ∷ [] ++ codes "alice run 99" ++ 10 ∷ [] ++ codes "alice value 3" ++ 10 ∷ [] ++ codes "alice value 4" ++ 10 ∷ []

-- the bytes of orders_of_each_kind.expected
abbrev pub orders_of_each_kind_output : List ℕ
orders_of_each_kind_output = codes "alice + loaded g" ++ 10 ∷ [] ++ codes "alice + shoen 1" ++ 10 ∷ [] ++ codes "alice + 3" ++ 10 ∷ [] ++ codes "alice + shoen:execute(g:p(one),4,20,5,_2,[started,terminated])" ++ 10 ∷ [] ++ codes "alice + shoen 3" ++ 10 ∷ [] ++ codes "alice + shoen 4" ++ 10 ∷ [] ++ codes "alice + 4" ++ 10 ∷ [] ++ codes "alice + shoen:execute('='(2,2),0,0,5,_11,[started,terminated])" ++ 10 ∷ [] ++ codes "alice + shoen:execute(':='(3,'+'(2,1)),0,0,5,_17,[started,terminated])" ++ 10 ∷ []

-- the bytes of orders_that_are_wrong.script
abbrev pub orders_that_are_wrong_script : List ℕ
orders_that_are_wrong_script = codes "accounts alice" ++ 10 ∷ [] ++ codes "alice start 9 0 9 shoen:execute(1,0,1,1,C,R)" ++ 10 ∷ [] ++ codes "alice run 9" ++ 10 ∷ [] ++ codes "alice reports 1 2" ++ 10 ∷ [] ++ codes "alice start 9 0 9 shoen:execute(true,2,1,1,C,R)" ++ 10 ∷ [] ++ codes "alice start 9 0 9 shoen:execute(true,0,4096,1,C,R)" ++ 10 ∷ [] ++ codes "alice start 9 0 9 shoen:execute(true,0,1,-1,C,R)" ++ 10 ∷ [] ++ codes "alice start 9 0 9 shoen:execute(X + 1,0,1,1,C,R)" ++ 10 ∷ [] ++ codes "alice start 9 0 9 shoen:execute(foo,0,1,1,C,R)" ++ 10 ∷ [] ++ codes "alice start 9 0 9 shoen:execute(m:1,0,1,1,C,R)" ++ 10 ∷ [] ++ codes "alice run 99" ++ 10 ∷ [] ++ codes "alice status 7" ++ 10 ∷ [] ++ codes "alice status 8" ++ 10 ∷ []

-- the bytes of orders_that_are_wrong.expected
abbrev pub orders_that_are_wrong_output : List ℕ
orders_that_are_wrong_output = codes "alice + shoen 1" ++ 10 ∷ [] ++ codes "alice + 1" ++ 10 ∷ [] ++ codes "alice + 1" ++ 10 ∷ [] ++ codes "alice exception(illegal_input,shoen:execute(1,0,1,1,_1,_2),_6)" ++ 10 ∷ [] ++ codes "alice + shoen 2" ++ 10 ∷ [] ++ codes "alice + shoen 3" ++ 10 ∷ [] ++ codes "alice + shoen 4" ++ 10 ∷ [] ++ codes "alice + shoen 5" ++ 10 ∷ [] ++ codes "alice + shoen 6" ++ 10 ∷ [] ++ codes "alice + shoen 7" ++ 10 ∷ [] ++ codes "alice + 6" ++ 10 ∷ [] ++ codes "alice + running 1 9 1" ++ 10 ∷ [] ++ codes "alice - 4 noshoen" ++ 10 ∷ []

-- the bytes of orders_that_wait.script
abbrev pub orders_that_wait_script : List ℕ
orders_that_wait_script = codes "accounts alice" ++ 10 ∷ [] ++ codes "alice start 9 0 9 shoen:execute(G,0,1,1,C,R)" ++ 10 ∷ [] ++ codes "alice start 9 0 9 shoen:execute(M:p,0,1,1,C,R)" ++ 10 ∷ [] ++ codes "alice start 9 0 9 shoen:execute(1:P,0,1,1,C,R)" ++ 10 ∷ [] ++ codes "alice start 9 0 9 shoen:execute(true,L,x,y,C,R)" ++ 10 ∷ [] ++ codes "alice start 9 0 9 shoen:execute(true,4095,H,y,C,R)" ++ 10 ∷ [] ++ codes "alice start 9 0 9 shoen:execute(true,2,1,N,C,R)" ++ 10 ∷ [] ++ codes "alice run 9" ++ 10 ∷ [] ++ codes "alice quiet" ++ 10 ∷ [] ++ codes "alice start 9 0 9 shoen:execute(G,9999,1,1,C,R)" ++ 10 ∷ [] ++ codes "alice run 9" ++ 10 ∷ [] ++ codes "alice start 9 0 9 shoen:execute(true,x,H,N,C,R)" ++ 10 ∷ [] ++ codes "alice run 9" ++ 10 ∷ [] ++ codes "alice reports 8 2" ++ 10 ∷ []

-- the bytes of orders_that_wait.expected
abbrev pub orders_that_wait_output : List ℕ
orders_that_wait_output = codes "alice + shoen 1" ++ 10 ∷ [] ++ codes "alice + shoen 2" ++ 10 ∷ [] ++ codes "alice + shoen 3" ++ 10 ∷ [] ++ codes "alice + shoen 4" ++ 10 ∷ [] ++ codes "alice + shoen 5" ++ 10 ∷ [] ++ codes "alice + shoen 6" ++ 10 ∷ [] ++ codes "alice + 0" ++ 10 ∷ [] ++ codes "alice + yes" ++ 10 ∷ [] ++ codes "alice + shoen 7" ++ 10 ∷ [] ++ codes "alice + 0" ++ 10 ∷ [] ++ codes "alice + shoen 8" ++ 10 ∷ [] ++ codes "alice + 1" ++ 10 ∷ [] ++ codes "alice + 1" ++ 10 ∷ [] ++ codes "alice exception(illegal_input,shoen:execute(true,x,_43,_44,_45,_46),_50)" ++ 10 ∷ []

-- the bytes of overflow_is_reported.script
abbrev pub overflow_is_reported_script : List ℕ
overflow_is_reported_script = codes "accounts alice" ++ 10 ∷ [] ++ codes "alice start 10 0 10 X := 9223372036854775807 + 1" ++ 10 ∷ [] ++ codes "alice run 10" ++ 10 ∷ [] ++ codes "alice reports 1 2" ++ 10 ∷ []

-- the bytes of overflow_is_reported.expected
abbrev pub overflow_is_reported_output : List ℕ
overflow_is_reported_output = codes "alice + shoen 1" ++ 10 ∷ [] ++ codes "alice + 1" ++ 10 ∷ [] ++ codes "alice + 1" ++ 10 ∷ [] ++ codes "alice exception(overflow,':='(_1,'+'(9223372036854775807,1)),_5)" ++ 10 ∷ []

-- the bytes of priorities_are_clipped_to_a_childs_range.script
abbrev pub priorities_are_clipped_to_a_childs_range_script : List ℕ
priorities_are_clipped_to_a_childs_range_script = codes "accounts alice" ++ 10 ∷ [] ++ codes "alice load 81" ++ 10 ∷ [] ++ codes ":- module k." ++ 10 ∷ [] ++ codes "g :- true | h(a)@priority(1), h(b)@priority(9)." ++ 10 ∷ [] ++ codes "h(X) :- true | true." ++ 10 ∷ [] ++ codes "alice start 10 0 9 shoen:execute(k:g,3,5,10,C,R)" ++ 10 ∷ [] ++ codes "alice reduce 2 0" ++ 10 ∷ [] ++ codes "alice reduce 4 1" ++ 10 ∷ [] ++ codes "alice start 10 7 7 true" ++ 10 ∷ [] ++ codes "alice run 1" ++ 10 ∷ [] ++ codes "alice status 3" ++ 10 ∷ []

-- the bytes of priorities_are_clipped_to_a_childs_range.expected
abbrev pub priorities_are_clipped_to_a_childs_range_output : List ℕ
priorities_are_clipped_to_a_childs_range_output = codes "alice + loaded k" ++ 10 ∷ [] ++ codes "alice + shoen 1" ++ 10 ∷ [] ++ codes "alice + reduced" ++ 10 ∷ [] ++ codes "alice + reduced" ++ 10 ∷ [] ++ codes "alice + shoen 3" ++ 10 ∷ [] ++ codes "alice + 1" ++ 10 ∷ [] ++ codes "alice + terminated 1 10 0" ++ 10 ∷ []

-- the bytes of range_of_a_child_is_clipped.script
abbrev pub range_of_a_child_is_clipped_script : List ℕ
range_of_a_child_is_clipped_script = codes "accounts alice" ++ 10 ∷ [] ++ codes "alice start 10 0 5 shoen:execute(true,0,9,5,C,R)" ++ 10 ∷ [] ++ codes "alice reduce 2 0" ++ 10 ∷ [] ++ codes "alice start 10 7 7 true" ++ 10 ∷ [] ++ codes "alice run 1" ++ 10 ∷ [] ++ codes "alice status 3" ++ 10 ∷ []

-- the bytes of range_of_a_child_is_clipped.expected
abbrev pub range_of_a_child_is_clipped_output : List ℕ
range_of_a_child_is_clipped_output = codes "alice + shoen 1" ++ 10 ∷ [] ++ codes "alice + reduced" ++ 10 ∷ [] ++ codes "alice + shoen 3" ++ 10 ∷ [] ++ codes "alice + 1" ++ 10 ∷ [] ++ codes "alice + terminated 1 10 0" ++ 10 ∷ []

-- the bytes of report_that_holds_its_tail.script
abbrev pub report_that_holds_its_tail_script : List ℕ
report_that_holds_its_tail_script = codes "accounts alice" ++ 10 ∷ [] ++ codes "alice start 100 0 10 shoen:execute(T = a,0,10,5,C,T)" ++ 10 ∷ [] ++ codes "alice run 100" ++ 10 ∷ [] ++ codes "alice value 1" ++ 10 ∷ [] ++ codes "alice status 2" ++ 10 ∷ []

-- the bytes of report_that_holds_its_tail.expected
abbrev pub report_that_holds_its_tail_output : List ℕ
report_that_holds_its_tail_output = codes "alice + shoen 1" ++ 10 ∷ [] ++ codes "alice + 2" ++ 10 ∷ [] ++ codes "alice + shoen:execute('='([started|_6],a),0,10,5,_2,[started|_6])" ++ 10 ∷ [] ++ codes "alice + terminated 1 5 0" ++ 10 ∷ []

-- the bytes of shoens_32_deep.script
abbrev pub shoens_32_deep_script : List ℕ
shoens_32_deep_script = codes "accounts alice" ++ 10 ∷ [] ++ codes "alice load 58" ++ 10 ∷ [] ++ codes ":- module d." ++ 10 ∷ [] ++ codes "d :- true | shoen:execute(d:d,0,10,1000,C,R)." ++ 10 ∷ [] ++ codes "alice start 1000 0 10 d:d" ++ 10 ∷ [] ++ codes "alice run 1000" ++ 10 ∷ [] ++ codes "alice status 1" ++ 10 ∷ [] ++ codes "alice status 32" ++ 10 ∷ [] ++ codes "alice status 33" ++ 10 ∷ []

-- the bytes of shoens_32_deep.expected
abbrev pub shoens_32_deep_output : List ℕ
shoens_32_deep_output = codes "alice + loaded d" ++ 10 ∷ [] ++ codes "alice + shoen 1" ++ 10 ∷ [] ++ codes "alice + 64" ++ 10 ∷ [] ++ codes "alice + running 64 1000 1" ++ 10 ∷ [] ++ codes "alice + running 2 1000 1" ++ 10 ∷ [] ++ codes "alice - 4 noshoen" ++ 10 ∷ []

-- the bytes of slices_by_allowances.script
abbrev pub slices_by_allowances_script : List ℕ
slices_by_allowances_script = codes "accounts alice" ++ 10 ∷ [] ++ codes "alice load 323" ++ 10 ∷ [] ++ codes ":- module slice." ++ 10 ∷ [] ++ codes "run(R) :- true | shoen:execute(slice:count(4),0,10,2,C,S), feed(S,C,R)." ++ 10 ∷ [] ++ codes "count(0) :- true | true." ++ 10 ∷ [] ++ codes "count(N) :- N > 0 | M := N - 1, count(M)." ++ 10 ∷ [] ++ codes "feed([started|S],C,R) :- true | feed(S,C,R)." ++ 10 ∷ [] ++ codes "feed([exhausted|S],C,R) :- true | C = [allow(2)|D], R = [slice|Q], feed(S,D,Q)." ++ 10 ∷ [] ++ codes "feed([terminated|S],C,R) :- true | R = []." ++ 10 ∷ [] ++ codes "alice start 100 0 10 slice:run(R)" ++ 10 ∷ [] ++ codes "alice run 5" ++ 10 ∷ [] ++ codes "alice status 2" ++ 10 ∷ [] ++ codes "alice run 100" ++ 10 ∷ [] ++ codes "alice value 1" ++ 10 ∷ [] ++ codes "alice status 2" ++ 10 ∷ [] ++ codes "alice status 1" ++ 10 ∷ []

-- the bytes of slices_by_allowances.expected
abbrev pub slices_by_allowances_output : List ℕ
slices_by_allowances_output = codes "alice + loaded slice" ++ 10 ∷ [] ++ codes "alice + shoen 1" ++ 10 ∷ [] ++ codes "alice + 5" ++ 10 ∷ [] ++ codes "alice + exhausted 2 2 1" ++ 10 ∷ [] ++ codes "alice + 26" ++ 10 ∷ [] ++ codes "alice + slice:run([slice,slice,slice,slice])" ++ 10 ∷ [] ++ codes "alice + terminated 10 10 0" ++ 10 ∷ [] ++ codes "alice + terminated 27 100 0" ++ 10 ∷ []

-- the bytes of stopped_and_resumed.script
abbrev pub stopped_and_resumed_script : List ℕ
stopped_and_resumed_script = codes "accounts alice" ++ 10 ∷ [] ++ codes "alice load 91" ++ 10 ∷ [] ++ codes ":- module app." ++ 10 ∷ [] ++ codes "app([],Y,Z) :- true | Z = Y." ++ 10 ∷ [] ++ codes "app([A|X],Y,Z) :- true | Z = [A|W], app(X,Y,W)." ++ 10 ∷ [] ++ codes "alice start 100 0 10 app:app([1],[2],R)" ++ 10 ∷ [] ++ codes "alice stop 1" ++ 10 ∷ [] ++ codes "alice run 5" ++ 10 ∷ [] ++ codes "alice status 1" ++ 10 ∷ [] ++ codes "alice resume 1" ++ 10 ∷ [] ++ codes "alice run 100" ++ 10 ∷ [] ++ codes "alice reports 1 1" ++ 10 ∷ []

-- the bytes of stopped_and_resumed.expected
abbrev pub stopped_and_resumed_output : List ℕ
stopped_and_resumed_output = codes "alice + loaded app" ++ 10 ∷ [] ++ codes "alice + shoen 1" ++ 10 ∷ [] ++ codes "alice + sent" ++ 10 ∷ [] ++ codes "alice + 1" ++ 10 ∷ [] ++ codes "alice + stopped 0 100 1" ++ 10 ∷ [] ++ codes "alice + sent" ++ 10 ∷ [] ++ codes "alice + 5" ++ 10 ∷ [] ++ codes "alice + 4" ++ 10 ∷ [] ++ codes "alice started" ++ 10 ∷ [] ++ codes "alice stopped" ++ 10 ∷ [] ++ codes "alice resumed" ++ 10 ∷ [] ++ codes "alice terminated" ++ 10 ∷ []

-- the bytes of stopped_before_exhausted.script
abbrev pub stopped_before_exhausted_script : List ℕ
stopped_before_exhausted_script = codes "accounts alice" ++ 10 ∷ [] ++ codes "alice start 0 0 10 true" ++ 10 ∷ [] ++ codes "alice stop 1" ++ 10 ∷ [] ++ codes "alice status 1" ++ 10 ∷ [] ++ codes "alice run 9" ++ 10 ∷ [] ++ codes "alice status 1" ++ 10 ∷ [] ++ codes "alice allow 1 5" ++ 10 ∷ [] ++ codes "alice run 9" ++ 10 ∷ [] ++ codes "alice status 1" ++ 10 ∷ [] ++ codes "alice resume 1" ++ 10 ∷ [] ++ codes "alice run 9" ++ 10 ∷ [] ++ codes "alice status 1" ++ 10 ∷ []

-- the bytes of stopped_before_exhausted.expected
abbrev pub stopped_before_exhausted_output : List ℕ
stopped_before_exhausted_output = codes "alice + shoen 1" ++ 10 ∷ [] ++ codes "alice + sent" ++ 10 ∷ [] ++ codes "alice + exhausted 0 0 1" ++ 10 ∷ [] ++ codes "alice + 1" ++ 10 ∷ [] ++ codes "alice + stopped 0 0 1" ++ 10 ∷ [] ++ codes "alice + sent" ++ 10 ∷ [] ++ codes "alice + 1" ++ 10 ∷ [] ++ codes "alice + stopped 0 5 1" ++ 10 ∷ [] ++ codes "alice + sent" ++ 10 ∷ [] ++ codes "alice + 2" ++ 10 ∷ [] ++ codes "alice + terminated 1 5 0" ++ 10 ∷ []

-- the bytes of stopped_once.script
abbrev pub stopped_once_script : List ℕ
stopped_once_script = codes "accounts alice" ++ 10 ∷ [] ++ codes "alice start 100 0 10 X := Y" ++ 10 ∷ [] ++ codes "alice resume 1" ++ 10 ∷ [] ++ codes "alice stop 1" ++ 10 ∷ [] ++ codes "alice stop 1" ++ 10 ∷ [] ++ codes "alice run 100" ++ 10 ∷ [] ++ codes "alice reports 1 1" ++ 10 ∷ [] ++ codes "alice status 1" ++ 10 ∷ []

-- the bytes of stopped_once.expected
abbrev pub stopped_once_output : List ℕ
stopped_once_output = codes "alice + shoen 1" ++ 10 ∷ [] ++ codes "alice + sent" ++ 10 ∷ [] ++ codes "alice + sent" ++ 10 ∷ [] ++ codes "alice + sent" ++ 10 ∷ [] ++ codes "alice + 3" ++ 10 ∷ [] ++ codes "alice + 2" ++ 10 ∷ [] ++ codes "alice started" ++ 10 ∷ [] ++ codes "alice stopped" ++ 10 ∷ [] ++ codes "alice + stopped 0 100 1" ++ 10 ∷ []

-- the bytes of stopped_parent_holds_back.script
abbrev pub stopped_parent_holds_back_script : List ℕ
stopped_parent_holds_back_script = codes "accounts alice" ++ 10 ∷ [] ++ codes "alice start 9 0 10 shoen:execute(true,0,10,5,[allow(1)],R)" ++ 10 ∷ [] ++ codes "alice run 1" ++ 10 ∷ [] ++ codes "alice stop 1" ++ 10 ∷ [] ++ codes "alice reduce 1 0" ++ 10 ∷ [] ++ codes "alice reduce 4 0" ++ 10 ∷ [] ++ codes "alice run 9" ++ 10 ∷ [] ++ codes "alice status 2" ++ 10 ∷ [] ++ codes "alice resume 1" ++ 10 ∷ [] ++ codes "alice run 9" ++ 10 ∷ [] ++ codes "alice status 1" ++ 10 ∷ [] ++ codes "alice reports 1 1" ++ 10 ∷ []

-- the bytes of stopped_parent_holds_back.expected
abbrev pub stopped_parent_holds_back_output : List ℕ
stopped_parent_holds_back_output = codes "alice + shoen 1" ++ 10 ∷ [] ++ codes "alice + 1" ++ 10 ∷ [] ++ codes "alice + sent" ++ 10 ∷ [] ++ codes "alice + reduced" ++ 10 ∷ [] ++ codes "alice - 6 step" ++ 10 ∷ [] ++ codes "alice + 2" ++ 10 ∷ [] ++ codes "alice + running 0 6 1" ++ 10 ∷ [] ++ codes "alice + sent" ++ 10 ∷ [] ++ codes "alice + 2" ++ 10 ∷ [] ++ codes "alice + terminated 2 9 0" ++ 10 ∷ [] ++ codes "alice + 4" ++ 10 ∷ [] ++ codes "alice started" ++ 10 ∷ [] ++ codes "alice stopped" ++ 10 ∷ [] ++ codes "alice resumed" ++ 10 ∷ [] ++ codes "alice terminated" ++ 10 ∷ []

-- the bytes of stopped_shoen_terminates.script
abbrev pub stopped_shoen_terminates_script : List ℕ
stopped_shoen_terminates_script = codes "accounts alice" ++ 10 ∷ [] ++ codes "alice start 100 0 10 shoen:execute(X := Y,0,10,5,[abort],R)" ++ 10 ∷ [] ++ codes "alice run 1" ++ 10 ∷ [] ++ codes "alice reduce 3 0" ++ 10 ∷ [] ++ codes "alice status 1" ++ 10 ∷ [] ++ codes "alice stop 1" ++ 10 ∷ [] ++ codes "alice start 100 0 10 shoen:execute(X := Y,0,10,5,[abort],R)" ++ 10 ∷ [] ++ codes "alice stop 3" ++ 10 ∷ [] ++ codes "alice reduce 6 0" ++ 10 ∷ [] ++ codes "alice reduce 5 0" ++ 10 ∷ [] ++ codes "alice status 3" ++ 10 ∷ [] ++ codes "alice run 9" ++ 10 ∷ [] ++ codes "alice status 3" ++ 10 ∷ [] ++ codes "alice reports 3 1" ++ 10 ∷ []

-- the bytes of stopped_shoen_terminates.expected
abbrev pub stopped_shoen_terminates_output : List ℕ
stopped_shoen_terminates_output = codes "alice + shoen 1" ++ 10 ∷ [] ++ codes "alice + 1" ++ 10 ∷ [] ++ codes "alice + reduced" ++ 10 ∷ [] ++ codes "alice + terminated 1 100 0" ++ 10 ∷ [] ++ codes "alice - 5 ended" ++ 10 ∷ [] ++ codes "alice + shoen 3" ++ 10 ∷ [] ++ codes "alice + sent" ++ 10 ∷ [] ++ codes "alice + reduced" ++ 10 ∷ [] ++ codes "alice + reduced" ++ 10 ∷ [] ++ codes "alice + stopped 1 100 1" ++ 10 ∷ [] ++ codes "alice + 1" ++ 10 ∷ [] ++ codes "alice + terminated 1 100 0" ++ 10 ∷ [] ++ codes "alice + 3" ++ 10 ∷ [] ++ codes "alice started" ++ 10 ∷ [] ++ codes "alice stopped" ++ 10 ∷ [] ++ codes "alice terminated" ++ 10 ∷ []

-- the bytes of stopped_while_exhausted.script
abbrev pub stopped_while_exhausted_script : List ℕ
stopped_while_exhausted_script = codes "accounts alice" ++ 10 ∷ [] ++ codes "alice start 0 0 10 true" ++ 10 ∷ [] ++ codes "alice stop 1" ++ 10 ∷ [] ++ codes "alice run 9" ++ 10 ∷ [] ++ codes "alice reports 1 1" ++ 10 ∷ []

-- the bytes of stopped_while_exhausted.expected
abbrev pub stopped_while_exhausted_output : List ℕ
stopped_while_exhausted_output = codes "alice + shoen 1" ++ 10 ∷ [] ++ codes "alice + sent" ++ 10 ∷ [] ++ codes "alice + 1" ++ 10 ∷ [] ++ codes "alice + 3" ++ 10 ∷ [] ++ codes "alice started" ++ 10 ∷ [] ++ codes "alice exhausted" ++ 10 ∷ [] ++ codes "alice stopped" ++ 10 ∷ []

-- the bytes of stream_bound_by_the_program.script
abbrev pub stream_bound_by_the_program_script : List ℕ
stream_bound_by_the_program_script = codes "accounts alice" ++ 10 ∷ [] ++ codes "alice start 100 0 10 shoen:execute(true,0,10,5,C,[x|T])" ++ 10 ∷ [] ++ codes "alice run 100" ++ 10 ∷ [] ++ codes "alice value 1" ++ 10 ∷ [] ++ codes "alice status 2" ++ 10 ∷ [] ++ codes "alice reports 1 1" ++ 10 ∷ []

-- the bytes of stream_bound_by_the_program.expected
abbrev pub stream_bound_by_the_program_output : List ℕ
stream_bound_by_the_program_output = codes "alice + shoen 1" ++ 10 ∷ [] ++ codes "alice + 2" ++ 10 ∷ [] ++ codes "alice + shoen:execute(true,0,10,5,_1,[x|_2])" ++ 10 ∷ [] ++ codes "alice + terminated 1 5 0" ++ 10 ∷ [] ++ codes "alice + 2" ++ 10 ∷ [] ++ codes "alice started" ++ 10 ∷ [] ++ codes "alice terminated" ++ 10 ∷ []

-- the bytes of substitute_in_a_stopped_shoen.script
abbrev pub substitute_in_a_stopped_shoen_script : List ℕ
substitute_in_a_stopped_shoen_script = codes "accounts alice" ++ 10 ∷ [] ++ codes "alice start 10 0 9 1 = 2" ++ 10 ∷ [] ++ codes "alice run 9" ++ 10 ∷ [] ++ codes "alice stop 1" ++ 10 ∷ [] ++ codes "alice run 9" ++ 10 ∷ [] ++ codes "alice answer 1 2 true" ++ 10 ∷ [] ++ codes "alice run 9" ++ 10 ∷ [] ++ codes "alice quiet" ++ 10 ∷ [] ++ codes "alice status 1" ++ 10 ∷ [] ++ codes "alice resume 1" ++ 10 ∷ [] ++ codes "alice run 9" ++ 10 ∷ [] ++ codes "alice status 1" ++ 10 ∷ []

-- the bytes of substitute_in_a_stopped_shoen.expected
abbrev pub substitute_in_a_stopped_shoen_output : List ℕ
substitute_in_a_stopped_shoen_output = codes "alice + shoen 1" ++ 10 ∷ [] ++ codes "alice + 1" ++ 10 ∷ [] ++ codes "alice + sent" ++ 10 ∷ [] ++ codes "alice + 1" ++ 10 ∷ [] ++ codes "alice + sent" ++ 10 ∷ [] ++ codes "alice + 0" ++ 10 ∷ [] ++ codes "alice + yes" ++ 10 ∷ [] ++ codes "alice + stopped 1 10 1" ++ 10 ∷ [] ++ codes "alice + sent" ++ 10 ∷ [] ++ codes "alice + 3" ++ 10 ∷ [] ++ codes "alice + terminated 3 10 0" ++ 10 ∷ []

-- the bytes of substitute_in_an_exhausted_shoen.script
abbrev pub substitute_in_an_exhausted_shoen_script : List ℕ
substitute_in_an_exhausted_shoen_script = codes "accounts alice" ++ 10 ∷ [] ++ codes "alice start 1 0 9 1 = 2" ++ 10 ∷ [] ++ codes "alice run 9" ++ 10 ∷ [] ++ codes "alice status 1" ++ 10 ∷ [] ++ codes "alice reports 1 1" ++ 10 ∷ [] ++ codes "alice answer 1 2 true" ++ 10 ∷ [] ++ codes "alice run 9" ++ 10 ∷ [] ++ codes "alice allow 1 1" ++ 10 ∷ [] ++ codes "alice run 9" ++ 10 ∷ [] ++ codes "alice status 1" ++ 10 ∷ [] ++ codes "alice reports 1 4" ++ 10 ∷ [] ++ codes "alice allow 1 1" ++ 10 ∷ [] ++ codes "alice run 9" ++ 10 ∷ [] ++ codes "alice status 1" ++ 10 ∷ [] ++ codes "alice reports 1 5" ++ 10 ∷ []

-- the bytes of substitute_in_an_exhausted_shoen.expected
abbrev pub substitute_in_an_exhausted_shoen_output : List ℕ
substitute_in_an_exhausted_shoen_output = codes "alice + shoen 1" ++ 10 ∷ [] ++ codes "alice + 1" ++ 10 ∷ [] ++ codes "alice + exhausted 1 1 1" ++ 10 ∷ [] ++ codes "alice + 3" ++ 10 ∷ [] ++ codes "alice started" ++ 10 ∷ [] ++ codes "alice exception(failure,'='(1,2),_4)" ++ 10 ∷ [] ++ codes "alice exhausted" ++ 10 ∷ [] ++ codes "alice + sent" ++ 10 ∷ [] ++ codes "alice + 0" ++ 10 ∷ [] ++ codes "alice + sent" ++ 10 ∷ [] ++ codes "alice + 2" ++ 10 ∷ [] ++ codes "alice + exhausted 2 2 1" ++ 10 ∷ [] ++ codes "alice + 1" ++ 10 ∷ [] ++ codes "alice exhausted" ++ 10 ∷ [] ++ codes "alice + sent" ++ 10 ∷ [] ++ codes "alice + 2" ++ 10 ∷ [] ++ codes "alice + terminated 3 3 0" ++ 10 ∷ [] ++ codes "alice + 1" ++ 10 ∷ [] ++ codes "alice terminated" ++ 10 ∷ []

-- the bytes of substitute_of_an_integer.script
abbrev pub substitute_of_an_integer_script : List ℕ
substitute_of_an_integer_script = codes "accounts alice" ++ 10 ∷ [] ++ codes "alice load 116" ++ 10 ∷ [] ++ codes ":- module u." ++ 10 ∷ [] ++ codes "m(R) :- true | shoen:execute(1 = 2,0,10,10,C,R), f(R)." ++ 10 ∷ [] ++ codes "f([started,exception(K,G,N)|T]) :- true | N = 0." ++ 10 ∷ [] ++ codes "alice start 100 0 10 u:m(R)" ++ 10 ∷ [] ++ codes "alice run 100" ++ 10 ∷ [] ++ codes "alice value 1" ++ 10 ∷ []

-- the bytes of substitute_of_an_integer.expected
abbrev pub substitute_of_an_integer_output : List ℕ
substitute_of_an_integer_output = codes "alice + loaded u" ++ 10 ∷ [] ++ codes "alice + shoen 1" ++ 10 ∷ [] ++ codes "alice + 6" ++ 10 ∷ [] ++ codes "alice + u:m([started,exception(failure,'='(1,2),0),exception(illegal_input,0,_9)|_10])" ++ 10 ∷ []

-- the bytes of substitute_waits_for_the_predicate.script
abbrev pub substitute_waits_for_the_predicate_script : List ℕ
substitute_waits_for_the_predicate_script = codes "accounts alice" ++ 10 ∷ [] ++ codes "alice load 181" ++ 10 ∷ [] ++ codes ":- module h." ++ 10 ∷ [] ++ codes "m :- true | shoen:execute(1 = 2,0,9,9,C,R), f(R,P), b(P)@priority(0)." ++ 10 ∷ [] ++ codes "f([started,exception(K,G,N)|T],P) :- true | N = h:P." ++ 10 ∷ [] ++ codes "b(P) :- true | P = done." ++ 10 ∷ [] ++ codes "done :- true | true." ++ 10 ∷ [] ++ codes "alice start 100 0 10 h:m" ++ 10 ∷ [] ++ codes "alice run 5" ++ 10 ∷ [] ++ codes "alice status 2" ++ 10 ∷ [] ++ codes "alice quiet" ++ 10 ∷ [] ++ codes "alice reduce 8 0" ++ 10 ∷ [] ++ codes "alice run 2" ++ 10 ∷ [] ++ codes "alice reduce 8 1" ++ 10 ∷ [] ++ codes "alice run 100" ++ 10 ∷ [] ++ codes "alice status 2" ++ 10 ∷ [] ++ codes "alice status 1" ++ 10 ∷ []

-- the bytes of substitute_waits_for_the_predicate.expected
abbrev pub substitute_waits_for_the_predicate_output : List ℕ
substitute_waits_for_the_predicate_output = codes "alice + loaded h" ++ 10 ∷ [] ++ codes "alice + shoen 1" ++ 10 ∷ [] ++ codes "alice + 5" ++ 10 ∷ [] ++ codes "alice + running 1 9 1" ++ 10 ∷ [] ++ codes "alice + no" ++ 10 ∷ [] ++ codes "alice - 6 step" ++ 10 ∷ [] ++ codes "alice + 2" ++ 10 ∷ [] ++ codes "alice - 6 step" ++ 10 ∷ [] ++ codes "alice + 3" ++ 10 ∷ [] ++ codes "alice + terminated 4 9 0" ++ 10 ∷ [] ++ codes "alice + terminated 10 100 0" ++ 10 ∷ []

-- the bytes of two_answers_for_one_exception.script
abbrev pub two_answers_for_one_exception_script : List ℕ
two_answers_for_one_exception_script = codes "accounts alice" ++ 10 ∷ [] ++ codes "alice load 172" ++ 10 ∷ [] ++ codes ":- module v." ++ 10 ∷ [] ++ codes "m(R) :- true | shoen:execute(1 = 2,0,9,9,C,R), f(R)." ++ 10 ∷ [] ++ codes "f([started,exception(K,G,N)|T]) :- true | a(N), b(N)." ++ 10 ∷ [] ++ codes "a(N) :- true | N = true." ++ 10 ∷ [] ++ codes "b(N) :- true | N = (1 = 1)." ++ 10 ∷ [] ++ codes "alice start 100 0 10 v:m(R)" ++ 10 ∷ [] ++ codes "alice run 100" ++ 10 ∷ [] ++ codes "alice value 1" ++ 10 ∷ [] ++ codes "alice status 2" ++ 10 ∷ [] ++ codes "alice status 1" ++ 10 ∷ [] ++ codes "alice reports 1 2" ++ 10 ∷ [] ++ codes "alice answer 1 2 true" ++ 10 ∷ [] ++ codes "alice run 9" ++ 10 ∷ [] ++ codes "alice status 1" ++ 10 ∷ []

-- the bytes of two_answers_for_one_exception.expected
abbrev pub two_answers_for_one_exception_output : List ℕ
two_answers_for_one_exception_output = codes "alice + loaded v" ++ 10 ∷ [] ++ codes "alice + shoen 1" ++ 10 ∷ [] ++ codes "alice + 10" ++ 10 ∷ [] ++ codes "alice + v:m([started,exception(failure,'='(1,2),true),terminated])" ++ 10 ∷ [] ++ codes "alice + terminated 3 9 0" ++ 10 ∷ [] ++ codes "alice + running 10 100 1" ++ 10 ∷ [] ++ codes "alice + 1" ++ 10 ∷ [] ++ codes "alice exception(failure,'='(true,'='(1,1)),_9)" ++ 10 ∷ [] ++ codes "alice + sent" ++ 10 ∷ [] ++ codes "alice + 2" ++ 10 ∷ [] ++ codes "alice + terminated 12 100 0" ++ 10 ∷ []

-- the bytes of two_shoens_on_one_stream.script
abbrev pub two_shoens_on_one_stream_script : List ℕ
two_shoens_on_one_stream_script = codes "accounts alice" ++ 10 ∷ [] ++ codes "alice load 91" ++ 10 ∷ [] ++ codes ":- module y." ++ 10 ∷ [] ++ codes "p(R) :- true | shoen:execute(true,0,10,5,C,R), shoen:execute(true,0,10,5,D,R)." ++ 10 ∷ [] ++ codes "alice start 100 0 10 y:p(R)" ++ 10 ∷ [] ++ codes "alice run 100" ++ 10 ∷ [] ++ codes "alice value 1" ++ 10 ∷ [] ++ codes "alice status 3" ++ 10 ∷ []

-- the bytes of two_shoens_on_one_stream.expected
abbrev pub two_shoens_on_one_stream_output : List ℕ
two_shoens_on_one_stream_output = codes "alice + loaded y" ++ 10 ∷ [] ++ codes "alice + shoen 1" ++ 10 ∷ [] ++ codes "alice + 5" ++ 10 ∷ [] ++ codes "alice + y:p([started,terminated])" ++ 10 ∷ [] ++ codes "alice + terminated 1 5 0" ++ 10 ∷ []

-- each of these example scripts has the output that stands beside it
pub record ShoenExamplesHold : Type 0 where
  pub a_failure_stops_nothing_else : output a_failure_stops_nothing_else_script ≡ a_failure_stops_nothing_else_output
  pub abort_ends_what_is_below : output abort_ends_what_is_below_script ≡ abort_ends_what_is_below_output
  pub abort_removes_substitutes : output abort_removes_substitutes_script ≡ abort_removes_substitutes_output
  pub abort_tells_nothing_below : output abort_tells_nothing_below_script ≡ abort_tells_nothing_below_output
  pub abort_with_two_children : output abort_with_two_children_script ≡ abort_with_two_children_output
  pub aborted_child_ends_its_parent : output aborted_child_ends_its_parent_script ≡ aborted_child_ends_its_parent_output
  pub allow_of_a_variable_waits : output allow_of_a_variable_waits_script ≡ allow_of_a_variable_waits_output
  pub allow_raises_an_allowance : output allow_raises_an_allowance_script ≡ allow_raises_an_allowance_output
  pub allowance_has_a_greatest : output allowance_has_a_greatest_script ≡ allowance_has_a_greatest_output
  pub allowance_of_0 : output allowance_of_0_script ≡ allowance_of_0_output
  pub allowance_runs_out : output allowance_runs_out_script ≡ allowance_runs_out_output
  pub allowance_runs_out_twice : output allowance_runs_out_twice_script ≡ allowance_runs_out_twice_output
  pub answer_of_the_program_is_no_goal : output answer_of_the_program_is_no_goal_script ≡ answer_of_the_program_is_no_goal_output
  pub answer_opens_a_shoen : output answer_opens_a_shoen_script ≡ answer_opens_a_shoen_output
  pub answer_that_fails_is_answered : output answer_that_fails_is_answered_script ≡ answer_that_fails_is_answered_output
  pub answers_that_are_refused : output answers_that_are_refused_script ≡ answers_that_are_refused_output
  pub charges_go_up_the_tree : output charges_go_up_the_tree_script ≡ charges_go_up_the_tree_output
  pub child_stopped_below_an_exhausted_shoen : output child_stopped_below_an_exhausted_shoen_script ≡ child_stopped_below_an_exhausted_shoen_output
  pub clause_below_otherwise_closes : output clause_below_otherwise_closes_script ≡ clause_below_otherwise_closes_output
  pub commands_to_shoens_that_are_none : output commands_to_shoens_that_are_none_script ≡ commands_to_shoens_that_are_none_output
  pub control_breaks_off : output control_breaks_off_script ≡ control_breaks_off_output
  pub control_is_closed : output control_is_closed_script ≡ control_is_closed_output
  pub ended_or_exhausted : output ended_or_exhausted_script ≡ ended_or_exhausted_output
  pub exception_is_answered : output exception_is_answered_script ≡ exception_is_answered_output
  pub exhausted_innermost_first : output exhausted_innermost_first_script ≡ exhausted_innermost_first_output
  pub exhausted_parent_holds_back : output exhausted_parent_holds_back_script ≡ exhausted_parent_holds_back_output
  pub failure_is_reported : output failure_is_reported_script ≡ failure_is_reported_output
  pub goal_of_a_child_has_its_greatest_priority : output goal_of_a_child_has_its_greatest_priority_script ≡ goal_of_a_child_has_its_greatest_priority_output
  pub inner_shoen_stays_stopped : output inner_shoen_stays_stopped_script ≡ inner_shoen_stays_stopped_output
  pub least_priority_of_a_child_is_clipped : output least_priority_of_a_child_is_clipped_script ≡ least_priority_of_a_child_is_clipped_output
  pub one_answer_for_two_exceptions : output one_answer_for_two_exceptions_script ≡ one_answer_for_two_exceptions_output
  pub orders_of_each_kind : output orders_of_each_kind_script ≡ orders_of_each_kind_output
  pub orders_that_are_wrong : output orders_that_are_wrong_script ≡ orders_that_are_wrong_output
  pub orders_that_wait : output orders_that_wait_script ≡ orders_that_wait_output
  pub overflow_is_reported : output overflow_is_reported_script ≡ overflow_is_reported_output
  pub priorities_are_clipped_to_a_childs_range : output priorities_are_clipped_to_a_childs_range_script ≡ priorities_are_clipped_to_a_childs_range_output
  pub range_of_a_child_is_clipped : output range_of_a_child_is_clipped_script ≡ range_of_a_child_is_clipped_output
  pub report_that_holds_its_tail : output report_that_holds_its_tail_script ≡ report_that_holds_its_tail_output
  pub shoens_32_deep : output shoens_32_deep_script ≡ shoens_32_deep_output
  pub slices_by_allowances : output slices_by_allowances_script ≡ slices_by_allowances_output
  pub stopped_and_resumed : output stopped_and_resumed_script ≡ stopped_and_resumed_output
  pub stopped_before_exhausted : output stopped_before_exhausted_script ≡ stopped_before_exhausted_output
  pub stopped_once : output stopped_once_script ≡ stopped_once_output
  pub stopped_parent_holds_back : output stopped_parent_holds_back_script ≡ stopped_parent_holds_back_output
  pub stopped_shoen_terminates : output stopped_shoen_terminates_script ≡ stopped_shoen_terminates_output
  pub stopped_while_exhausted : output stopped_while_exhausted_script ≡ stopped_while_exhausted_output
  pub stream_bound_by_the_program : output stream_bound_by_the_program_script ≡ stream_bound_by_the_program_output
  pub substitute_in_a_stopped_shoen : output substitute_in_a_stopped_shoen_script ≡ substitute_in_a_stopped_shoen_output
  pub substitute_in_an_exhausted_shoen : output substitute_in_an_exhausted_shoen_script ≡ substitute_in_an_exhausted_shoen_output
  pub substitute_of_an_integer : output substitute_of_an_integer_script ≡ substitute_of_an_integer_output
  pub substitute_waits_for_the_predicate : output substitute_waits_for_the_predicate_script ≡ substitute_waits_for_the_predicate_output
  pub two_answers_for_one_exception : output two_answers_for_one_exception_script ≡ two_answers_for_one_exception_output
  pub two_shoens_on_one_stream : output two_shoens_on_one_stream_script ≡ two_shoens_on_one_stream_output
