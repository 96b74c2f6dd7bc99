-- The example scripts with what is written for them. Made by tools/examples_as_definitions from examples/scripts.
use Rattle.std.specs.Prelude.{◌≡◌, ℕ, List, [], ◌∷◌, ◌++◌, codes}
use Rattle.kl1_model_server.specs.Script.{output}

-- the bytes of append_by_single_reductions.script
abbrev pub append_by_single_reductions_script : List ℕ
append_by_single_reductions_script = codes "accounts alice bob" ++ 10 ∷ [] ++ codes "alice load 91" ++ 10 ∷ [] ++ codes ":- module app." ++ 10 ∷ [] ++ codes "app([],Y,Z) :- true | Z = Y." ++ 10 ∷ [] ++ codes "app([A|X],Y,Z) :- true | Z = [A|W], app(X,Y,W)." ++ 10 ∷ [] ++ codes "alice start 100 0 10 app:app([1],[2],R)" ++ 10 ∷ [] ++ codes "alice reduce 2 2" ++ 10 ∷ [] ++ codes "alice reduce 3 0" ++ 10 ∷ [] ++ codes "alice reduce 4 1" ++ 10 ∷ [] ++ codes "alice reduce 5 0" ++ 10 ∷ [] ++ codes "alice value 1" ++ 10 ∷ []

-- the bytes of append_by_single_reductions.expected
abbrev pub append_by_single_reductions_output : List ℕ
append_by_single_reductions_output = codes "alice + loaded app" ++ 10 ∷ [] ++ codes "alice + shoen 1" ++ 10 ∷ [] ++ codes "alice + reduced" ++ 10 ∷ [] ++ codes "alice + reduced" ++ 10 ∷ [] ++ codes "alice + reduced" ++ 10 ∷ [] ++ codes "alice + reduced" ++ 10 ∷ [] ++ codes "alice + app:app([1],[2],[1,2])" ++ 10 ∷ []

-- the bytes of append_two_lists.script
abbrev pub append_two_lists_script : List ℕ
append_two_lists_script = codes "accounts alice bob" ++ 10 ∷ [] ++ codes "alice load 91" ++ 10 ∷ [] ++ codes ":- module app." ++ 10 ∷ [] ++ codes "app([],Y,Z) :- true | Z = Y." ++ 10 ∷ [] ++ codes "app([A|X],Y,Z) :- true | Z = [A|W], app(X,Y,W)." ++ 10 ∷ [] ++ codes "alice start 100 0 10 app:app([1],[2],R)" ++ 10 ∷ [] ++ codes "alice run 100" ++ 10 ∷ [] ++ codes "alice value 1" ++ 10 ∷ []

-- the bytes of append_two_lists.expected
abbrev pub append_two_lists_output : List ℕ
append_two_lists_output = codes "alice + loaded app" ++ 10 ∷ [] ++ codes "alice + shoen 1" ++ 10 ∷ [] ++ codes "alice + 4" ++ 10 ∷ [] ++ codes "alice + app:app([1],[2],[1,2])" ++ 10 ∷ []

-- the bytes of append_with_its_status.script
abbrev pub append_with_its_status_script : List ℕ
append_with_its_status_script = codes "accounts alice" ++ 10 ∷ [] ++ codes "alice load 91" ++ 10 ∷ [] ++ codes ":- module app." ++ 10 ∷ [] ++ codes "app([],Y,Z) :- true | Z = Y." ++ 10 ∷ [] ++ codes "app([A|X],Y,Z) :- true | Z = [A|W], app(X,Y,W)." ++ 10 ∷ [] ++ codes "alice start 100 0 10 app:app([1],[2],R)" ++ 10 ∷ [] ++ codes "alice run 100" ++ 10 ∷ [] ++ codes "alice value 1" ++ 10 ∷ [] ++ codes "alice status 1" ++ 10 ∷ []

-- the bytes of append_with_its_status.expected
abbrev pub append_with_its_status_output : List ℕ
append_with_its_status_output = codes "alice + loaded app" ++ 10 ∷ [] ++ codes "alice + shoen 1" ++ 10 ∷ [] ++ codes "alice + 4" ++ 10 ∷ [] ++ codes "alice + app:app([1],[2],[1,2])" ++ 10 ∷ [] ++ codes "alice + terminated 4 100 0" ++ 10 ∷ []

-- the bytes of arithmetic.script
abbrev pub arithmetic_script : List ℕ
arithmetic_script = codes "accounts alice" ++ 10 ∷ [] ++ codes "alice start 10 0 10 X := 9223372036854775807 + 1" ++ 10 ∷ [] ++ codes "alice run 10" ++ 10 ∷ [] ++ codes "alice value 1" ++ 10 ∷ [] ++ codes "alice start 10 0 10 X := -9223372036854775808 mod -1" ++ 10 ∷ [] ++ codes "alice run 10" ++ 10 ∷ [] ++ codes "alice value 2" ++ 10 ∷ [] ++ codes "alice start 10 0 10 X := -7 mod 2" ++ 10 ∷ [] ++ codes "alice run 10" ++ 10 ∷ [] ++ codes "alice value 3" ++ 10 ∷ [] ++ codes "alice start 10 0 10 X := 1 - 2 - 3" ++ 10 ∷ [] ++ codes "alice run 1" ++ 10 ∷ [] ++ codes "alice value 4" ++ 10 ∷ [] ++ codes "alice start 10 0 10 X := 2 + 3 * 4 / 5" ++ 10 ∷ [] ++ codes "alice run 1" ++ 10 ∷ [] ++ codes "alice value 5" ++ 10 ∷ [] ++ codes "alice start 10 0 10 X := Y + 1" ++ 10 ∷ [] ++ codes "alice run 1" ++ 10 ∷ [] ++ codes "alice start 10 0 10 X := (a)" ++ 10 ∷ [] ++ codes "alice run 1" ++ 10 ∷ []

-- the bytes of arithmetic.expected
abbrev pub arithmetic_output : List ℕ
arithmetic_output = codes "alice + shoen 1" ++ 10 ∷ [] ++ codes "alice + 1" ++ 10 ∷ [] ++ codes "alice + ':='(_1,'+'(9223372036854775807,1))" ++ 10 ∷ [] ++ codes "alice + shoen 2" ++ 10 ∷ [] ++ codes "alice + 1" ++ 10 ∷ [] ++ codes "alice + ':='(0,mod(-9223372036854775808,-1))" ++ 10 ∷ [] ++ codes "alice + shoen 3" ++ 10 ∷ [] ++ codes "alice + 1" ++ 10 ∷ [] ++ codes "alice + ':='(-1,mod(-7,2))" ++ 10 ∷ [] ++ codes "alice + shoen 4" ++ 10 ∷ [] ++ codes "alice + 1" ++ 10 ∷ [] ++ codes "alice + ':='(-4,'-'('-'(1,2),3))" ++ 10 ∷ [] ++ codes "alice + shoen 5" ++ 10 ∷ [] ++ codes "alice + 1" ++ 10 ∷ [] ++ codes "alice + ':='(4,'+'(2,'/'('*'(3,4),5)))" ++ 10 ∷ [] ++ codes "alice + shoen 6" ++ 10 ∷ [] ++ codes "alice + 0" ++ 10 ∷ [] ++ codes "alice + shoen 7" ++ 10 ∷ [] ++ codes "alice + 1" ++ 10 ∷ []

-- the bytes of body_goals_inherit_priority.script
abbrev pub body_goals_inherit_priority_script : List ℕ
body_goals_inherit_priority_script = codes "accounts alice" ++ 10 ∷ [] ++ codes "alice load 81" ++ 10 ∷ [] ++ codes ":- module k." ++ 10 ∷ [] ++ codes "g :- true | h(a)@priority(1), h(b)@priority(9)." ++ 10 ∷ [] ++ codes "h(X) :- true | true." ++ 10 ∷ [] ++ codes "alice start 10 3 5 k:g" ++ 10 ∷ [] ++ codes "alice run 3" ++ 10 ∷ [] ++ codes "alice reduce 5 0" ++ 10 ∷ [] ++ codes "alice reduce 3 1" ++ 10 ∷ [] ++ codes "alice run 9" ++ 10 ∷ [] ++ codes "alice status 1" ++ 10 ∷ []

-- the bytes of body_goals_inherit_priority.expected
abbrev pub body_goals_inherit_priority_output : List ℕ
body_goals_inherit_priority_output = codes "alice + loaded k" ++ 10 ∷ [] ++ codes "alice + shoen 1" ++ 10 ∷ [] ++ codes "alice + 3" ++ 10 ∷ [] ++ codes "alice - 6 step" ++ 10 ∷ [] ++ codes "alice + reduced" ++ 10 ∷ [] ++ codes "alice + 1" ++ 10 ∷ [] ++ codes "alice + terminated 5 10 0" ++ 10 ∷ []

-- the bytes of clash_outweighs_waiting.script
abbrev pub clash_outweighs_waiting_script : List ℕ
clash_outweighs_waiting_script = codes "accounts alice" ++ 10 ∷ [] ++ codes "alice load 20" ++ 10 ∷ [] ++ codes ":- module t." ++ 10 ∷ [] ++ codes "q(a,b)." ++ 10 ∷ [] ++ codes "alice start 10 0 10 t:q(X,c)" ++ 10 ∷ [] ++ codes "alice run 10" ++ 10 ∷ [] ++ codes "alice value 1" ++ 10 ∷ []

-- the bytes of clash_outweighs_waiting.expected
abbrev pub clash_outweighs_waiting_output : List ℕ
clash_outweighs_waiting_output = codes "alice + loaded t" ++ 10 ∷ [] ++ codes "alice + shoen 1" ++ 10 ∷ [] ++ codes "alice + 1" ++ 10 ∷ [] ++ codes "alice + t:q(_1,c)" ++ 10 ∷ []

-- the bytes of codes_cell_by_cell.script
abbrev pub codes_cell_by_cell_script : List ℕ
codes_cell_by_cell_script = codes "accounts alice" ++ 10 ∷ [] ++ codes "alice start 9 0 9 atom_from([X|foo],A)" ++ 10 ∷ [] ++ codes "alice run 9" ++ 10 ∷ [] ++ codes "alice start 9 0 9 atom_from([a|T],A)" ++ 10 ∷ [] ++ codes "alice run 9" ++ 10 ∷ [] ++ codes "alice reports 2 1" ++ 10 ∷ []

-- the bytes of codes_cell_by_cell.expected
abbrev pub codes_cell_by_cell_output : List ℕ
codes_cell_by_cell_output = codes "alice + shoen 1" ++ 10 ∷ [] ++ codes "alice + 0" ++ 10 ∷ [] ++ codes "alice + shoen 2" ++ 10 ∷ [] ++ codes "alice + 1" ++ 10 ∷ [] ++ codes "alice + 2" ++ 10 ∷ [] ++ codes "alice started" ++ 10 ∷ [] ++ codes "alice exception(illegal_input,atom_from([a|_6],_7),_11)" ++ 10 ∷ []

-- the bytes of codes_that_are_wrong.script
abbrev pub codes_that_are_wrong_script : List ℕ
codes_that_are_wrong_script = codes "accounts alice" ++ 10 ∷ [] ++ codes "alice start 9 0 9 atom_from(foo,A)" ++ 10 ∷ [] ++ codes "alice start 9 0 9 atom_from([31],A)" ++ 10 ∷ [] ++ codes "alice start 9 0 9 atom_from([127],A)" ++ 10 ∷ [] ++ codes "alice start 9 0 9 atom_from([97|x],A)" ++ 10 ∷ [] ++ codes "alice start 9 0 9 atom_from([a],A)" ++ 10 ∷ [] ++ codes "alice run 99" ++ 10 ∷ [] ++ codes "alice reports 2 2" ++ 10 ∷ [] ++ codes "alice start 9 0 9 atom_from([97|T],A)" ++ 10 ∷ [] ++ codes "alice start 9 0 9 atom_from([X,a],A)" ++ 10 ∷ [] ++ codes "alice start 9 0 9 atom_from(T,A)" ++ 10 ∷ [] ++ codes "alice run 99" ++ 10 ∷ [] ++ codes "alice start 9 0 9 atom_from([],A)" ++ 10 ∷ [] ++ codes "alice start 9 0 9 atom_from([97],b)" ++ 10 ∷ [] ++ codes "alice run 99" ++ 10 ∷ [] ++ codes "alice value 9" ++ 10 ∷ [] ++ codes "alice reports 10 2" ++ 10 ∷ []

-- the bytes of codes_that_are_wrong.expected
abbrev pub codes_that_are_wrong_output : List ℕ
codes_that_are_wrong_output = codes "alice + shoen 1" ++ 10 ∷ [] ++ codes "alice + shoen 2" ++ 10 ∷ [] ++ codes "alice + shoen 3" ++ 10 ∷ [] ++ codes "alice + shoen 4" ++ 10 ∷ [] ++ codes "alice + shoen 5" ++ 10 ∷ [] ++ codes "alice + 5" ++ 10 ∷ [] ++ codes "alice + 1" ++ 10 ∷ [] ++ codes "alice exception(illegal_input,atom_from([31],_5),_23)" ++ 10 ∷ [] ++ codes "alice + shoen 6" ++ 10 ∷ [] ++ codes "alice + shoen 7" ++ 10 ∷ [] ++ codes "alice + shoen 8" ++ 10 ∷ [] ++ codes "alice + 0" ++ 10 ∷ [] ++ codes "alice + shoen 9" ++ 10 ∷ [] ++ codes "alice + shoen 10" ++ 10 ∷ [] ++ codes "alice + 2" ++ 10 ∷ [] ++ codes "alice + atom_from([],'')" ++ 10 ∷ [] ++ codes "alice + 1" ++ 10 ∷ [] ++ codes "alice exception(failure,atom_from([97],b),_54)" ++ 10 ∷ []

-- the bytes of countdown.script
abbrev pub countdown_script : List ℕ
countdown_script = codes "accounts alice" ++ 10 ∷ [] ++ codes "alice load 73" ++ 10 ∷ [] ++ codes ":- module n." ++ 10 ∷ [] ++ codes "w(0) :- true | true, true." ++ 10 ∷ [] ++ codes "w(N) :- N > 0 | M := N - 1, w(M)." ++ 10 ∷ [] ++ codes "alice start 100 0 10 n:w(2)" ++ 10 ∷ [] ++ codes "alice run 100" ++ 10 ∷ [] ++ codes "alice quiet" ++ 10 ∷ [] ++ codes "alice start 100 0 10 n:w(-1)" ++ 10 ∷ [] ++ codes "alice reduce 10 1" ++ 10 ∷ [] ++ codes "alice reduce 10 2" ++ 10 ∷ [] ++ codes "alice run 9" ++ 10 ∷ []

-- the bytes of countdown.expected
abbrev pub countdown_output : List ℕ
countdown_output = codes "alice + loaded n" ++ 10 ∷ [] ++ codes "alice + shoen 1" ++ 10 ∷ [] ++ codes "alice + 7" ++ 10 ∷ [] ++ codes "alice + yes" ++ 10 ∷ [] ++ codes "alice + shoen 2" ++ 10 ∷ [] ++ codes "alice - 6 step" ++ 10 ∷ [] ++ codes "alice - 6 step" ++ 10 ∷ [] ++ codes "alice + 1" ++ 10 ∷ []

-- the bytes of cyclic_term_is_reported.script
abbrev pub cyclic_term_is_reported_script : List ℕ
cyclic_term_is_reported_script = codes "accounts alice" ++ 10 ∷ [] ++ codes "alice start 10 0 10 X = f(X)" ++ 10 ∷ [] ++ codes "alice run 10" ++ 10 ∷ [] ++ codes "alice reports 1 2" ++ 10 ∷ []

-- the bytes of cyclic_term_is_reported.expected
abbrev pub cyclic_term_is_reported_output : List ℕ
cyclic_term_is_reported_output = codes "alice + shoen 1" ++ 10 ∷ [] ++ codes "alice + 1" ++ 10 ∷ [] ++ codes "alice + 1" ++ 10 ∷ [] ++ codes "alice exception(failure,'='(_1,f(_1)),_5)" ++ 10 ∷ []

-- the bytes of failed_goal_is_started_again.script
abbrev pub failed_goal_is_started_again_script : List ℕ
failed_goal_is_started_again_script = codes "accounts alice" ++ 10 ∷ [] ++ codes "alice load 310" ++ 10 ∷ [] ++ codes ":- module again." ++ 10 ∷ [] ++ codes "again(N,R) :- true | shoen:execute(again:work(N,R),0,10,100,C,S), watch(S,N)." ++ 10 ∷ [] ++ codes "work(0,R) :- true | R = done." ++ 10 ∷ [] ++ codes "watch([started|S],N) :- true | watch(S,N)." ++ 10 ∷ [] ++ codes "watch([exception(K,again:work(L,R),New)|S],N) :- true | M := N - 1, New = again:work(M,R), watch(S,M)." ++ 10 ∷ [] ++ codes "watch([terminated|S],N) :- true | true." ++ 10 ∷ [] ++ codes "alice start 100 0 10 again:again(2,R)" ++ 10 ∷ [] ++ codes "alice run 100" ++ 10 ∷ [] ++ codes "alice value 1" ++ 10 ∷ [] ++ codes "alice status 2" ++ 10 ∷ [] ++ codes "alice status 3" ++ 10 ∷ [] ++ codes "alice status 1" ++ 10 ∷ [] ++ codes "alice reports 1 1" ++ 10 ∷ []

-- the bytes of failed_goal_is_started_again.expected
abbrev pub failed_goal_is_started_again_output : List ℕ
failed_goal_is_started_again_output = codes "alice + loaded again" ++ 10 ∷ [] ++ codes "alice + shoen 1" ++ 10 ∷ [] ++ codes "alice + 17" ++ 10 ∷ [] ++ codes "alice + again:again(2,done)" ++ 10 ∷ [] ++ codes "alice + terminated 6 100 0" ++ 10 ∷ [] ++ codes "alice - 4 noshoen" ++ 10 ∷ [] ++ codes "alice + terminated 17 100 0" ++ 10 ∷ [] ++ codes "alice + 2" ++ 10 ∷ [] ++ codes "alice started" ++ 10 ∷ [] ++ codes "alice terminated" ++ 10 ∷ []

-- the bytes of first_of_two_clauses.script
abbrev pub first_of_two_clauses_script : List ℕ
first_of_two_clauses_script = codes "accounts alice bob" ++ 10 ∷ [] ++ codes "alice load 64" ++ 10 ∷ [] ++ codes ":- module m." ++ 10 ∷ [] ++ codes "m(X,R) :- true | R = one." ++ 10 ∷ [] ++ codes "m(X,R) :- true | R = two." ++ 10 ∷ [] ++ codes "alice start 10 0 10 m:m(X,R)" ++ 10 ∷ [] ++ codes "alice run 10" ++ 10 ∷ [] ++ codes "alice value 1" ++ 10 ∷ []

-- the bytes of first_of_two_clauses.expected
abbrev pub first_of_two_clauses_output : List ℕ
first_of_two_clauses_output = codes "alice + loaded m" ++ 10 ∷ [] ++ codes "alice + shoen 1" ++ 10 ∷ [] ++ codes "alice + 2" ++ 10 ∷ [] ++ codes "alice + m:m(_1,one)" ++ 10 ∷ []

-- the bytes of forms_that_are_faults.script
abbrev pub forms_that_are_faults_script : List ℕ
forms_that_are_faults_script = codes "accounts alice" ++ 10 ∷ [] ++ codes "alice load 42" ++ 10 ∷ [] ++ codes ":- module k." ++ 10 ∷ [] ++ codes "g :- true | true@priority(1)." ++ 10 ∷ [] ++ codes "alice load 60" ++ 10 ∷ [] ++ codes ":- module j." ++ 10 ∷ [] ++ codes "p :- shoen:execute(true,0,1,1,C,R)@priority(1)." ++ 10 ∷ [] ++ codes "alice load 45" ++ 10 ∷ [] ++ codes ":- module j." ++ 10 ∷ [] ++ codes "p :- atom_from(X,Y)@priority(1)." ++ 10 ∷ [] ++ codes "alice load 35" ++ 10 ∷ [] ++ codes ":- module j." ++ 10 ∷ [] ++ codes "p :- q@priority(4096)." ++ 10 ∷ [] ++ codes "alice load 36" ++ 10 ∷ [] ++ codes ":- module j." ++ 10 ∷ [] ++ codes "p :- X = Y@priority(1)." ++ 10 ∷ [] ++ codes "alice load 43" ++ 10 ∷ [] ++ codes ":- module j." ++ 10 ∷ [] ++ codes "atom_from(X,Y) :- true | true." ++ 10 ∷ [] ++ codes "alice load 34" ++ 10 ∷ [] ++ codes ":- module z." ++ 10 ∷ [] ++ codes "p(X) :- Y > 0 | true." ++ 10 ∷ [] ++ codes "alice load 100" ++ 10 ∷ [] ++ codes ":- module h." ++ 10 ∷ [] ++ codes "p(_,_) :- true, true | q@priority(4095), m:q@priority(0), shoen:execute(1)@priority(7)." ++ 10 ∷ []

-- the bytes of forms_that_are_faults.expected
abbrev pub forms_that_are_faults_output : List ℕ
forms_that_are_faults_output = codes "alice - 2 source 2" ++ 10 ∷ [] ++ codes "alice - 2 source 2" ++ 10 ∷ [] ++ codes "alice - 2 source 2" ++ 10 ∷ [] ++ codes "alice - 2 source 2" ++ 10 ∷ [] ++ codes "alice - 2 source 2" ++ 10 ∷ [] ++ codes "alice - 2 source 2" ++ 10 ∷ [] ++ codes "alice - 2 source 2" ++ 10 ∷ [] ++ codes "alice + loaded h" ++ 10 ∷ []

-- the bytes of fresh_variables.script
abbrev pub fresh_variables_script : List ℕ
fresh_variables_script = codes "accounts alice bob" ++ 10 ∷ [] ++ codes "alice load 61" ++ 10 ∷ [] ++ codes ":- module t." ++ 10 ∷ [] ++ codes "p(R) :- true | q(B,A), R = f(A,B,C,_,_)." ++ 10 ∷ [] ++ codes "q(X,Y)." ++ 10 ∷ [] ++ codes "alice start 9 0 9 t:p(R)" ++ 10 ∷ [] ++ codes "alice run 20" ++ 10 ∷ [] ++ codes "alice value 1" ++ 10 ∷ []

-- the bytes of fresh_variables.expected
abbrev pub fresh_variables_output : List ℕ
fresh_variables_output = codes "alice + loaded t" ++ 10 ∷ [] ++ codes "alice + shoen 1" ++ 10 ∷ [] ++ codes "alice + 4" ++ 10 ∷ [] ++ codes "alice + t:p(f(_6,_5,_7,_8,_9))" ++ 10 ∷ []

-- the bytes of goal_waits_for_ever.script
abbrev pub goal_waits_for_ever_script : List ℕ
goal_waits_for_ever_script = codes "accounts alice" ++ 10 ∷ [] ++ codes "alice load 91" ++ 10 ∷ [] ++ codes ":- module app." ++ 10 ∷ [] ++ codes "app([],Y,Z) :- true | Z = Y." ++ 10 ∷ [] ++ codes "app([A|X],Y,Z) :- true | Z = [A|W], app(X,Y,W)." ++ 10 ∷ [] ++ codes "alice start 100 0 10 app:app(X,[2],R)" ++ 10 ∷ [] ++ codes "alice run 100" ++ 10 ∷ [] ++ codes "alice quiet" ++ 10 ∷ [] ++ codes "alice value 1" ++ 10 ∷ []

-- the bytes of goal_waits_for_ever.expected
abbrev pub goal_waits_for_ever_output : List ℕ
goal_waits_for_ever_output = codes "alice + loaded app" ++ 10 ∷ [] ++ codes "alice + shoen 1" ++ 10 ∷ [] ++ codes "alice + 0" ++ 10 ∷ [] ++ codes "alice + yes" ++ 10 ∷ [] ++ codes "alice + app:app(_1,[2],_2)" ++ 10 ∷ []

-- the bytes of goals_of_a_start.script
abbrev pub goals_of_a_start_script : List ℕ
goals_of_a_start_script = codes "accounts alice bob" ++ 10 ∷ [] ++ codes "alice start 9223372036854775807 0 4095 true" ++ 10 ∷ [] ++ codes "alice start 9223372036854775808 0 1 true" ++ 10 ∷ [] ++ codes "alice start 1 0 4096 true" ++ 10 ∷ [] ++ codes "alice start 1 2 1 true" ++ 10 ∷ [] ++ codes "alice start 1 0 1" ++ 10 ∷ [] ++ codes "alice start 1 0 1 p(X)" ++ 10 ∷ [] ++ codes "alice start 1 0 1 X" ++ 10 ∷ [] ++ codes "alice start 1 0 1 true." ++ 10 ∷ [] ++ codes "alice start 1 0 1 X = -1 % a comment" ++ 10 ∷ [] ++ codes "alice start 1 0 1 X := 1" ++ 10 ∷ [] ++ codes "alice start 1 0 1 atom_from(X,Y)" ++ 10 ∷ [] ++ codes "alice start 1 0 1 shoen:execute(true,0,1,2,C,R)" ++ 10 ∷ [] ++ codes "alice start 1 0 1 shoen:execute(true)" ++ 10 ∷ [] ++ codes "alice start 1 0 1 m:[]" ++ 10 ∷ [] ++ codes "alice start 1 0 1 '='(X,1)" ++ 10 ∷ [] ++ codes "alice start 1 0 1 m:p:q" ++ 10 ∷ [] ++ codes "alice start 1 0 1 m:p@priority(1)" ++ 10 ∷ [] ++ codes "alice start 1 0 1 X < 1" ++ 10 ∷ [] ++ codes "alice start 1 0 1 a + b" ++ 10 ∷ []

-- the bytes of goals_of_a_start.expected
abbrev pub goals_of_a_start_output : List ℕ
goals_of_a_start_output = codes "alice + shoen 1" ++ 10 ∷ [] ++ codes "alice - 1 syntax" ++ 10 ∷ [] ++ codes "alice - 1 syntax" ++ 10 ∷ [] ++ codes "alice - 1 syntax" ++ 10 ∷ [] ++ codes "alice - 1 syntax" ++ 10 ∷ [] ++ codes "alice - 1 syntax" ++ 10 ∷ [] ++ codes "alice - 1 syntax" ++ 10 ∷ [] ++ codes "alice - 1 syntax" ++ 10 ∷ [] ++ codes "alice + shoen 2" ++ 10 ∷ [] ++ codes "alice + shoen 3" ++ 10 ∷ [] ++ codes "alice + shoen 4" ++ 10 ∷ [] ++ codes "alice + shoen 5" ++ 10 ∷ [] ++ codes "alice + shoen 6" ++ 10 ∷ [] ++ codes "alice + shoen 7" ++ 10 ∷ [] ++ codes "alice + shoen 8" ++ 10 ∷ [] ++ codes "alice - 1 syntax" ++ 10 ∷ [] ++ codes "alice - 1 syntax" ++ 10 ∷ [] ++ codes "alice - 1 syntax" ++ 10 ∷ [] ++ codes "alice - 1 syntax" ++ 10 ∷ []

-- the bytes of greater_priority_of_a_body.script
abbrev pub greater_priority_of_a_body_script : List ℕ
greater_priority_of_a_body_script = codes "accounts alice" ++ 10 ∷ [] ++ codes "alice load 81" ++ 10 ∷ [] ++ codes ":- module k." ++ 10 ∷ [] ++ codes "g :- true | h(a)@priority(1), h(b)@priority(9)." ++ 10 ∷ [] ++ codes "h(X) :- true | true." ++ 10 ∷ [] ++ codes "alice start 10 0 10 k:g" ++ 10 ∷ [] ++ codes "alice run 2" ++ 10 ∷ [] ++ codes "alice reduce 4 1" ++ 10 ∷ [] ++ codes "alice reduce 3 1" ++ 10 ∷ []

-- the bytes of greater_priority_of_a_body.expected
abbrev pub greater_priority_of_a_body_output : List ℕ
greater_priority_of_a_body_output = codes "alice + loaded k" ++ 10 ∷ [] ++ codes "alice + shoen 1" ++ 10 ∷ [] ++ codes "alice + 2" ++ 10 ∷ [] ++ codes "alice - 6 step" ++ 10 ∷ [] ++ codes "alice + reduced" ++ 10 ∷ []

-- the bytes of greater_priority_then_least_number.script
abbrev pub greater_priority_then_least_number_script : List ℕ
greater_priority_then_least_number_script = codes "accounts alice bob" ++ 10 ∷ [] ++ codes "alice start 9 0 5 X = a" ++ 10 ∷ [] ++ codes "alice start 9 0 9 X = b" ++ 10 ∷ [] ++ codes "alice start 9 0 9 X = c" ++ 10 ∷ [] ++ codes "alice run 1" ++ 10 ∷ [] ++ codes "alice value 2" ++ 10 ∷ [] ++ codes "alice run 1" ++ 10 ∷ [] ++ codes "alice value 3" ++ 10 ∷ [] ++ codes "alice value 1" ++ 10 ∷ [] ++ codes "alice run 9" ++ 10 ∷ [] ++ codes "alice value 1" ++ 10 ∷ []

-- the bytes of greater_priority_then_least_number.expected
abbrev pub greater_priority_then_least_number_output : List ℕ
greater_priority_then_least_number_output = codes "alice + shoen 1" ++ 10 ∷ [] ++ codes "alice + shoen 2" ++ 10 ∷ [] ++ codes "alice + shoen 3" ++ 10 ∷ [] ++ codes "alice + 1" ++ 10 ∷ [] ++ codes "alice + '='(b,b)" ++ 10 ∷ [] ++ codes "alice + 1" ++ 10 ∷ [] ++ codes "alice + '='(c,c)" ++ 10 ∷ [] ++ codes "alice + '='(_1,a)" ++ 10 ∷ [] ++ codes "alice + 1" ++ 10 ∷ [] ++ codes "alice + '='(a,a)" ++ 10 ∷ []

-- the bytes of greatest_common_divisor.script
abbrev pub greatest_common_divisor_script : List ℕ
greatest_common_divisor_script = codes "accounts alice" ++ 10 ∷ [] ++ codes "alice load 90" ++ 10 ∷ [] ++ codes ":- module gcd." ++ 10 ∷ [] ++ codes "gcd(A,0,R) :- true | R = A." ++ 10 ∷ [] ++ codes "gcd(A,B,R) :- B > 0 | C := A mod B, gcd(B,C,R)." ++ 10 ∷ [] ++ codes "alice start 100 0 10 gcd:gcd(48,36,R)" ++ 10 ∷ [] ++ codes "alice run 100" ++ 10 ∷ [] ++ codes "alice value 1" ++ 10 ∷ []

-- the bytes of greatest_common_divisor.expected
abbrev pub greatest_common_divisor_output : List ℕ
greatest_common_divisor_output = codes "alice + loaded gcd" ++ 10 ∷ [] ++ codes "alice + shoen 1" ++ 10 ∷ [] ++ codes "alice + 6" ++ 10 ∷ [] ++ codes "alice + gcd:gcd(48,36,12)" ++ 10 ∷ []

-- the bytes of higher_variable_takes_the_lower.script
abbrev pub higher_variable_takes_the_lower_script : List ℕ
higher_variable_takes_the_lower_script = codes "accounts alice" ++ 10 ∷ [] ++ codes "alice start 10 0 10 f(X,Y) = f(Y,X)" ++ 10 ∷ [] ++ codes "alice run 10" ++ 10 ∷ [] ++ codes "alice value 1" ++ 10 ∷ []

-- the bytes of higher_variable_takes_the_lower.expected
abbrev pub higher_variable_takes_the_lower_output : List ℕ
higher_variable_takes_the_lower_output = codes "alice + shoen 1" ++ 10 ∷ [] ++ codes "alice + 1" ++ 10 ∷ [] ++ codes "alice + '='(f(_1,_1),f(_1,_1))" ++ 10 ∷ []

-- the bytes of merged_by_priorities.script
abbrev pub merged_by_priorities_script : List ℕ
merged_by_priorities_script = codes "accounts alice" ++ 10 ∷ [] ++ codes "alice load 357" ++ 10 ∷ [] ++ codes ":- module merge." ++ 10 ∷ [] ++ codes "both(R) :- true | make([a,b],X)@priority(2), make([c,d],Y)@priority(8), merge(X,Y,R)@priority(5)." ++ 10 ∷ [] ++ codes "make([],S) :- true | S = []." ++ 10 ∷ [] ++ codes "make([A|As],S) :- true | S = [A|T], make(As,T)." ++ 10 ∷ [] ++ codes "merge([A|X],Y,R) :- true | R = [A|S], merge(X,Y,S)." ++ 10 ∷ [] ++ codes "merge(X,[A|Y],R) :- true | R = [A|S], merge(X,Y,S)." ++ 10 ∷ [] ++ codes "merge([],Y,R) :- true | R = Y." ++ 10 ∷ [] ++ codes "merge(X,[],R) :- true | R = X." ++ 10 ∷ [] ++ codes "alice start 100 0 10 merge:both(R)" ++ 10 ∷ [] ++ codes "alice run 13" ++ 10 ∷ [] ++ codes "alice value 1" ++ 10 ∷ [] ++ codes "alice run 100" ++ 10 ∷ [] ++ codes "alice value 1" ++ 10 ∷ [] ++ codes "alice status 1" ++ 10 ∷ []

-- the bytes of merged_by_priorities.expected
abbrev pub merged_by_priorities_output : List ℕ
merged_by_priorities_output = codes "alice + loaded merge" ++ 10 ∷ [] ++ codes "alice + shoen 1" ++ 10 ∷ [] ++ codes "alice + 13" ++ 10 ∷ [] ++ codes "alice + merge:both([c,d|_5])" ++ 10 ∷ [] ++ codes "alice + 6" ++ 10 ∷ [] ++ codes "alice + merge:both([c,d,a,b])" ++ 10 ∷ [] ++ codes "alice + terminated 19 100 0" ++ 10 ∷ []

-- the bytes of nested_patterns.script
abbrev pub nested_patterns_script : List ℕ
nested_patterns_script = codes "accounts alice bob" ++ 10 ∷ [] ++ codes "alice load 52" ++ 10 ∷ [] ++ codes ":- module t." ++ 10 ∷ [] ++ codes "p(f(X,[A|B]),R) :- true | R = g(B,A,X)." ++ 10 ∷ [] ++ codes "alice start 9 0 9 t:p(f(1,[2,3]),R)" ++ 10 ∷ [] ++ codes "alice start 9 0 9 t:p(f(1,Y),R)" ++ 10 ∷ [] ++ codes "alice start 9 0 9 t:p(f(Y,[]),R)" ++ 10 ∷ [] ++ codes "alice run 20" ++ 10 ∷ [] ++ codes "alice value 1" ++ 10 ∷ []

-- the bytes of nested_patterns.expected
abbrev pub nested_patterns_output : List ℕ
nested_patterns_output = codes "alice + loaded t" ++ 10 ∷ [] ++ codes "alice + shoen 1" ++ 10 ∷ [] ++ codes "alice + shoen 2" ++ 10 ∷ [] ++ codes "alice + shoen 3" ++ 10 ∷ [] ++ codes "alice + 3" ++ 10 ∷ [] ++ codes "alice + t:p(f(1,[2,3]),g([3],2,1))" ++ 10 ∷ []

-- the bytes of other_messages_are_skipped.script
abbrev pub other_messages_are_skipped_script : List ℕ
other_messages_are_skipped_script = codes "accounts alice" ++ 10 ∷ [] ++ codes "alice start 100 0 10 shoen:execute(true,0,10,5,[foo],R)" ++ 10 ∷ [] ++ codes "alice run 100" ++ 10 ∷ [] ++ codes "alice value 1" ++ 10 ∷ [] ++ codes "alice status 1" ++ 10 ∷ [] ++ codes "alice status 2" ++ 10 ∷ []

-- the bytes of other_messages_are_skipped.expected
abbrev pub other_messages_are_skipped_output : List ℕ
other_messages_are_skipped_output = codes "alice + shoen 1" ++ 10 ∷ [] ++ codes "alice + 4" ++ 10 ∷ [] ++ codes "alice + shoen:execute(true,0,10,5,[foo],[started,exception(illegal_input,foo),terminated])" ++ 10 ∷ [] ++ codes "alice + terminated 2 100 0" ++ 10 ∷ [] ++ codes "alice + terminated 1 5 0" ++ 10 ∷ []

-- the bytes of otherwise_takes_the_rest.script
abbrev pub otherwise_takes_the_rest_script : List ℕ
otherwise_takes_the_rest_script = codes "accounts alice" ++ 10 ∷ [] ++ codes "alice load 129" ++ 10 ∷ [] ++ codes ":- module look." ++ 10 ∷ [] ++ codes "look(X,R) :- integer(X) | R = integer." ++ 10 ∷ [] ++ codes "look(X,R) :- list(X) | R = list." ++ 10 ∷ [] ++ codes "otherwise." ++ 10 ∷ [] ++ codes "look(X,R) :- true | R = other." ++ 10 ∷ [] ++ codes "alice start 10 0 10 look:look([],R)" ++ 10 ∷ [] ++ codes "alice run 10" ++ 10 ∷ [] ++ codes "alice value 1" ++ 10 ∷ [] ++ codes "alice start 10 0 10 look:look(X,R)" ++ 10 ∷ [] ++ codes "alice run 10" ++ 10 ∷ [] ++ codes "alice quiet" ++ 10 ∷ []

-- the bytes of otherwise_takes_the_rest.expected
abbrev pub otherwise_takes_the_rest_output : List ℕ
otherwise_takes_the_rest_output = codes "alice + loaded look" ++ 10 ∷ [] ++ codes "alice + shoen 1" ++ 10 ∷ [] ++ codes "alice + 2" ++ 10 ∷ [] ++ codes "alice + look:look([],other)" ++ 10 ∷ [] ++ codes "alice + shoen 2" ++ 10 ∷ [] ++ codes "alice + 0" ++ 10 ∷ [] ++ codes "alice + yes" ++ 10 ∷ []

-- the bytes of otherwise_waits.script
abbrev pub otherwise_waits_script : List ℕ
otherwise_waits_script = codes "accounts alice" ++ 10 ∷ [] ++ codes "alice load 71" ++ 10 ∷ [] ++ codes ":- module o." ++ 10 ∷ [] ++ codes "p(a,R) :- true | R = 1." ++ 10 ∷ [] ++ codes "otherwise." ++ 10 ∷ [] ++ codes "p(X,R) :- true | R = 2." ++ 10 ∷ [] ++ codes "alice start 10 0 10 o:p(b,R)" ++ 10 ∷ [] ++ codes "alice run 10" ++ 10 ∷ [] ++ codes "alice value 1" ++ 10 ∷ [] ++ codes "alice start 10 0 10 o:p(X,R)" ++ 10 ∷ [] ++ codes "alice run 10" ++ 10 ∷ [] ++ codes "alice reduce 5 2" ++ 10 ∷ [] ++ codes "alice reduce 5 1" ++ 10 ∷ [] ++ codes "alice reduce 5 0" ++ 10 ∷ [] ++ codes "alice quiet" ++ 10 ∷ []

-- the bytes of otherwise_waits.expected
abbrev pub otherwise_waits_output : List ℕ
otherwise_waits_output = codes "alice + loaded o" ++ 10 ∷ [] ++ codes "alice + shoen 1" ++ 10 ∷ [] ++ codes "alice + 2" ++ 10 ∷ [] ++ codes "alice + o:p(b,2)" ++ 10 ∷ [] ++ codes "alice + shoen 2" ++ 10 ∷ [] ++ codes "alice + 0" ++ 10 ∷ [] ++ codes "alice - 6 step" ++ 10 ∷ [] ++ codes "alice - 6 step" ++ 10 ∷ [] ++ codes "alice - 6 step" ++ 10 ∷ [] ++ codes "alice + yes" ++ 10 ∷ []

-- the bytes of places_of_one_variable.script
abbrev pub places_of_one_variable_script : List ℕ
places_of_one_variable_script = codes "accounts alice" ++ 10 ∷ [] ++ codes "alice load 22" ++ 10 ∷ [] ++ codes ":- module v." ++ 10 ∷ [] ++ codes "q(X,X,X)." ++ 10 ∷ [] ++ codes "alice start 10 0 10 v:q(V,a,b)" ++ 10 ∷ [] ++ codes "alice run 10" ++ 10 ∷ [] ++ codes "alice quiet" ++ 10 ∷ []

-- the bytes of places_of_one_variable.expected
abbrev pub places_of_one_variable_output : List ℕ
places_of_one_variable_output = codes "alice + loaded v" ++ 10 ∷ [] ++ codes "alice + shoen 1" ++ 10 ∷ [] ++ codes "alice + 1" ++ 10 ∷ [] ++ codes "alice + yes" ++ 10 ∷ []

-- the bytes of priorities_are_clipped.script
abbrev pub priorities_are_clipped_script : List ℕ
priorities_are_clipped_script = codes "accounts alice" ++ 10 ∷ [] ++ codes "alice load 81" ++ 10 ∷ [] ++ codes ":- module k." ++ 10 ∷ [] ++ codes "g :- true | h(a)@priority(1), h(b)@priority(9)." ++ 10 ∷ [] ++ codes "h(X) :- true | true." ++ 10 ∷ [] ++ codes "alice start 10 3 5 k:g" ++ 10 ∷ [] ++ codes "alice run 2" ++ 10 ∷ [] ++ codes "alice reduce 4 1" ++ 10 ∷ [] ++ codes "alice run 9" ++ 10 ∷ [] ++ codes "alice start 10 3 9 k:g" ++ 10 ∷ [] ++ codes "alice reduce 8 1" ++ 10 ∷ [] ++ codes "alice start 10 9 12 true" ++ 10 ∷ [] ++ codes "alice run 1" ++ 10 ∷ [] ++ codes "alice status 3" ++ 10 ∷ []

-- the bytes of priorities_are_clipped.expected
abbrev pub priorities_are_clipped_output : List ℕ
priorities_are_clipped_output = codes "alice + loaded k" ++ 10 ∷ [] ++ codes "alice + shoen 1" ++ 10 ∷ [] ++ codes "alice + 2" ++ 10 ∷ [] ++ codes "alice - 6 step" ++ 10 ∷ [] ++ codes "alice + 3" ++ 10 ∷ [] ++ codes "alice + shoen 2" ++ 10 ∷ [] ++ codes "alice + reduced" ++ 10 ∷ [] ++ codes "alice + shoen 3" ++ 10 ∷ [] ++ codes "alice + 1" ++ 10 ∷ [] ++ codes "alice + terminated 1 10 0" ++ 10 ∷ []

-- the bytes of priorities_are_clipped_downwards.script
abbrev pub priorities_are_clipped_downwards_script : List ℕ
priorities_are_clipped_downwards_script = codes "accounts alice" ++ 10 ∷ [] ++ codes "alice load 81" ++ 10 ∷ [] ++ codes ":- module k." ++ 10 ∷ [] ++ codes "g :- true | h(a)@priority(1), h(b)@priority(9)." ++ 10 ∷ [] ++ codes "h(X) :- true | true." ++ 10 ∷ [] ++ codes "alice start 10 3 5 k:g" ++ 10 ∷ [] ++ codes "alice reduce 2 1" ++ 10 ∷ [] ++ codes "alice start 10 6 6 true" ++ 10 ∷ [] ++ codes "alice run 1" ++ 10 ∷ [] ++ codes "alice status 2" ++ 10 ∷ []

-- the bytes of priorities_are_clipped_downwards.expected
abbrev pub priorities_are_clipped_downwards_output : List ℕ
priorities_are_clipped_downwards_output = codes "alice + loaded k" ++ 10 ∷ [] ++ codes "alice + shoen 1" ++ 10 ∷ [] ++ codes "alice + reduced" ++ 10 ∷ [] ++ codes "alice + shoen 2" ++ 10 ∷ [] ++ codes "alice + 1" ++ 10 ∷ [] ++ codes "alice + terminated 1 10 0" ++ 10 ∷ []

-- the bytes of priorities_are_clipped_upwards.script
abbrev pub priorities_are_clipped_upwards_script : List ℕ
priorities_are_clipped_upwards_script = codes "accounts alice" ++ 10 ∷ [] ++ codes "alice load 81" ++ 10 ∷ [] ++ codes ":- module k." ++ 10 ∷ [] ++ codes "g :- true | h(a)@priority(1), h(b)@priority(9)." ++ 10 ∷ [] ++ codes "h(X) :- true | true." ++ 10 ∷ [] ++ codes "alice start 10 3 5 k:g" ++ 10 ∷ [] ++ codes "alice run 3" ++ 10 ∷ [] ++ codes "alice start 10 2 2 true" ++ 10 ∷ [] ++ codes "alice run 1" ++ 10 ∷ [] ++ codes "alice reduce 3 1" ++ 10 ∷ [] ++ codes "alice status 2" ++ 10 ∷ [] ++ codes "alice run 9" ++ 10 ∷ [] ++ codes "alice status 2" ++ 10 ∷ []

-- the bytes of priorities_are_clipped_upwards.expected
abbrev pub priorities_are_clipped_upwards_output : List ℕ
priorities_are_clipped_upwards_output = codes "alice + loaded k" ++ 10 ∷ [] ++ codes "alice + shoen 1" ++ 10 ∷ [] ++ codes "alice + 3" ++ 10 ∷ [] ++ codes "alice + shoen 2" ++ 10 ∷ [] ++ codes "alice + 1" ++ 10 ∷ [] ++ codes "alice - 6 step" ++ 10 ∷ [] ++ codes "alice + running 0 10 1" ++ 10 ∷ [] ++ codes "alice + 2" ++ 10 ∷ [] ++ codes "alice + terminated 1 10 0" ++ 10 ∷ []

-- the bytes of producer_and_consumer.script
abbrev pub producer_and_consumer_script : List ℕ
producer_and_consumer_script = codes "accounts alice" ++ 10 ∷ [] ++ codes "alice load 277" ++ 10 ∷ [] ++ codes ":- module stream." ++ 10 ∷ [] ++ codes "make([],Out) :- true | Out = []." ++ 10 ∷ [] ++ codes "make([N|Ns],Out) :- true | Out = [item(N)|Rest], make(Ns,Rest)." ++ 10 ∷ [] ++ codes "take([],Sum) :- true | Sum = none." ++ 10 ∷ [] ++ codes "take([item(N)|Rest],Sum) :- true | Sum = some(N,More), take(Rest,More)." ++ 10 ∷ [] ++ codes "both(Ns,Sum) :- true | take(Items,Sum), make(Ns,Items)." ++ 10 ∷ [] ++ codes "alice start 100 0 10 stream:both([1,2],Sum)" ++ 10 ∷ [] ++ codes "alice run 100" ++ 10 ∷ [] ++ codes "alice value 1" ++ 10 ∷ []

-- the bytes of producer_and_consumer.expected
abbrev pub producer_and_consumer_output : List ℕ
producer_and_consumer_output = codes "alice + loaded stream" ++ 10 ∷ [] ++ codes "alice + shoen 1" ++ 10 ∷ [] ++ codes "alice + 13" ++ 10 ∷ [] ++ codes "alice + stream:both([1,2],some(1,some(2,none)))" ++ 10 ∷ []

-- the bytes of reversed_list.script
abbrev pub reversed_list_script : List ℕ
reversed_list_script = codes "accounts alice" ++ 10 ∷ [] ++ codes "alice load 136" ++ 10 ∷ [] ++ codes ":- module reverse." ++ 10 ∷ [] ++ codes "rev(Xs,R) :- true | rev(Xs,[],R)." ++ 10 ∷ [] ++ codes "rev([],Done,R) :- true | R = Done." ++ 10 ∷ [] ++ codes "rev([X|Xs],Done,R) :- true | rev(Xs,[X|Done],R)." ++ 10 ∷ [] ++ codes "alice start 100 0 10 reverse:rev([1,2,3],R)" ++ 10 ∷ [] ++ codes "alice run 100" ++ 10 ∷ [] ++ codes "alice value 1" ++ 10 ∷ []

-- the bytes of reversed_list.expected
abbrev pub reversed_list_output : List ℕ
reversed_list_output = codes "alice + loaded reverse" ++ 10 ∷ [] ++ codes "alice + shoen 1" ++ 10 ∷ [] ++ codes "alice + 6" ++ 10 ∷ [] ++ codes "alice + reverse:rev([1,2,3],[3,2,1])" ++ 10 ∷ []

-- the bytes of second_variable_wakes.script
abbrev pub second_variable_wakes_script : List ℕ
second_variable_wakes_script = codes "accounts alice bob" ++ 10 ∷ [] ++ codes "alice load 96" ++ 10 ∷ [] ++ codes ":- module s." ++ 10 ∷ [] ++ codes "e(1,Y,R) :- true | R = l." ++ 10 ∷ [] ++ codes "e(X,1,R) :- true | R = r." ++ 10 ∷ [] ++ codes "g(R) :- true | e(X,Y,R), Y = 1." ++ 10 ∷ [] ++ codes "alice start 10 0 10 s:g(R)" ++ 10 ∷ [] ++ codes "alice run 10" ++ 10 ∷ [] ++ codes "alice value 1" ++ 10 ∷ []

-- the bytes of second_variable_wakes.expected
abbrev pub second_variable_wakes_output : List ℕ
second_variable_wakes_output = codes "alice + loaded s" ++ 10 ∷ [] ++ codes "alice + shoen 1" ++ 10 ∷ [] ++ codes "alice + 4" ++ 10 ∷ [] ++ codes "alice + s:g(r)" ++ 10 ∷ []

-- the bytes of single_reductions.script
abbrev pub single_reductions_script : List ℕ
single_reductions_script = codes "accounts alice bob" ++ 10 ∷ [] ++ codes "alice reduce 99 1" ++ 10 ∷ [] ++ codes "alice start 10 0 10 X = a" ++ 10 ∷ [] ++ codes "alice start 10 0 10 X = b" ++ 10 ∷ [] ++ codes "alice reduce 0 0" ++ 10 ∷ [] ++ codes "alice reduce 1 0" ++ 10 ∷ [] ++ codes "alice reduce 2 1" ++ 10 ∷ [] ++ codes "alice reduce 3 0" ++ 10 ∷ [] ++ codes "alice reduce 4" ++ 10 ∷ [] ++ codes "alice reduce 4 0 0" ++ 10 ∷ [] ++ codes "alice reduce x 0" ++ 10 ∷ [] ++ codes "alice reduce 4 x" ++ 10 ∷ [] ++ codes "alice reduce -4 0" ++ 10 ∷ [] ++ codes "alice reduce 9223372036854775807 9223372036854775807" ++ 10 ∷ [] ++ codes "alice reduce 9223372036854775808 0" ++ 10 ∷ [] ++ codes "alice reduce 4 9223372036854775808" ++ 10 ∷ [] ++ codes "alice reduce 00000000000000000004 0" ++ 10 ∷ [] ++ codes "alice value 2" ++ 10 ∷ [] ++ codes "alice " ++ 9 ∷ [] ++ codes "reduce  0000000000000000004" ++ 9 ∷ [] ++ codes "0 " ++ 10 ∷ [] ++ codes "alice value 2" ++ 10 ∷ [] ++ codes "alice reduce 4 0" ++ 10 ∷ [] ++ codes "alice value 1" ++ 10 ∷ []

-- the bytes of single_reductions.expected
abbrev pub single_reductions_output : List ℕ
single_reductions_output = codes "alice - 6 step" ++ 10 ∷ [] ++ codes "alice + shoen 1" ++ 10 ∷ [] ++ codes "alice + shoen 2" ++ 10 ∷ [] ++ codes "alice - 6 step" ++ 10 ∷ [] ++ codes "alice - 6 step" ++ 10 ∷ [] ++ codes "alice - 6 step" ++ 10 ∷ [] ++ codes "alice - 6 step" ++ 10 ∷ [] ++ codes "alice - 1 syntax" ++ 10 ∷ [] ++ codes "alice - 1 syntax" ++ 10 ∷ [] ++ codes "alice - 1 syntax" ++ 10 ∷ [] ++ codes "alice - 1 syntax" ++ 10 ∷ [] ++ codes "alice - 1 syntax" ++ 10 ∷ [] ++ codes "alice - 6 step" ++ 10 ∷ [] ++ codes "alice - 1 syntax" ++ 10 ∷ [] ++ codes "alice - 1 syntax" ++ 10 ∷ [] ++ codes "alice - 1 syntax" ++ 10 ∷ [] ++ codes "alice + '='(_5,b)" ++ 10 ∷ [] ++ codes "alice + reduced" ++ 10 ∷ [] ++ codes "alice + '='(b,b)" ++ 10 ∷ [] ++ codes "alice - 6 step" ++ 10 ∷ [] ++ codes "alice + '='(_1,a)" ++ 10 ∷ []

-- the bytes of unification_fails_whole.script
abbrev pub unification_fails_whole_script : List ℕ
unification_fails_whole_script = codes "accounts alice" ++ 10 ∷ [] ++ codes "alice start 10 0 10 f(X,a) = f(1,b)" ++ 10 ∷ [] ++ codes "alice run 10" ++ 10 ∷ [] ++ codes "alice value 1" ++ 10 ∷ []

-- the bytes of unification_fails_whole.expected
abbrev pub unification_fails_whole_output : List ℕ
unification_fails_whole_output = codes "alice + shoen 1" ++ 10 ∷ [] ++ codes "alice + 1" ++ 10 ∷ [] ++ codes "alice + '='(f(_1,a),f(1,b))" ++ 10 ∷ []

-- the bytes of unknown_predicates_fail.script
abbrev pub unknown_predicates_fail_script : List ℕ
unknown_predicates_fail_script = codes "accounts alice bob" ++ 10 ∷ [] ++ codes "alice load 91" ++ 10 ∷ [] ++ codes ":- module app." ++ 10 ∷ [] ++ codes "app([],Y,Z) :- true | Z = Y." ++ 10 ∷ [] ++ codes "app([A|X],Y,Z) :- true | Z = [A|W], app(X,Y,W)." ++ 10 ∷ [] ++ codes "alice start 10 0 10 app:foo(1)" ++ 10 ∷ [] ++ codes "alice start 10 0 10 app:app(1)" ++ 10 ∷ [] ++ codes "alice start 10 0 10 app:true" ++ 10 ∷ [] ++ codes "alice run 10" ++ 10 ∷ []

-- the bytes of unknown_predicates_fail.expected
abbrev pub unknown_predicates_fail_output : List ℕ
unknown_predicates_fail_output = codes "alice + loaded app" ++ 10 ∷ [] ++ codes "alice + shoen 1" ++ 10 ∷ [] ++ codes "alice + shoen 2" ++ 10 ∷ [] ++ codes "alice + shoen 3" ++ 10 ∷ [] ++ codes "alice + 3" ++ 10 ∷ []

-- the bytes of variables_of_a_second_start.script
abbrev pub variables_of_a_second_start_script : List ℕ
variables_of_a_second_start_script = codes "accounts alice bob" ++ 10 ∷ [] ++ codes "alice load 20" ++ 10 ∷ [] ++ codes ":- module t." ++ 10 ∷ [] ++ codes "q(a,b)." ++ 10 ∷ [] ++ codes "alice start 10 0 10 t:q(X,c)" ++ 10 ∷ [] ++ codes "alice start 10 0 10 t:q(Y,Z)" ++ 10 ∷ [] ++ codes "alice value 2" ++ 10 ∷ [] ++ codes "alice run 10" ++ 10 ∷ [] ++ codes "alice start 10 0 10 t:q(Y,Z)" ++ 10 ∷ [] ++ codes "alice value 3" ++ 10 ∷ []

-- the bytes of variables_of_a_second_start.expected
abbrev pub variables_of_a_second_start_output : List ℕ
variables_of_a_second_start_output = codes "alice + loaded t" ++ 10 ∷ [] ++ codes "alice + shoen 1" ++ 10 ∷ [] ++ codes "alice + shoen 2" ++ 10 ∷ [] ++ codes "alice + t:q(_5,_6)" ++ 10 ∷ [] ++ codes "alice + 1" ++ 10 ∷ [] ++ codes "alice + shoen 3" ++ 10 ∷ [] ++ codes "alice + t:q(_12,_13)" ++ 10 ∷ []

-- the bytes of waiting_goal_is_alive.script
abbrev pub waiting_goal_is_alive_script : List ℕ
waiting_goal_is_alive_script = codes "accounts alice" ++ 10 ∷ [] ++ codes "alice load 91" ++ 10 ∷ [] ++ codes ":- module app." ++ 10 ∷ [] ++ codes "app([],Y,Z) :- true | Z = Y." ++ 10 ∷ [] ++ codes "app([A|X],Y,Z) :- true | Z = [A|W], app(X,Y,W)." ++ 10 ∷ [] ++ codes "alice start 100 0 10 app:app(X,[2],R)" ++ 10 ∷ [] ++ codes "alice run 100" ++ 10 ∷ [] ++ codes "alice quiet" ++ 10 ∷ [] ++ codes "alice status 1" ++ 10 ∷ []

-- the bytes of waiting_goal_is_alive.expected
abbrev pub waiting_goal_is_alive_output : List ℕ
waiting_goal_is_alive_output = codes "alice + loaded app" ++ 10 ∷ [] ++ codes "alice + shoen 1" ++ 10 ∷ [] ++ codes "alice + 0" ++ 10 ∷ [] ++ codes "alice + yes" ++ 10 ∷ [] ++ codes "alice + running 0 100 1" ++ 10 ∷ []

-- the bytes of woken_by_a_binding.script
abbrev pub woken_by_a_binding_script : List ℕ
woken_by_a_binding_script = codes "accounts alice" ++ 10 ∷ [] ++ codes "alice load 95" ++ 10 ∷ [] ++ codes ":- module gate." ++ 10 ∷ [] ++ codes "pass(open,R) :- true | R = through." ++ 10 ∷ [] ++ codes "day(R) :- true | pass(Gate,R), Gate = open." ++ 10 ∷ [] ++ codes "alice start 100 0 10 gate:day(R)" ++ 10 ∷ [] ++ codes "alice run 1" ++ 10 ∷ [] ++ codes "alice value 1" ++ 10 ∷ [] ++ codes "alice run 100" ++ 10 ∷ [] ++ codes "alice value 1" ++ 10 ∷ []

-- the bytes of woken_by_a_binding.expected
abbrev pub woken_by_a_binding_output : List ℕ
woken_by_a_binding_output = codes "alice + loaded gate" ++ 10 ∷ [] ++ codes "alice + shoen 1" ++ 10 ∷ [] ++ codes "alice + 1" ++ 10 ∷ [] ++ codes "alice + gate:day(_1)" ++ 10 ∷ [] ++ codes "alice + 3" ++ 10 ∷ [] ++ codes "alice + gate:day(through)" ++ 10 ∷ []

-- the bytes of woken_by_a_second_variable.script
abbrev pub woken_by_a_second_variable_script : List ℕ
woken_by_a_second_variable_script = codes "accounts alice" ++ 10 ∷ [] ++ codes "alice load 108" ++ 10 ∷ [] ++ codes ":- module s." ++ 10 ∷ [] ++ codes "e(1,Y,R) :- true | R = l." ++ 10 ∷ [] ++ codes "e(X,1,R) :- true | R = r." ++ 10 ∷ [] ++ codes "g(R) :- true | e(X,Y,R)@priority(9), Y = 1." ++ 10 ∷ [] ++ codes "alice start 10 0 10 s:g(R)" ++ 10 ∷ [] ++ codes "alice run 10" ++ 10 ∷ [] ++ codes "alice value 1" ++ 10 ∷ []

-- the bytes of woken_by_a_second_variable.expected
abbrev pub woken_by_a_second_variable_output : List ℕ
woken_by_a_second_variable_output = codes "alice + loaded s" ++ 10 ∷ [] ++ codes "alice + shoen 1" ++ 10 ∷ [] ++ codes "alice + 4" ++ 10 ∷ [] ++ codes "alice + s:g(r)" ++ 10 ∷ []

-- each of these example scripts has the output that stands beside it
pub record ProgramExamplesHold : Type 0 where
  pub append_by_single_reductions : output append_by_single_reductions_script ≡ append_by_single_reductions_output
  pub append_two_lists : output append_two_lists_script ≡ append_two_lists_output
  pub append_with_its_status : output append_with_its_status_script ≡ append_with_its_status_output
  pub arithmetic : output arithmetic_script ≡ arithmetic_output
  pub body_goals_inherit_priority : output body_goals_inherit_priority_script ≡ body_goals_inherit_priority_output
  pub clash_outweighs_waiting : output clash_outweighs_waiting_script ≡ clash_outweighs_waiting_output
  pub codes_cell_by_cell : output codes_cell_by_cell_script ≡ codes_cell_by_cell_output
  pub codes_that_are_wrong : output codes_that_are_wrong_script ≡ codes_that_are_wrong_output
  pub countdown : output countdown_script ≡ countdown_output
  pub cyclic_term_is_reported : output cyclic_term_is_reported_script ≡ cyclic_term_is_reported_output
  pub failed_goal_is_started_again : output failed_goal_is_started_again_script ≡ failed_goal_is_started_again_output
  pub first_of_two_clauses : output first_of_two_clauses_script ≡ first_of_two_clauses_output
  pub forms_that_are_faults : output forms_that_are_faults_script ≡ forms_that_are_faults_output
  pub fresh_variables : output fresh_variables_script ≡ fresh_variables_output
  pub goal_waits_for_ever : output goal_waits_for_ever_script ≡ goal_waits_for_ever_output
  pub goals_of_a_start : output goals_of_a_start_script ≡ goals_of_a_start_output
  pub greater_priority_of_a_body : output greater_priority_of_a_body_script ≡ greater_priority_of_a_body_output
  pub greater_priority_then_least_number : output greater_priority_then_least_number_script ≡ greater_priority_then_least_number_output
  pub greatest_common_divisor : output greatest_common_divisor_script ≡ greatest_common_divisor_output
  pub higher_variable_takes_the_lower : output higher_variable_takes_the_lower_script ≡ higher_variable_takes_the_lower_output
  pub merged_by_priorities : output merged_by_priorities_script ≡ merged_by_priorities_output
  pub nested_patterns : output nested_patterns_script ≡ nested_patterns_output
  pub other_messages_are_skipped : output other_messages_are_skipped_script ≡ other_messages_are_skipped_output
  pub otherwise_takes_the_rest : output otherwise_takes_the_rest_script ≡ otherwise_takes_the_rest_output
  pub otherwise_waits : output otherwise_waits_script ≡ otherwise_waits_output
  pub places_of_one_variable : output places_of_one_variable_script ≡ places_of_one_variable_output
  pub priorities_are_clipped : output priorities_are_clipped_script ≡ priorities_are_clipped_output
  pub priorities_are_clipped_downwards : output priorities_are_clipped_downwards_script ≡ priorities_are_clipped_downwards_output
  pub priorities_are_clipped_upwards : output priorities_are_clipped_upwards_script ≡ priorities_are_clipped_upwards_output
  pub producer_and_consumer : output producer_and_consumer_script ≡ producer_and_consumer_output
  pub reversed_list : output reversed_list_script ≡ reversed_list_output
  pub second_variable_wakes : output second_variable_wakes_script ≡ second_variable_wakes_output
  pub single_reductions : output single_reductions_script ≡ single_reductions_output
  pub unification_fails_whole : output unification_fails_whole_script ≡ unification_fails_whole_output
  pub unknown_predicates_fail : output unknown_predicates_fail_script ≡ unknown_predicates_fail_output
  pub variables_of_a_second_start : output variables_of_a_second_start_script ≡ variables_of_a_second_start_output
  pub waiting_goal_is_alive : output waiting_goal_is_alive_script ≡ waiting_goal_is_alive_output
  pub woken_by_a_binding : output woken_by_a_binding_script ≡ woken_by_a_binding_output
  pub woken_by_a_second_variable : output woken_by_a_second_variable_script ≡ woken_by_a_second_variable_output
