-- Worked rows of arithmetic, tests, verdicts and the grammar, each by the table or the rule that it shows.
use Rattle.std.specs.Prelude.{◌≡◌, ℕ, zero, suc, Bool, true, false, List, [], ◌∷◌, ◌++◌, map, codes, pos, negsuc, Option, Some, None, option_map, option_and_then}
use Rattle.kl1_model.specs.declared.operator.Operator.TheVariants.{Plus, Minus, Times, Divide, Modulo}
use Rattle.kl1_model.specs.declared.comparison.Comparison.TheVariants.{SameNumber}
use Rattle.kl1_model.specs.declared.number.Number.TheVariants.{Value, Overflow, ZeroDivisor}
use Rattle.kl1_model.specs.Term.{Term, variable, integer, atom, structure, Terms, none}
use Rattle.kl1_model.specs.Meaning.{pair}
use Rattle.kl1_model.specs.Print.{print}
use Rattle.kl1_model.specs.Token.{tokens_of_text}
use Rattle.kl1_model.specs.Arithmetic.{operated, evaluated}
use Rattle.kl1_model.specs.Guard.{test_of}
use Rattle.kl1_model.specs.Module.{Module, Clause, Reading, good, bad, bare_tokens, term_of_tokens, read_module}
use Rattle.kl1_model.specs.declared.comparison.Comparison.{Comparison}
use Rattle.kl1_model.specs.Guard.{compares, test_answer}
use Rattle.kl1_model.specs.Match.{Answer, yes, no, wait, option_answer}
use Rattle.kl1_model.specs.code.Verdicts.{Verdict, accepts, rejects, suspends, named_verdict}
use Rattle.kl1_model.specs.Found.{found, awaits, wrong}

-- lines, each ended by a line feed
abbrev pub lines : List (List ℕ) → List ℕ
lines [] = []
lines (l ∷ ls) = l ++ 10 ∷ lines ls

-- the term that a text is
abbrev pub term_in : List ℕ → Option Term
term_in text = term_of_tokens (bare_tokens (tokens_of_text text).placed)

-- the answer of the test that a text is
abbrev pub answer_in : List ℕ → Answer
answer_in text = option_answer (λ v. variable v) (option_and_then test_of (term_in text))

-- the answer of a comparison of two terms
abbrev pub comparison : Comparison → Term → Term → Answer
comparison c t u = test_answer (compares c t u)

-- ones joined by `n` operators, each sum the left operand of the next
abbrev pub ones_to_the_left : ℕ → Term
ones_to_the_left zero = integer (pos 1)
ones_to_the_left (suc n) = pair (codes "+") (ones_to_the_left n) (integer (pos 1))

-- or the right one
abbrev pub ones_to_the_right : ℕ → Term
ones_to_the_right zero = integer (pos 1)
ones_to_the_right (suc n) = pair (codes "+") (integer (pos 1)) (ones_to_the_right n)

-- `t` and ones after it, joined by `n` operators, each sum the left operand of the next
abbrev pub ones_behind : ℕ → Term → Term
ones_behind zero t = t
ones_behind (suc n) t = pair (codes "+") (ones_behind n t) (integer (pos 1))

-- whether a text was read as a module
abbrev pub is_good : Reading Module → Bool
is_good (good m) = true
is_good (bad line) = false

-- whether a text is a module
abbrev pub is_read : List ℕ → Bool
is_read text = is_good (read_module text)

-- the clauses of what was read
abbrev pub clauses_read : Reading Module → List Clause
clauses_read (good m) = m.clauses
clauses_read (bad line) = []

-- the sections of a module's clauses
abbrev pub sections_in : List ℕ → List ℕ
sections_in text = map (λ c. c.section) (clauses_read (read_module text))

-- the arguments of a term
abbrev pub arguments_in : Option Term → Terms
arguments_in (Some (structure f ts)) = ts
arguments_in t = none

-- the verdict of the first clause on the arguments of a goal
abbrev pub first_verdict : List Clause → Terms → Option Verdict
first_verdict [] ts = None
first_verdict (c ∷ cs) ts = Some (named_verdict c ts)

-- the verdict of a clause on the arguments of a goal, each a text
abbrev pub verdict_in : List ℕ → List ℕ → Option Verdict
verdict_in clause goal = first_verdict (clauses_read (read_module (codes ":- module z." ++ 10 ∷ clause))) (arguments_in (term_in goal))

-- what the rows come to
pub record GuardRowsHold : Type 0 where
  -- the greatest integer is a sum
  pub sum_at_the_end : operated Plus (pos 9223372036854775807) (pos 0) ≡ Value (pos 9223372036854775807)
  -- one more overflows
  pub sum_past_the_end : operated Plus (pos 9223372036854775807) (pos 1) ≡ Overflow
  -- the least integer is a sum
  pub sum_at_the_start : operated Plus (negsuc 9223372036854775806) (negsuc 0) ≡ Value (negsuc 9223372036854775807)
  -- one less overflows
  pub sum_before_the_start : operated Plus (negsuc 9223372036854775807) (negsuc 0) ≡ Overflow
  -- a difference that is too large overflows
  pub difference_past_the_end : operated Minus (pos 0) (negsuc 9223372036854775807) ≡ Overflow
  -- the greatest integer is a difference
  pub difference_at_the_end : operated Minus (negsuc 0) (negsuc 9223372036854775807) ≡ Value (pos 9223372036854775807)
  -- a difference that is too small overflows
  pub difference_before_the_start : operated Minus (negsuc 9223372036854775807) (pos 1) ≡ Overflow
  -- the least integer is a product
  pub product_at_the_start : operated Times (negsuc 4611686018427387903) (pos 2) ≡ Value (negsuc 9223372036854775807)
  -- its opposite is none
  pub product_past_the_end : operated Times (negsuc 9223372036854775807) (negsuc 0) ≡ Overflow
  -- a product that is too small overflows
  pub product_before_the_start : operated Times (negsuc 4611686018427387904) (pos 2) ≡ Overflow
  -- a quotient is rounded towards zero
  pub quotient_below_zero : operated Divide (negsuc 6) (pos 2) ≡ Value (negsuc 2)
  -- and so it is if the divisor is negative
  pub quotient_by_less_than_zero : operated Divide (pos 7) (negsuc 1) ≡ Value (negsuc 2)
  -- and if both are
  pub quotient_of_two_below_zero : operated Divide (negsuc 6) (negsuc 1) ≡ Value (pos 3)
  -- the least integer by -1 overflows
  pub quotient_past_the_end : operated Divide (negsuc 9223372036854775807) (negsuc 0) ≡ Overflow
  -- nothing is divided by zero
  pub quotient_by_zero : operated Divide (pos 1) (pos 0) ≡ ZeroDivisor
  -- a remainder has the sign of the dividend
  pub remainder_below_zero : operated Modulo (negsuc 6) (pos 2) ≡ Value (negsuc 0)
  -- whatever the sign of the divisor
  pub remainder_above_zero : operated Modulo (pos 7) (negsuc 1) ≡ Value (pos 1)
  -- the least integer by -1 leaves 0
  pub remainder_of_the_least : operated Modulo (negsuc 9223372036854775807) (negsuc 0) ≡ Value (pos 0)
  -- nothing is divided by zero
  pub remainder_by_zero : operated Modulo (pos 1) (pos 0) ≡ ZeroDivisor
  -- the left operand is computed before the right one
  pub left_fault_first : option_map evaluated (term_in (codes "(9223372036854775807 + 1) + (1 / 0)")) ≡ Some (found Overflow)
  -- and both before the operator itself
  pub right_fault_before_its_own : option_map evaluated (term_in (codes "9223372036854775807 + (1 / 0)")) ≡ Some (found ZeroDivisor)
  -- the first leaf that is no integer decides: one that is unbound
  pub first_leaf_waits : option_map evaluated (term_in (codes "(1 + X) * a")) ≡ Some (awaits 1)
  -- or one of a wrong type
  pub first_leaf_is_wrong : option_map evaluated (term_in (codes "(1 + a) * X")) ≡ Some (wrong)
  -- a leaf of a wrong type goes before a fault of computing
  pub scan_goes_before_computing : option_map evaluated (term_in (codes "(1 / 0) + a")) ≡ Some (wrong)
  -- an operator of one operand is of a wrong type
  pub operators_have_two_operands : option_map evaluated (term_in (codes "'-'(1)")) ≡ Some (wrong)
  -- sums group to the left
  pub sums_group_to_the_left : option_map evaluated (term_in (codes "1 - 2 - 3")) ≡ Some (found (Value (negsuc 3)))
  -- products go before sums, and group to the left
  pub products_go_before_sums : option_map evaluated (term_in (codes "2 + 9 / 2 * 3 mod 5")) ≡ Some (found (Value (pos 4)))
  -- parentheses group
  pub parentheses_group : option_map evaluated (term_in (codes "1 - (2 - 3)")) ≡ Some (found (Value (pos 2)))
  -- a `-` before digits is a part of them where no operator may stand
  pub minus_before_digits : option_map evaluated (term_in (codes "1 - -1")) ≡ Some (found (Value (pos 2)))
  -- and an operator where one may stand
  pub minus_between_digits : option_map evaluated (term_in (codes "3 -1")) ≡ Some (found (Value (pos 2)))
  -- `mod` is an operator where one may stand
  pub mod_before_an_operand : option_map evaluated (term_in (codes "7 mod(4)")) ≡ Some (found (Value (pos 3)))
  -- `mod` is a name where no operator may stand
  pub mod_before_arguments : term_in (codes "mod(7,4)") ≡ Some (pair (codes "mod") (integer (pos 7)) (integer (pos 4)))
  -- and in quotes always
  pub mod_in_quotes : term_in (codes "7 'mod' 4") ≡ None
  -- `mod` alone is an atom
  pub mod_alone : term_in (codes "mod") ≡ Some (atom (codes "mod"))
  -- an expression has at most 64 operators
  pub expression_of_64_operators : evaluated (ones_to_the_left 64) ≡ found (Value (pos 65))
  -- and a 65th is of a wrong type
  pub expression_of_65_operators : evaluated (ones_to_the_left 65) ≡ wrong
  -- wherever they stand
  pub expression_of_64_to_the_right : evaluated (ones_to_the_right 64) ≡ found (Value (pos 65))
  -- wherever it stands
  pub expression_of_65_to_the_right : evaluated (ones_to_the_right 65) ≡ wrong
  -- each side of a comparison has its own 64
  pub each_side_has_64_operators : comparison SameNumber (ones_to_the_left 64) (ones_to_the_right 64) ≡ yes
  -- `true` holds
  pub true_holds : answer_in (codes "true") ≡ yes
  -- `wait` agrees
  pub wait_agrees : answer_in (codes "wait(a)") ≡ yes
  -- `wait` waits
  pub wait_waits : answer_in (codes "wait(X)") ≡ wait (1 ∷ [])
  -- `integer` agrees
  pub integer_agrees : answer_in (codes "integer(3)") ≡ yes
  -- `integer` clashes
  pub integer_clashes : answer_in (codes "integer(a)") ≡ no
  -- `integer` waits
  pub integer_waits : answer_in (codes "integer(X)") ≡ wait (1 ∷ [])
  -- `atom` agrees
  pub atom_agrees : answer_in (codes "atom([])") ≡ yes
  -- `atom` clashes
  pub atom_clashes : answer_in (codes "atom(f(X))") ≡ no
  -- `atom` waits
  pub atom_waits : answer_in (codes "atom(X)") ≡ wait (1 ∷ [])
  -- `list` agrees
  pub list_agrees : answer_in (codes "list([X])") ≡ yes
  -- `list` clashes
  pub list_clashes : answer_in (codes "list([])") ≡ no
  -- `list` waits
  pub list_waits : answer_in (codes "list(X)") ≡ wait (1 ∷ [])
  -- `=` agrees with the same term
  pub same_agrees : answer_in (codes "f(X,a) = f(X,a)") ≡ yes
  -- `=` clashes if the terms do
  pub same_clashes : answer_in (codes "f(X,a) = f(Y,b)") ≡ no
  -- `=` waits for each variable beside another term
  pub same_waits : answer_in (codes "f(X,Z,g(Y)) = f(1,Z,g(W))") ≡ wait (1 ∷ 3 ∷ 4 ∷ [])
  -- `\=` agrees if the terms clash
  pub other_agrees : answer_in (codes "f(X,a) \\= f(Y,b)") ≡ yes
  -- `\=` clashes with the same term
  pub other_clashes : answer_in (codes "X \\= X") ≡ no
  -- `\=` waits else
  pub other_waits : answer_in (codes "X \\= a") ≡ wait (1 ∷ [])
  -- `<` agrees if it holds
  pub less_agrees : answer_in (codes "1 < 2") ≡ yes
  -- `<` clashes if it doesn't
  pub less_clashes : answer_in (codes "2 < 2") ≡ no
  -- `<` waits
  pub less_waits : answer_in (codes "X < 1") ≡ wait (1 ∷ [])
  -- `>` agrees if it holds
  pub greater_agrees : answer_in (codes "2 > 1") ≡ yes
  -- `>` clashes if it doesn't
  pub greater_clashes : answer_in (codes "2 > 2") ≡ no
  -- `>` waits
  pub greater_waits : answer_in (codes "X > 1") ≡ wait (1 ∷ [])
  -- `=<` agrees if it holds
  pub at_most_agrees : answer_in (codes "2 =< 2") ≡ yes
  -- `=<` clashes if it doesn't
  pub at_most_clashes : answer_in (codes "3 =< 2") ≡ no
  -- `=<` waits
  pub at_most_waits : answer_in (codes "X =< 1") ≡ wait (1 ∷ [])
  -- `>=` agrees if it holds
  pub at_least_agrees : answer_in (codes "2 >= 2") ≡ yes
  -- `>=` clashes if it doesn't
  pub at_least_clashes : answer_in (codes "1 >= 2") ≡ no
  -- `>=` waits
  pub at_least_waits : answer_in (codes "X >= 1") ≡ wait (1 ∷ [])
  -- `=:=` agrees if it holds
  pub same_number_agrees : answer_in (codes "2 =:= 1 + 1") ≡ yes
  -- `=:=` clashes if it doesn't
  pub same_number_clashes : answer_in (codes "2 =:= 3") ≡ no
  -- `=:=` waits
  pub same_number_waits : answer_in (codes "X =:= 1") ≡ wait (1 ∷ [])
  -- `=\=` agrees if it holds
  pub other_number_agrees : answer_in (codes "2 =\\= 3") ≡ yes
  -- `=\=` clashes if it doesn't
  pub other_number_clashes : answer_in (codes "2 =\\= 1 + 1") ≡ no
  -- `=\=` waits
  pub other_number_waits : answer_in (codes "X =\\= 1") ≡ wait (1 ∷ [])
  -- the left side of a comparison is scanned first
  pub left_side_first : answer_in (codes "a < X") ≡ no
  -- and waits before the right one is looked at
  pub left_side_waits : answer_in (codes "X < a") ≡ wait (1 ∷ [])
  -- then the right one
  pub right_side_clashes : answer_in (codes "1 < a") ≡ no
  -- which may wait
  pub right_side_waits : answer_in (codes "1 < X") ≡ wait (1 ∷ [])
  -- a fault of computing clashes
  pub fault_of_computing : answer_in (codes "1 / 0 =\\= 1") ≡ no
  -- and is looked for if neither side waits
  pub scan_before_fault : answer_in (codes "1 / 0 < X") ≡ wait (1 ∷ [])
  -- a sum prints as structures, and its print reads back
  pub print_of_a_sum : option_map print (term_in (codes "X := 1 - 2 - 3")) ≡ Some (codes "':='(_1,'-'('-'(1,2),3))")
  -- as the same term
  pub print_of_a_sum_reads_back : term_in (codes "':='(_1,'-'('-'(1,2),3))") ≡ term_in (codes "X := 1 - 2 - 3")
  -- `otherwise` stands after a clause
  pub otherwise_first : read_module (lines (codes ":- module z." ∷ codes "otherwise." ∷ codes "p." ∷ [])) ≡ bad 2
  -- `otherwise` stands before a clause
  pub otherwise_last : read_module (lines (codes ":- module z." ∷ codes "p." ∷ codes "otherwise." ∷ [])) ≡ bad 3
  -- a comment is none
  pub otherwise_before_a_comment : read_module (lines (codes ":- module z." ∷ codes "p." ∷ codes "otherwise." ∷ codes "% p." ∷ [])) ≡ bad 3
  -- a second `otherwise` is the fault
  pub otherwise_twice : read_module (lines (codes ":- module z." ∷ codes "p." ∷ codes "otherwise." ∷ codes "otherwise." ∷ codes "p." ∷ [])) ≡ bad 4
  -- and so is a clause of another predicate
  pub otherwise_before_another : read_module (lines (codes ":- module z." ∷ codes "p." ∷ codes "otherwise." ∷ codes "p(X)." ∷ [])) ≡ bad 4
  -- and an item that is bad
  pub otherwise_before_a_fault : read_module (lines (codes ":- module z." ∷ codes "p." ∷ codes "otherwise." ∷ codes "p(." ∷ [])) ≡ bad 4
  -- and a byte that no text may hold
  pub otherwise_before_a_bad_byte : read_module (lines (codes ":- module z." ∷ codes "p." ∷ codes "otherwise." ∷ codes "?" ∷ [])) ≡ bad 4
  -- no head is `otherwise`
  pub otherwise_as_a_head : read_module (lines (codes ":- module z." ∷ codes "p." ∷ codes "otherwise :- true." ∷ [])) ≡ bad 3
  -- but with arguments it may be one
  pub otherwise_with_arguments : is_read (lines (codes ":- module z." ∷ codes "otherwise(X)." ∷ [])) ≡ true
  -- in quotes it is the same
  pub otherwise_in_quotes : is_read (lines (codes ":- module z." ∷ codes "p(a)." ∷ codes "'otherwise'." ∷ codes "p(X)." ∷ [])) ≡ true
  -- no head is `atom_from` with two arguments
  pub head_is_atom_from : read_module (lines (codes ":- module z." ∷ codes "atom_from(X,Y)." ∷ [])) ≡ bad 2
  -- no head has an operator's name
  pub head_is_modulo : read_module (lines (codes ":- module z." ∷ codes "mod(X,Y)." ∷ [])) ≡ bad 2
  -- each variable of the guard is the head's
  pub guard_variable : read_module (lines (codes ":- module z." ∷ codes "p(X) :- Y > 0 | true." ∷ [])) ≡ bad 2
  -- and so `_` is none
  pub guard_underscore : read_module (lines (codes ":- module z." ∷ codes "p(X) :- integer(_) | true." ∷ [])) ≡ bad 2
  -- a guard of the head's variables
  pub guard_of_the_head : is_read (lines (codes ":- module z." ∷ codes "p(X,f(Y)) :- X > Y + 1, integer(X), f(X) \\= f(Y), wait(Y) | true." ∷ [])) ≡ true
  -- `:=` is no test
  pub guard_assigns : read_module (lines (codes ":- module z." ∷ codes "p(X) :- X := 1 | true." ∷ [])) ≡ bad 2
  -- and no call is
  pub guard_calls : read_module (lines (codes ":- module z." ∷ codes "p(X) :- q(X) | true." ∷ [])) ≡ bad 2
  -- nor a test of another number of arguments
  pub guard_counts : read_module (lines (codes ":- module z." ∷ codes "p(X) :- integer(X,X) | true." ∷ [])) ≡ bad 2
  -- a comparison is no goal
  pub body_compares : read_module (lines (codes ":- module z." ∷ codes "p(X) :- X > 1." ∷ [])) ≡ bad 2
  -- nor is a sum
  pub body_sums : read_module (lines (codes ":- module z." ∷ codes "p(X) :- X + 1." ∷ [])) ≡ bad 2
  -- `:=` is a goal
  pub body_assigns : is_read (lines (codes ":- module z." ∷ codes "p(X) :- X := 1 + Y." ∷ [])) ≡ true
  -- and the names of tests are names of predicates there
  pub body_tests : is_read (lines (codes ":- module z." ∷ codes "p(X) :- integer(X), wait(X,X)." ∷ [])) ≡ true
  -- there is one relation
  pub two_relations : read_module (lines (codes ":- module z." ∷ codes "p(X) :- X = 1 = 2." ∷ [])) ≡ bad 2
  -- and one colon
  pub two_colons : read_module (lines (codes ":- module z." ∷ codes "p :- a:b:c." ∷ [])) ≡ bad 2
  -- a `-` before a blank is no integer's
  pub loose_minus : read_module (lines (codes ":- module z." ∷ codes "p(- 1)." ∷ [])) ≡ bad 2
  -- nor before a name
  pub minus_before_a_name : read_module (lines (codes ":- module z." ∷ codes "p(-a)." ∷ [])) ≡ bad 2
  -- an operator has a right operand
  pub operator_without_operand : read_module (lines (codes ":- module z." ∷ codes "p(X) :- X := 1 + ." ∷ [])) ≡ bad 2
  -- 2 ^ 63 is none after an operator
  pub operand_past_the_end : read_module (lines (codes ":- module z." ∷ codes "p(X) :- X := 1 -9223372036854775808." ∷ [])) ≡ bad 2
  -- but is the least integer where no operator may stand
  pub operand_at_the_start : is_read (lines (codes ":- module z." ∷ codes "p(X) :- X := 1 - -9223372036854775808." ∷ [])) ≡ true
  -- a goal of a user's predicate may name a priority from 0 to 4,095
  pub priority_of_a_goal : is_read (lines (codes ":- module z." ∷ codes "p :- q@priority(1), m:q @ priority(4095), shoen:execute(1)@priority(0)." ∷ [])) ≡ true
  -- and none stands before a bar
  pub priority_before_a_bar : read_module (lines (codes ":- module z." ∷ codes "p :- true@priority(1) | true." ∷ [])) ≡ bad 2
  -- `shoen:execute` with six arguments is a goal
  pub execute_in_a_body : is_read (lines (codes ":- module z." ∷ codes "p :- shoen:execute(true,0,1,1,C,R)." ∷ [])) ≡ true
  -- and so is `atom_from` with two
  pub atom_from_in_a_body : is_read (lines (codes ":- module z." ∷ codes "p(X) :- atom_from(X,Y)." ∷ [])) ≡ true
  -- with another number of arguments they are calls
  pub execute_of_one : is_read (lines (codes ":- module z." ∷ codes "p :- shoen:execute(true), atom_from(X)." ∷ [])) ≡ true
  -- operators add depth as structures do, and parentheses none
  pub deep_sum : read_module (lines (codes ":- module z." ∷ codes "p(X) :- X := 1 + 1 + 1 + 1 + 1 + 1 + 1 + 1 + 1 + 1 + 1 + 1 + 1 + 1 + 1 + 1 + 1 + 1 + 1 + 1 + 1 + 1 + 1 + 1 + 1 + 1 + 1 + 1 + 1 + 1 + 1 + 1 + 1 + 1 + 1 + 1 + 1 + 1 + 1 + 1 + 1 + 1 + 1 + 1 + 1 + 1 + 1 + 1 + 1 + 1 + 1 + 1 + 1 + 1 + 1 + 1 + 1 + 1 + 1 + 1 + 1 + 1 + 1 + 1 + 1 + 1 + 1 + 1 + 1 + 1 + 1 + 1 + 1 + 1 + 1 + 1 + 1 + 1 + 1 + 1 + 1 + 1 + 1 + 1 + 1 + 1 + 1 + 1 + 1 + 1 + 1 + 1 + 1 + 1 + 1 + 1 + 1 + 1 + 1 + 1 + 1 + 1 + 1 + 1 + 1 + 1 + 1 + 1 + 1 + 1 + 1 + 1 + 1 + 1 + 1 + 1 + 1 + 1 + 1 + 1 + 1 + 1 + 1 + 1 + 1 + 1 + 1 + 1 + 1 + 1 + 1 + 1 + 1 + 1 + 1 + 1 + 1 + 1 + 1 + 1 + 1 + 1 + 1 + 1 + 1 + 1 + 1 + 1 + 1 + 1 + 1 + 1 + 1 + 1 + 1 + 1 + 1 + 1 + 1 + 1 + 1 + 1 + 1 + 1 + 1 + 1 + 1 + 1 + 1 + 1 + 1 + 1 + 1 + 1 + 1 + 1 + 1 + 1 + 1 + 1 + 1 + 1 + 1 + 1 + 1 + 1 + 1 + 1 + 1 + 1 + 1 + 1 + 1 + 1 + 1 + 1 + 1 + 1 + 1 + 1 + 1 + 1 + 1 + 1 + 1 + 1 + 1 + 1 + 1 + 1 + 1 + 1 + 1 + 1 + 1 + 1 + 1 + 1 + 1 + 1 + 1 + 1 + 1 + 1 + 1 + 1 + 1 + 1 + 1 + 1 + 1 + 1 + 1 + 1 + 1 + 1 + 1 + 1 + 1 + 1 + 1 + 1 + 1 + 1 + 1 + 1 + 1 + 1 + 1 + 1 + 1 + 1 + 1 + 1 + 1 + 1." ∷ [])) ≡ bad 2
  -- up to 256
  pub sum_of_256_levels : is_read (lines (codes ":- module z." ∷ codes "p(X) :- X := 1 + 1 + 1 + 1 + 1 + 1 + 1 + 1 + 1 + 1 + 1 + 1 + 1 + 1 + 1 + 1 + 1 + 1 + 1 + 1 + 1 + 1 + 1 + 1 + 1 + 1 + 1 + 1 + 1 + 1 + 1 + 1 + 1 + 1 + 1 + 1 + 1 + 1 + 1 + 1 + 1 + 1 + 1 + 1 + 1 + 1 + 1 + 1 + 1 + 1 + 1 + 1 + 1 + 1 + 1 + 1 + 1 + 1 + 1 + 1 + 1 + 1 + 1 + 1 + 1 + 1 + 1 + 1 + 1 + 1 + 1 + 1 + 1 + 1 + 1 + 1 + 1 + 1 + 1 + 1 + 1 + 1 + 1 + 1 + 1 + 1 + 1 + 1 + 1 + 1 + 1 + 1 + 1 + 1 + 1 + 1 + 1 + 1 + 1 + 1 + 1 + 1 + 1 + 1 + 1 + 1 + 1 + 1 + 1 + 1 + 1 + 1 + 1 + 1 + 1 + 1 + 1 + 1 + 1 + 1 + 1 + 1 + 1 + 1 + 1 + 1 + 1 + 1 + 1 + 1 + 1 + 1 + 1 + 1 + 1 + 1 + 1 + 1 + 1 + 1 + 1 + 1 + 1 + 1 + 1 + 1 + 1 + 1 + 1 + 1 + 1 + 1 + 1 + 1 + 1 + 1 + 1 + 1 + 1 + 1 + 1 + 1 + 1 + 1 + 1 + 1 + 1 + 1 + 1 + 1 + 1 + 1 + 1 + 1 + 1 + 1 + 1 + 1 + 1 + 1 + 1 + 1 + 1 + 1 + 1 + 1 + 1 + 1 + 1 + 1 + 1 + 1 + 1 + 1 + 1 + 1 + 1 + 1 + 1 + 1 + 1 + 1 + 1 + 1 + 1 + 1 + 1 + 1 + 1 + 1 + 1 + 1 + 1 + 1 + 1 + 1 + 1 + 1 + 1 + 1 + 1 + 1 + 1 + 1 + 1 + 1 + 1 + 1 + 1 + 1 + 1 + 1 + 1 + 1 + 1 + 1 + 1 + 1 + 1 + 1 + 1 + 1 + 1 + 1 + 1 + 1 + 1 + 1 + 1 + 1 + 1 + 1 + 1 + 1 + 1." ∷ [])) ≡ true
  -- the sections of a predicate are numbered from 0
  pub sections_of_a_predicate : sections_in (lines (codes ":- module z." ∷ codes "p(a)." ∷ codes "p(b)." ∷ codes "otherwise." ∷ codes "p(c)." ∷ codes "otherwise." ∷ codes "p(X)." ∷ codes "q(a)." ∷ codes "otherwise." ∷ codes "q(X)." ∷ [])) ≡ 0 ∷ 0 ∷ 1 ∷ 2 ∷ 0 ∷ 1 ∷ []
  -- passive equality compares each two places that were reached
  pub places_reached : verdict_in (codes "p(X,X,X).") (codes "p(V,a,b)") ≡ Some (rejects [])
  -- and waits for variables beside other terms
  pub places_wait : verdict_in (codes "p(X,X).") (codes "p(f(V),f(W))") ≡ Some (suspends (1 ∷ 2 ∷ []))
  -- a place that wasn't reached is compared with none
  pub place_not_reached : verdict_in (codes "p(X,f(X)).") (codes "p(a,V)") ≡ Some (suspends (1 ∷ []))
  -- a variable that was not reached is unbound, and named by the match alone
  pub test_of_what_was_not_reached : verdict_in (codes "p(f(X)) :- X > 1 | true.") (codes "p(V)") ≡ Some (suspends (1 ∷ []))
  -- two of them are two variables
  pub two_that_were_not_reached : verdict_in (codes "p(f(X,Y)) :- X \\= Y | true.") (codes "p(V)") ≡ Some (suspends (1 ∷ []))
  -- and one is the same as itself, so that the clause rejects the goal while the match waits
  pub same_that_was_not_reached : verdict_in (codes "p(f(X)) :- X \\= X | true.") (codes "p(V)") ≡ Some (rejects (1 ∷ []))
  -- a clash of a test outweighs a wait
  pub no_outweighs_wait : verdict_in (codes "p(X,Y) :- X > 1, Y > 1 | true.") (codes "p(V,0)") ≡ Some (rejects [])
  -- tests wait for the variables of each
  pub tests_wait : verdict_in (codes "p(X,Y) :- X > 1, Y > 1 | true.") (codes "p(V,W)") ≡ Some (suspends (1 ∷ 2 ∷ []))
  -- a test speaks of the first place that was reached
  pub first_place_decides : verdict_in (codes "p(f(X),X) :- X > 5 | true.") (codes "p(V,1)") ≡ Some (rejects (1 ∷ []))
  -- which another may come to be
  pub first_place_changes : verdict_in (codes "p(f(X),X) :- X > 5 | true.") (codes "p(f(W),1)") ≡ Some (suspends (1 ∷ 1 ∷ []))
  -- a clause accepts if match, places and tests agree
  pub accepts_by_all : verdict_in (codes "p(f(X),X) :- X > 5 | true.") (codes "p(f(6),6)") ≡ Some (accepts (record { number = 1; by = integer (pos 6) } ∷ record { number = 1; by = integer (pos 6) } ∷ []))
  -- an unbound leaf below 64 operators is waited for
  pub unbound_below_64_operators : evaluated (ones_behind 64 (variable 1)) ≡ awaits 1
  -- below 65 the last operator is met first
  pub unbound_below_65_operators : evaluated (ones_behind 65 (variable 1)) ≡ wrong
  -- before the 65th it is met first itself
  pub unbound_before_65_operators : evaluated (pair (codes "+") (variable 1) (ones_to_the_right 64)) ≡ awaits 1
  -- an unbound variable is the same as itself
  pub one_variable_is_the_same : answer_in (codes "X = X") ≡ yes
  -- parentheses make a relation an operand
  pub relation_as_an_operand_clashes : answer_in (codes "(a = b) = c") ≡ no
  -- which is a structure
  pub relation_as_an_operand : term_in (codes "(a = b) = c") ≡ Some (pair (codes "=") (pair (codes "=") (atom (codes "a")) (atom (codes "b"))) (atom (codes "c")))
  -- `mod` is an operand where one is expected
  pub mod_three_times : term_in (codes "mod mod mod") ≡ Some (pair (codes "mod") (atom (codes "mod")) (atom (codes "mod")))
  -- and groups to the left
  pub mods_group_to_the_left : term_in (codes "a mod b mod c") ≡ Some (pair (codes "mod") (pair (codes "mod") (atom (codes "a")) (atom (codes "b"))) (atom (codes "c")))
  -- after an operand it takes one operand
  pub mod_before_two_operands : term_in (codes "7 mod(1,2)") ≡ None
  -- and no less
  pub mod_at_the_end : term_in (codes "7 mod") ≡ None
  -- also as an argument
  pub mod_before_a_parenthesis : term_in (codes "f(a mod)") ≡ None
  -- `-` before digits is a part of them after `mod`
  pub mod_of_a_negative_integer : term_in (codes "7 mod -5") ≡ Some (pair (codes "mod") (integer (pos 7)) (integer (negsuc 4)))
  -- but an operator if `mod` is the operand
  pub mod_less_five : term_in (codes "mod -5") ≡ Some (pair (codes "-") (atom (codes "mod")) (integer (pos 5)))
  -- and after a name
  pub name_less_five : term_in (codes "a -5") ≡ Some (pair (codes "-") (atom (codes "a")) (integer (pos 5)))
  -- after an operator it is a part of the digits
  pub twice_minus_three : term_in (codes "2*-3") ≡ Some (pair (codes "*") (integer (pos 2)) (integer (negsuc 2)))
  -- also without blanks
  pub one_less_minus_one : term_in (codes "1--1") ≡ Some (pair (codes "-") (integer (pos 1)) (integer (negsuc 0)))
  -- a blank parts it from them
  pub minus_and_a_blank : term_in (codes "- 1") ≡ None
  -- no variable has a sign
  pub minus_a_variable : term_in (codes "X := -Y") ≡ None
  -- so is a variable of the goal at two places of a test
  pub same_variables_are_the_same : verdict_in (codes "p(X,Y) :- X = Y | true.") (codes "p(V,V)") ≡ Some (accepts (record { number = 1; by = variable 1 } ∷ record { number = 2; by = variable 1 } ∷ []))
  -- a test that agrees leaves the match's wait, which names its variable once
  pub same_that_waits : verdict_in (codes "p(f(X)) :- X = X | true.") (codes "p(V)") ≡ Some (suspends (1 ∷ []))
  -- a test that clashes by the first place rejects, and names what the match waits for
  pub first_place_is_reached : verdict_in (codes "p(X,f(X)) :- X > 5 | true.") (codes "p(1,V)") ≡ Some (rejects (1 ∷ []))
  -- and rejects still when that is bound
  pub first_place_stays : verdict_in (codes "p(X,f(X)) :- X > 5 | true.") (codes "p(1,f(W))") ≡ Some (rejects [])
