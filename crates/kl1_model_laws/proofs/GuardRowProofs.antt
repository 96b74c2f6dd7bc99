-- The rows of arithmetic, tests, verdicts and the grammar, computed from the definitions.
use Rattle.std.specs.Prelude.{◌≡◌, refl, true, [], ◌∷◌, codes, pos, negsuc, Some, None, option_map}
use Rattle.kl1_model.specs.declared.operator.Operator.TheVariants.{Plus, Minus, Times, Divide, Modulo}
use Rattle.kl1_model.specs.declared.comparison.Comparison.TheVariants.{SameNumber}
use Rattle.kl1_model.specs.declared.number.Number.TheVariants.{Value, Overflow, ZeroDivisor}
use Rattle.kl1_model.specs.Term.{integer, atom, variable}
use Rattle.kl1_model.specs.Meaning.{pair}
use Rattle.kl1_model.specs.Arithmetic.{operated, evaluated}
use Rattle.kl1_model.specs.Module.{bad, read_module}
use Rattle.kl1_model.specs.Match.{yes, no, wait}
use Rattle.kl1_model.specs.code.Verdicts.{accepts, rejects, suspends}
use Rattle.kl1_model.specs.Print.{print}
use Rattle.std.specs.Fmt.{digits}
use Rattle.kl1_model.specs.Token.{tokens_within}
use Rattle.kl1_model.specs.reader.Reader.{expression_at, parted_by, grouped_by}
use Rattle.kl1_model_laws.specs.GuardRows.{lines, term_in, answer_in, comparison, ones_to_the_left, ones_to_the_right, ones_behind, is_read, sections_in, verdict_in, GuardRowsHold}
use Rattle.kl1_model.specs.Found.{found, awaits, wrong}

sum_at_the_end_row : operated Plus (pos 9223372036854775807) (pos 0) ≡ Value (pos 9223372036854775807)
unfolding digits tokens_within expression_at parted_by grouped_by
sum_at_the_end_row = refl

sum_past_the_end_row : operated Plus (pos 9223372036854775807) (pos 1) ≡ Overflow
unfolding digits tokens_within expression_at parted_by grouped_by
sum_past_the_end_row = refl

sum_at_the_start_row : operated Plus (negsuc 9223372036854775806) (negsuc 0) ≡ Value (negsuc 9223372036854775807)
unfolding digits tokens_within expression_at parted_by grouped_by
sum_at_the_start_row = refl

sum_before_the_start_row : operated Plus (negsuc 9223372036854775807) (negsuc 0) ≡ Overflow
unfolding digits tokens_within expression_at parted_by grouped_by
sum_before_the_start_row = refl

difference_past_the_end_row : operated Minus (pos 0) (negsuc 9223372036854775807) ≡ Overflow
unfolding digits tokens_within expression_at parted_by grouped_by
difference_past_the_end_row = refl

difference_at_the_end_row : operated Minus (negsuc 0) (negsuc 9223372036854775807) ≡ Value (pos 9223372036854775807)
unfolding digits tokens_within expression_at parted_by grouped_by
difference_at_the_end_row = refl

difference_before_the_start_row : operated Minus (negsuc 9223372036854775807) (pos 1) ≡ Overflow
unfolding digits tokens_within expression_at parted_by grouped_by
difference_before_the_start_row = refl

product_at_the_start_row : operated Times (negsuc 4611686018427387903) (pos 2) ≡ Value (negsuc 9223372036854775807)
unfolding digits tokens_within expression_at parted_by grouped_by
product_at_the_start_row = refl

product_past_the_end_row : operated Times (negsuc 9223372036854775807) (negsuc 0) ≡ Overflow
unfolding digits tokens_within expression_at parted_by grouped_by
product_past_the_end_row = refl

product_before_the_start_row : operated Times (negsuc 4611686018427387904) (pos 2) ≡ Overflow
unfolding digits tokens_within expression_at parted_by grouped_by
product_before_the_start_row = refl

quotient_below_zero_row : operated Divide (negsuc 6) (pos 2) ≡ Value (negsuc 2)
unfolding digits tokens_within expression_at parted_by grouped_by
quotient_below_zero_row = refl

quotient_by_less_than_zero_row : operated Divide (pos 7) (negsuc 1) ≡ Value (negsuc 2)
unfolding digits tokens_within expression_at parted_by grouped_by
quotient_by_less_than_zero_row = refl

quotient_of_two_below_zero_row : operated Divide (negsuc 6) (negsuc 1) ≡ Value (pos 3)
unfolding digits tokens_within expression_at parted_by grouped_by
quotient_of_two_below_zero_row = refl

quotient_past_the_end_row : operated Divide (negsuc 9223372036854775807) (negsuc 0) ≡ Overflow
unfolding digits tokens_within expression_at parted_by grouped_by
quotient_past_the_end_row = refl

quotient_by_zero_row : operated Divide (pos 1) (pos 0) ≡ ZeroDivisor
unfolding digits tokens_within expression_at parted_by grouped_by
quotient_by_zero_row = refl

remainder_below_zero_row : operated Modulo (negsuc 6) (pos 2) ≡ Value (negsuc 0)
unfolding digits tokens_within expression_at parted_by grouped_by
remainder_below_zero_row = refl

remainder_above_zero_row : operated Modulo (pos 7) (negsuc 1) ≡ Value (pos 1)
unfolding digits tokens_within expression_at parted_by grouped_by
remainder_above_zero_row = refl

remainder_of_the_least_row : operated Modulo (negsuc 9223372036854775807) (negsuc 0) ≡ Value (pos 0)
unfolding digits tokens_within expression_at parted_by grouped_by
remainder_of_the_least_row = refl

remainder_by_zero_row : operated Modulo (pos 1) (pos 0) ≡ ZeroDivisor
unfolding digits tokens_within expression_at parted_by grouped_by
remainder_by_zero_row = refl

left_fault_first_row : option_map evaluated (term_in (codes "(9223372036854775807 + 1) + (1 / 0)")) ≡ Some (found Overflow)
unfolding digits tokens_within expression_at parted_by grouped_by
left_fault_first_row = refl

right_fault_before_its_own_row : option_map evaluated (term_in (codes "9223372036854775807 + (1 / 0)")) ≡ Some (found ZeroDivisor)
unfolding digits tokens_within expression_at parted_by grouped_by
right_fault_before_its_own_row = refl

first_leaf_waits_row : option_map evaluated (term_in (codes "(1 + X) * a")) ≡ Some (awaits 1)
unfolding digits tokens_within expression_at parted_by grouped_by
first_leaf_waits_row = refl

first_leaf_is_wrong_row : option_map evaluated (term_in (codes "(1 + a) * X")) ≡ Some (wrong)
unfolding digits tokens_within expression_at parted_by grouped_by
first_leaf_is_wrong_row = refl

scan_goes_before_computing_row : option_map evaluated (term_in (codes "(1 / 0) + a")) ≡ Some (wrong)
unfolding digits tokens_within expression_at parted_by grouped_by
scan_goes_before_computing_row = refl

operators_have_two_operands_row : option_map evaluated (term_in (codes "'-'(1)")) ≡ Some (wrong)
unfolding digits tokens_within expression_at parted_by grouped_by
operators_have_two_operands_row = refl

sums_group_to_the_left_row : option_map evaluated (term_in (codes "1 - 2 - 3")) ≡ Some (found (Value (negsuc 3)))
unfolding digits tokens_within expression_at parted_by grouped_by
sums_group_to_the_left_row = refl

products_go_before_sums_row : option_map evaluated (term_in (codes "2 + 9 / 2 * 3 mod 5")) ≡ Some (found (Value (pos 4)))
unfolding digits tokens_within expression_at parted_by grouped_by
products_go_before_sums_row = refl

parentheses_group_row : option_map evaluated (term_in (codes "1 - (2 - 3)")) ≡ Some (found (Value (pos 2)))
unfolding digits tokens_within expression_at parted_by grouped_by
parentheses_group_row = refl

minus_before_digits_row : option_map evaluated (term_in (codes "1 - -1")) ≡ Some (found (Value (pos 2)))
unfolding digits tokens_within expression_at parted_by grouped_by
minus_before_digits_row = refl

minus_between_digits_row : option_map evaluated (term_in (codes "3 -1")) ≡ Some (found (Value (pos 2)))
unfolding digits tokens_within expression_at parted_by grouped_by
minus_between_digits_row = refl

mod_before_an_operand_row : option_map evaluated (term_in (codes "7 mod(4)")) ≡ Some (found (Value (pos 3)))
unfolding digits tokens_within expression_at parted_by grouped_by
mod_before_an_operand_row = refl

mod_before_arguments_row : term_in (codes "mod(7,4)") ≡ Some (pair (codes "mod") (integer (pos 7)) (integer (pos 4)))
unfolding digits tokens_within expression_at parted_by grouped_by
mod_before_arguments_row = refl

mod_in_quotes_row : term_in (codes "7 'mod' 4") ≡ None
unfolding digits tokens_within expression_at parted_by grouped_by
mod_in_quotes_row = refl

mod_alone_row : term_in (codes "mod") ≡ Some (atom (codes "mod"))
unfolding digits tokens_within expression_at parted_by grouped_by
mod_alone_row = refl

expression_of_64_operators_row : evaluated (ones_to_the_left 64) ≡ found (Value (pos 65))
unfolding digits tokens_within expression_at parted_by grouped_by
expression_of_64_operators_row = refl

expression_of_65_operators_row : evaluated (ones_to_the_left 65) ≡ wrong
unfolding digits tokens_within expression_at parted_by grouped_by
expression_of_65_operators_row = refl

expression_of_64_to_the_right_row : evaluated (ones_to_the_right 64) ≡ found (Value (pos 65))
unfolding digits tokens_within expression_at parted_by grouped_by
expression_of_64_to_the_right_row = refl

expression_of_65_to_the_right_row : evaluated (ones_to_the_right 65) ≡ wrong
unfolding digits tokens_within expression_at parted_by grouped_by
expression_of_65_to_the_right_row = refl

each_side_has_64_operators_row : comparison SameNumber (ones_to_the_left 64) (ones_to_the_right 64) ≡ yes
unfolding digits tokens_within expression_at parted_by grouped_by
each_side_has_64_operators_row = refl

true_holds_row : answer_in (codes "true") ≡ yes
unfolding digits tokens_within expression_at parted_by grouped_by
true_holds_row = refl

wait_agrees_row : answer_in (codes "wait(a)") ≡ yes
unfolding digits tokens_within expression_at parted_by grouped_by
wait_agrees_row = refl

wait_waits_row : answer_in (codes "wait(X)") ≡ wait (1 ∷ [])
unfolding digits tokens_within expression_at parted_by grouped_by
wait_waits_row = refl

integer_agrees_row : answer_in (codes "integer(3)") ≡ yes
unfolding digits tokens_within expression_at parted_by grouped_by
integer_agrees_row = refl

integer_clashes_row : answer_in (codes "integer(a)") ≡ no
unfolding digits tokens_within expression_at parted_by grouped_by
integer_clashes_row = refl

integer_waits_row : answer_in (codes "integer(X)") ≡ wait (1 ∷ [])
unfolding digits tokens_within expression_at parted_by grouped_by
integer_waits_row = refl

atom_agrees_row : answer_in (codes "atom([])") ≡ yes
unfolding digits tokens_within expression_at parted_by grouped_by
atom_agrees_row = refl

atom_clashes_row : answer_in (codes "atom(f(X))") ≡ no
unfolding digits tokens_within expression_at parted_by grouped_by
atom_clashes_row = refl

atom_waits_row : answer_in (codes "atom(X)") ≡ wait (1 ∷ [])
unfolding digits tokens_within expression_at parted_by grouped_by
atom_waits_row = refl

list_agrees_row : answer_in (codes "list([X])") ≡ yes
unfolding digits tokens_within expression_at parted_by grouped_by
list_agrees_row = refl

list_clashes_row : answer_in (codes "list([])") ≡ no
unfolding digits tokens_within expression_at parted_by grouped_by
list_clashes_row = refl

list_waits_row : answer_in (codes "list(X)") ≡ wait (1 ∷ [])
unfolding digits tokens_within expression_at parted_by grouped_by
list_waits_row = refl

same_agrees_row : answer_in (codes "f(X,a) = f(X,a)") ≡ yes
unfolding digits tokens_within expression_at parted_by grouped_by
same_agrees_row = refl

same_clashes_row : answer_in (codes "f(X,a) = f(Y,b)") ≡ no
unfolding digits tokens_within expression_at parted_by grouped_by
same_clashes_row = refl

same_waits_row : answer_in (codes "f(X,Z,g(Y)) = f(1,Z,g(W))") ≡ wait (1 ∷ 3 ∷ 4 ∷ [])
unfolding digits tokens_within expression_at parted_by grouped_by
same_waits_row = refl

other_agrees_row : answer_in (codes "f(X,a) \\= f(Y,b)") ≡ yes
unfolding digits tokens_within expression_at parted_by grouped_by
other_agrees_row = refl

other_clashes_row : answer_in (codes "X \\= X") ≡ no
unfolding digits tokens_within expression_at parted_by grouped_by
other_clashes_row = refl

other_waits_row : answer_in (codes "X \\= a") ≡ wait (1 ∷ [])
unfolding digits tokens_within expression_at parted_by grouped_by
other_waits_row = refl

less_agrees_row : answer_in (codes "1 < 2") ≡ yes
unfolding digits tokens_within expression_at parted_by grouped_by
less_agrees_row = refl

less_clashes_row : answer_in (codes "2 < 2") ≡ no
unfolding digits tokens_within expression_at parted_by grouped_by
less_clashes_row = refl

less_waits_row : answer_in (codes "X < 1") ≡ wait (1 ∷ [])
unfolding digits tokens_within expression_at parted_by grouped_by
less_waits_row = refl

greater_agrees_row : answer_in (codes "2 > 1") ≡ yes
unfolding digits tokens_within expression_at parted_by grouped_by
greater_agrees_row = refl

greater_clashes_row : answer_in (codes "2 > 2") ≡ no
unfolding digits tokens_within expression_at parted_by grouped_by
greater_clashes_row = refl

greater_waits_row : answer_in (codes "X > 1") ≡ wait (1 ∷ [])
unfolding digits tokens_within expression_at parted_by grouped_by
greater_waits_row = refl

at_most_agrees_row : answer_in (codes "2 =< 2") ≡ yes
unfolding digits tokens_within expression_at parted_by grouped_by
at_most_agrees_row = refl

at_most_clashes_row : answer_in (codes "3 =< 2") ≡ no
unfolding digits tokens_within expression_at parted_by grouped_by
at_most_clashes_row = refl

at_most_waits_row : answer_in (codes "X =< 1") ≡ wait (1 ∷ [])
unfolding digits tokens_within expression_at parted_by grouped_by
at_most_waits_row = refl

at_least_agrees_row : answer_in (codes "2 >= 2") ≡ yes
unfolding digits tokens_within expression_at parted_by grouped_by
at_least_agrees_row = refl

at_least_clashes_row : answer_in (codes "1 >= 2") ≡ no
unfolding digits tokens_within expression_at parted_by grouped_by
at_least_clashes_row = refl

at_least_waits_row : answer_in (codes "X >= 1") ≡ wait (1 ∷ [])
unfolding digits tokens_within expression_at parted_by grouped_by
at_least_waits_row = refl

same_number_agrees_row : answer_in (codes "2 =:= 1 + 1") ≡ yes
unfolding digits tokens_within expression_at parted_by grouped_by
same_number_agrees_row = refl

same_number_clashes_row : answer_in (codes "2 =:= 3") ≡ no
unfolding digits tokens_within expression_at parted_by grouped_by
same_number_clashes_row = refl

same_number_waits_row : answer_in (codes "X =:= 1") ≡ wait (1 ∷ [])
unfolding digits tokens_within expression_at parted_by grouped_by
same_number_waits_row = refl

other_number_agrees_row : answer_in (codes "2 =\\= 3") ≡ yes
unfolding digits tokens_within expression_at parted_by grouped_by
other_number_agrees_row = refl

other_number_clashes_row : answer_in (codes "2 =\\= 1 + 1") ≡ no
unfolding digits tokens_within expression_at parted_by grouped_by
other_number_clashes_row = refl

other_number_waits_row : answer_in (codes "X =\\= 1") ≡ wait (1 ∷ [])
unfolding digits tokens_within expression_at parted_by grouped_by
other_number_waits_row = refl

left_side_first_row : answer_in (codes "a < X") ≡ no
unfolding digits tokens_within expression_at parted_by grouped_by
left_side_first_row = refl

left_side_waits_row : answer_in (codes "X < a") ≡ wait (1 ∷ [])
unfolding digits tokens_within expression_at parted_by grouped_by
left_side_waits_row = refl

right_side_clashes_row : answer_in (codes "1 < a") ≡ no
unfolding digits tokens_within expression_at parted_by grouped_by
right_side_clashes_row = refl

right_side_waits_row : answer_in (codes "1 < X") ≡ wait (1 ∷ [])
unfolding digits tokens_within expression_at parted_by grouped_by
right_side_waits_row = refl

fault_of_computing_row : answer_in (codes "1 / 0 =\\= 1") ≡ no
unfolding digits tokens_within expression_at parted_by grouped_by
fault_of_computing_row = refl

scan_before_fault_row : answer_in (codes "1 / 0 < X") ≡ wait (1 ∷ [])
unfolding digits tokens_within expression_at parted_by grouped_by
scan_before_fault_row = refl

print_of_a_sum_row : option_map print (term_in (codes "X := 1 - 2 - 3")) ≡ Some (codes "':='(_1,'-'('-'(1,2),3))")
unfolding digits tokens_within expression_at parted_by grouped_by
print_of_a_sum_row = refl

print_of_a_sum_reads_back_row : term_in (codes "':='(_1,'-'('-'(1,2),3))") ≡ term_in (codes "X := 1 - 2 - 3")
unfolding digits tokens_within expression_at parted_by grouped_by
print_of_a_sum_reads_back_row = refl

otherwise_first_row : read_module (lines (codes ":- module z." ∷ codes "otherwise." ∷ codes "p." ∷ [])) ≡ bad 2
unfolding digits tokens_within expression_at parted_by grouped_by
otherwise_first_row = refl

otherwise_last_row : read_module (lines (codes ":- module z." ∷ codes "p." ∷ codes "otherwise." ∷ [])) ≡ bad 3
unfolding digits tokens_within expression_at parted_by grouped_by
otherwise_last_row = refl

otherwise_before_a_comment_row : read_module (lines (codes ":- module z." ∷ codes "p." ∷ codes "otherwise." ∷ codes "% p." ∷ [])) ≡ bad 3
unfolding digits tokens_within expression_at parted_by grouped_by
otherwise_before_a_comment_row = refl

otherwise_twice_row : read_module (lines (codes ":- module z." ∷ codes "p." ∷ codes "otherwise." ∷ codes "otherwise." ∷ codes "p." ∷ [])) ≡ bad 4
unfolding digits tokens_within expression_at parted_by grouped_by
otherwise_twice_row = refl

otherwise_before_another_row : read_module (lines (codes ":- module z." ∷ codes "p." ∷ codes "otherwise." ∷ codes "p(X)." ∷ [])) ≡ bad 4
unfolding digits tokens_within expression_at parted_by grouped_by
otherwise_before_another_row = refl

otherwise_before_a_fault_row : read_module (lines (codes ":- module z." ∷ codes "p." ∷ codes "otherwise." ∷ codes "p(." ∷ [])) ≡ bad 4
unfolding digits tokens_within expression_at parted_by grouped_by
otherwise_before_a_fault_row = refl

otherwise_before_a_bad_byte_row : read_module (lines (codes ":- module z." ∷ codes "p." ∷ codes "otherwise." ∷ codes "?" ∷ [])) ≡ bad 4
unfolding digits tokens_within expression_at parted_by grouped_by
otherwise_before_a_bad_byte_row = refl

otherwise_as_a_head_row : read_module (lines (codes ":- module z." ∷ codes "p." ∷ codes "otherwise :- true." ∷ [])) ≡ bad 3
unfolding digits tokens_within expression_at parted_by grouped_by
otherwise_as_a_head_row = refl

otherwise_with_arguments_row : is_read (lines (codes ":- module z." ∷ codes "otherwise(X)." ∷ [])) ≡ true
unfolding digits tokens_within expression_at parted_by grouped_by
otherwise_with_arguments_row = refl

otherwise_in_quotes_row : is_read (lines (codes ":- module z." ∷ codes "p(a)." ∷ codes "'otherwise'." ∷ codes "p(X)." ∷ [])) ≡ true
unfolding digits tokens_within expression_at parted_by grouped_by
otherwise_in_quotes_row = refl

head_is_atom_from_row : read_module (lines (codes ":- module z." ∷ codes "atom_from(X,Y)." ∷ [])) ≡ bad 2
unfolding digits tokens_within expression_at parted_by grouped_by
head_is_atom_from_row = refl

head_is_modulo_row : read_module (lines (codes ":- module z." ∷ codes "mod(X,Y)." ∷ [])) ≡ bad 2
unfolding digits tokens_within expression_at parted_by grouped_by
head_is_modulo_row = refl

guard_variable_row : read_module (lines (codes ":- module z." ∷ codes "p(X) :- Y > 0 | true." ∷ [])) ≡ bad 2
unfolding digits tokens_within expression_at parted_by grouped_by
guard_variable_row = refl

guard_underscore_row : read_module (lines (codes ":- module z." ∷ codes "p(X) :- integer(_) | true." ∷ [])) ≡ bad 2
unfolding digits tokens_within expression_at parted_by grouped_by
guard_underscore_row = refl

guard_of_the_head_row : is_read (lines (codes ":- module z." ∷ codes "p(X,f(Y)) :- X > Y + 1, integer(X), f(X) \\= f(Y), wait(Y) | true." ∷ [])) ≡ true
unfolding digits tokens_within expression_at parted_by grouped_by
guard_of_the_head_row = refl

guard_assigns_row : read_module (lines (codes ":- module z." ∷ codes "p(X) :- X := 1 | true." ∷ [])) ≡ bad 2
unfolding digits tokens_within expression_at parted_by grouped_by
guard_assigns_row = refl

guard_calls_row : read_module (lines (codes ":- module z." ∷ codes "p(X) :- q(X) | true." ∷ [])) ≡ bad 2
unfolding digits tokens_within expression_at parted_by grouped_by
guard_calls_row = refl

guard_counts_row : read_module (lines (codes ":- module z." ∷ codes "p(X) :- integer(X,X) | true." ∷ [])) ≡ bad 2
unfolding digits tokens_within expression_at parted_by grouped_by
guard_counts_row = refl

body_compares_row : read_module (lines (codes ":- module z." ∷ codes "p(X) :- X > 1." ∷ [])) ≡ bad 2
unfolding digits tokens_within expression_at parted_by grouped_by
body_compares_row = refl

body_sums_row : read_module (lines (codes ":- module z." ∷ codes "p(X) :- X + 1." ∷ [])) ≡ bad 2
unfolding digits tokens_within expression_at parted_by grouped_by
body_sums_row = refl

body_assigns_row : is_read (lines (codes ":- module z." ∷ codes "p(X) :- X := 1 + Y." ∷ [])) ≡ true
unfolding digits tokens_within expression_at parted_by grouped_by
body_assigns_row = refl

body_tests_row : is_read (lines (codes ":- module z." ∷ codes "p(X) :- integer(X), wait(X,X)." ∷ [])) ≡ true
unfolding digits tokens_within expression_at parted_by grouped_by
body_tests_row = refl

two_relations_row : read_module (lines (codes ":- module z." ∷ codes "p(X) :- X = 1 = 2." ∷ [])) ≡ bad 2
unfolding digits tokens_within expression_at parted_by grouped_by
two_relations_row = refl

two_colons_row : read_module (lines (codes ":- module z." ∷ codes "p :- a:b:c." ∷ [])) ≡ bad 2
unfolding digits tokens_within expression_at parted_by grouped_by
two_colons_row = refl

loose_minus_row : read_module (lines (codes ":- module z." ∷ codes "p(- 1)." ∷ [])) ≡ bad 2
unfolding digits tokens_within expression_at parted_by grouped_by
loose_minus_row = refl

minus_before_a_name_row : read_module (lines (codes ":- module z." ∷ codes "p(-a)." ∷ [])) ≡ bad 2
unfolding digits tokens_within expression_at parted_by grouped_by
minus_before_a_name_row = refl

operator_without_operand_row : read_module (lines (codes ":- module z." ∷ codes "p(X) :- X := 1 + ." ∷ [])) ≡ bad 2
unfolding digits tokens_within expression_at parted_by grouped_by
operator_without_operand_row = refl

operand_past_the_end_row : read_module (lines (codes ":- module z." ∷ codes "p(X) :- X := 1 -9223372036854775808." ∷ [])) ≡ bad 2
unfolding digits tokens_within expression_at parted_by grouped_by
operand_past_the_end_row = refl

operand_at_the_start_row : is_read (lines (codes ":- module z." ∷ codes "p(X) :- X := 1 - -9223372036854775808." ∷ [])) ≡ true
unfolding digits tokens_within expression_at parted_by grouped_by
operand_at_the_start_row = refl

priority_of_a_goal_row : is_read (lines (codes ":- module z." ∷ codes "p :- q@priority(1), m:q @ priority(4095), shoen:execute(1)@priority(0)." ∷ [])) ≡ true
unfolding digits tokens_within expression_at parted_by grouped_by
priority_of_a_goal_row = refl

priority_before_a_bar_row : read_module (lines (codes ":- module z." ∷ codes "p :- true@priority(1) | true." ∷ [])) ≡ bad 2
unfolding digits tokens_within expression_at parted_by grouped_by
priority_before_a_bar_row = refl

execute_in_a_body_row : is_read (lines (codes ":- module z." ∷ codes "p :- shoen:execute(true,0,1,1,C,R)." ∷ [])) ≡ true
unfolding digits tokens_within expression_at parted_by grouped_by
execute_in_a_body_row = refl

atom_from_in_a_body_row : is_read (lines (codes ":- module z." ∷ codes "p(X) :- atom_from(X,Y)." ∷ [])) ≡ true
unfolding digits tokens_within expression_at parted_by grouped_by
atom_from_in_a_body_row = refl

execute_of_one_row : is_read (lines (codes ":- module z." ∷ codes "p :- shoen:execute(true), atom_from(X)." ∷ [])) ≡ true
unfolding digits tokens_within expression_at parted_by grouped_by
execute_of_one_row = refl

deep_sum_row : read_module (lines (codes ":- module z." ∷ codes "p(X) :- X := 1 + 1 + 1 + 1 + 1 + 1 + 1 + 1 + 1 + 1 + 1 + 1 + 1 + 1 + 1 + 1 + 1 + 1 + 1 + 1 + 1 + 1 + 1 + 1 + 1 + 1 + 1 + 1 + 1 + 1 + 1 + 1 + 1 + 1 + 1 + 1 + 1 + 1 + 1 + 1 + 1 + 1 + 1 + 1 + 1 + 1 + 1 + 1 + 1 + 1 + 1 + 1 + 1 + 1 + 1 + 1 + 1 + 1 + 1 + 1 + 1 + 1 + 1 + 1 + 1 + 1 + 1 + 1 + 1 + 1 + 1 + 1 + 1 + 1 + 1 + 1 + 1 + 1 + 1 + 1 + 1 + 1 + 1 + 1 + 1 + 1 + 1 + 1 + 1 + 1 + 1 + 1 + 1 + 1 + 1 + 1 + 1 + 1 + 1 + 1 + 1 + 1 + 1 + 1 + 1 + 1 + 1 + 1 + 1 + 1 + 1 + 1 + 1 + 1 + 1 + 1 + 1 + 1 + 1 + 1 + 1 + 1 + 1 + 1 + 1 + 1 + 1 + 1 + 1 + 1 + 1 + 1 + 1 + 1 + 1 + 1 + 1 + 1 + 1 + 1 + 1 + 1 + 1 + 1 + 1 + 1 + 1 + 1 + 1 + 1 + 1 + 1 + 1 + 1 + 1 + 1 + 1 + 1 + 1 + 1 + 1 + 1 + 1 + 1 + 1 + 1 + 1 + 1 + 1 + 1 + 1 + 1 + 1 + 1 + 1 + 1 + 1 + 1 + 1 + 1 + 1 + 1 + 1 + 1 + 1 + 1 + 1 + 1 + 1 + 1 + 1 + 1 + 1 + 1 + 1 + 1 + 1 + 1 + 1 + 1 + 1 + 1 + 1 + 1 + 1 + 1 + 1 + 1 + 1 + 1 + 1 + 1 + 1 + 1 + 1 + 1 + 1 + 1 + 1 + 1 + 1 + 1 + 1 + 1 + 1 + 1 + 1 + 1 + 1 + 1 + 1 + 1 + 1 + 1 + 1 + 1 + 1 + 1 + 1 + 1 + 1 + 1 + 1 + 1 + 1 + 1 + 1 + 1 + 1 + 1 + 1 + 1 + 1 + 1 + 1 + 1." ∷ [])) ≡ bad 2
unfolding digits tokens_within expression_at parted_by grouped_by
deep_sum_row = refl

sum_of_256_levels_row : is_read (lines (codes ":- module z." ∷ codes "p(X) :- X := 1 + 1 + 1 + 1 + 1 + 1 + 1 + 1 + 1 + 1 + 1 + 1 + 1 + 1 + 1 + 1 + 1 + 1 + 1 + 1 + 1 + 1 + 1 + 1 + 1 + 1 + 1 + 1 + 1 + 1 + 1 + 1 + 1 + 1 + 1 + 1 + 1 + 1 + 1 + 1 + 1 + 1 + 1 + 1 + 1 + 1 + 1 + 1 + 1 + 1 + 1 + 1 + 1 + 1 + 1 + 1 + 1 + 1 + 1 + 1 + 1 + 1 + 1 + 1 + 1 + 1 + 1 + 1 + 1 + 1 + 1 + 1 + 1 + 1 + 1 + 1 + 1 + 1 + 1 + 1 + 1 + 1 + 1 + 1 + 1 + 1 + 1 + 1 + 1 + 1 + 1 + 1 + 1 + 1 + 1 + 1 + 1 + 1 + 1 + 1 + 1 + 1 + 1 + 1 + 1 + 1 + 1 + 1 + 1 + 1 + 1 + 1 + 1 + 1 + 1 + 1 + 1 + 1 + 1 + 1 + 1 + 1 + 1 + 1 + 1 + 1 + 1 + 1 + 1 + 1 + 1 + 1 + 1 + 1 + 1 + 1 + 1 + 1 + 1 + 1 + 1 + 1 + 1 + 1 + 1 + 1 + 1 + 1 + 1 + 1 + 1 + 1 + 1 + 1 + 1 + 1 + 1 + 1 + 1 + 1 + 1 + 1 + 1 + 1 + 1 + 1 + 1 + 1 + 1 + 1 + 1 + 1 + 1 + 1 + 1 + 1 + 1 + 1 + 1 + 1 + 1 + 1 + 1 + 1 + 1 + 1 + 1 + 1 + 1 + 1 + 1 + 1 + 1 + 1 + 1 + 1 + 1 + 1 + 1 + 1 + 1 + 1 + 1 + 1 + 1 + 1 + 1 + 1 + 1 + 1 + 1 + 1 + 1 + 1 + 1 + 1 + 1 + 1 + 1 + 1 + 1 + 1 + 1 + 1 + 1 + 1 + 1 + 1 + 1 + 1 + 1 + 1 + 1 + 1 + 1 + 1 + 1 + 1 + 1 + 1 + 1 + 1 + 1 + 1 + 1 + 1 + 1 + 1 + 1 + 1 + 1 + 1 + 1 + 1 + 1." ∷ [])) ≡ true
unfolding digits tokens_within expression_at parted_by grouped_by
sum_of_256_levels_row = refl

sections_of_a_predicate_row : sections_in (lines (codes ":- module z." ∷ codes "p(a)." ∷ codes "p(b)." ∷ codes "otherwise." ∷ codes "p(c)." ∷ codes "otherwise." ∷ codes "p(X)." ∷ codes "q(a)." ∷ codes "otherwise." ∷ codes "q(X)." ∷ [])) ≡ 0 ∷ 0 ∷ 1 ∷ 2 ∷ 0 ∷ 1 ∷ []
unfolding digits tokens_within expression_at parted_by grouped_by
sections_of_a_predicate_row = refl

places_reached_row : verdict_in (codes "p(X,X,X).") (codes "p(V,a,b)") ≡ Some (rejects [])
unfolding digits tokens_within expression_at parted_by grouped_by
places_reached_row = refl

places_wait_row : verdict_in (codes "p(X,X).") (codes "p(f(V),f(W))") ≡ Some (suspends (1 ∷ 2 ∷ []))
unfolding digits tokens_within expression_at parted_by grouped_by
places_wait_row = refl

place_not_reached_row : verdict_in (codes "p(X,f(X)).") (codes "p(a,V)") ≡ Some (suspends (1 ∷ []))
unfolding digits tokens_within expression_at parted_by grouped_by
place_not_reached_row = refl

test_of_what_was_not_reached_row : verdict_in (codes "p(f(X)) :- X > 1 | true.") (codes "p(V)") ≡ Some (suspends (1 ∷ []))
unfolding digits tokens_within expression_at parted_by grouped_by
test_of_what_was_not_reached_row = refl

two_that_were_not_reached_row : verdict_in (codes "p(f(X,Y)) :- X \\= Y | true.") (codes "p(V)") ≡ Some (suspends (1 ∷ []))
unfolding digits tokens_within expression_at parted_by grouped_by
two_that_were_not_reached_row = refl

same_that_was_not_reached_row : verdict_in (codes "p(f(X)) :- X \\= X | true.") (codes "p(V)") ≡ Some (rejects (1 ∷ []))
unfolding digits tokens_within expression_at parted_by grouped_by
same_that_was_not_reached_row = refl

no_outweighs_wait_row : verdict_in (codes "p(X,Y) :- X > 1, Y > 1 | true.") (codes "p(V,0)") ≡ Some (rejects [])
unfolding digits tokens_within expression_at parted_by grouped_by
no_outweighs_wait_row = refl

tests_wait_row : verdict_in (codes "p(X,Y) :- X > 1, Y > 1 | true.") (codes "p(V,W)") ≡ Some (suspends (1 ∷ 2 ∷ []))
unfolding digits tokens_within expression_at parted_by grouped_by
tests_wait_row = refl

first_place_decides_row : verdict_in (codes "p(f(X),X) :- X > 5 | true.") (codes "p(V,1)") ≡ Some (rejects (1 ∷ []))
unfolding digits tokens_within expression_at parted_by grouped_by
first_place_decides_row = refl

first_place_changes_row : verdict_in (codes "p(f(X),X) :- X > 5 | true.") (codes "p(f(W),1)") ≡ Some (suspends (1 ∷ 1 ∷ []))
unfolding digits tokens_within expression_at parted_by grouped_by
first_place_changes_row = refl

accepts_by_all_row : verdict_in (codes "p(f(X),X) :- X > 5 | true.") (codes "p(f(6),6)") ≡ Some (accepts (record { number = 1; by = integer (pos 6) } ∷ record { number = 1; by = integer (pos 6) } ∷ []))
unfolding digits tokens_within expression_at parted_by grouped_by
accepts_by_all_row = refl

unbound_below_64_operators_row : evaluated (ones_behind 64 (variable 1)) ≡ awaits 1
unfolding digits tokens_within expression_at parted_by grouped_by
unbound_below_64_operators_row = refl

unbound_below_65_operators_row : evaluated (ones_behind 65 (variable 1)) ≡ wrong
unfolding digits tokens_within expression_at parted_by grouped_by
unbound_below_65_operators_row = refl

unbound_before_65_operators_row : evaluated (pair (codes "+") (variable 1) (ones_to_the_right 64)) ≡ awaits 1
unfolding digits tokens_within expression_at parted_by grouped_by
unbound_before_65_operators_row = refl

one_variable_is_the_same_row : answer_in (codes "X = X") ≡ yes
unfolding digits tokens_within expression_at parted_by grouped_by
one_variable_is_the_same_row = refl

relation_as_an_operand_clashes_row : answer_in (codes "(a = b) = c") ≡ no
unfolding digits tokens_within expression_at parted_by grouped_by
relation_as_an_operand_clashes_row = refl

relation_as_an_operand_row : term_in (codes "(a = b) = c") ≡ Some (pair (codes "=") (pair (codes "=") (atom (codes "a")) (atom (codes "b"))) (atom (codes "c")))
unfolding digits tokens_within expression_at parted_by grouped_by
relation_as_an_operand_row = refl

mod_three_times_row : term_in (codes "mod mod mod") ≡ Some (pair (codes "mod") (atom (codes "mod")) (atom (codes "mod")))
unfolding digits tokens_within expression_at parted_by grouped_by
mod_three_times_row = refl

mods_group_to_the_left_row : term_in (codes "a mod b mod c") ≡ Some (pair (codes "mod") (pair (codes "mod") (atom (codes "a")) (atom (codes "b"))) (atom (codes "c")))
unfolding digits tokens_within expression_at parted_by grouped_by
mods_group_to_the_left_row = refl

mod_before_two_operands_row : term_in (codes "7 mod(1,2)") ≡ None
unfolding digits tokens_within expression_at parted_by grouped_by
mod_before_two_operands_row = refl

mod_at_the_end_row : term_in (codes "7 mod") ≡ None
unfolding digits tokens_within expression_at parted_by grouped_by
mod_at_the_end_row = refl

mod_before_a_parenthesis_row : term_in (codes "f(a mod)") ≡ None
unfolding digits tokens_within expression_at parted_by grouped_by
mod_before_a_parenthesis_row = refl

mod_of_a_negative_integer_row : term_in (codes "7 mod -5") ≡ Some (pair (codes "mod") (integer (pos 7)) (integer (negsuc 4)))
unfolding digits tokens_within expression_at parted_by grouped_by
mod_of_a_negative_integer_row = refl

mod_less_five_row : term_in (codes "mod -5") ≡ Some (pair (codes "-") (atom (codes "mod")) (integer (pos 5)))
unfolding digits tokens_within expression_at parted_by grouped_by
mod_less_five_row = refl

name_less_five_row : term_in (codes "a -5") ≡ Some (pair (codes "-") (atom (codes "a")) (integer (pos 5)))
unfolding digits tokens_within expression_at parted_by grouped_by
name_less_five_row = refl

twice_minus_three_row : term_in (codes "2*-3") ≡ Some (pair (codes "*") (integer (pos 2)) (integer (negsuc 2)))
unfolding digits tokens_within expression_at parted_by grouped_by
twice_minus_three_row = refl

one_less_minus_one_row : term_in (codes "1--1") ≡ Some (pair (codes "-") (integer (pos 1)) (integer (negsuc 0)))
unfolding digits tokens_within expression_at parted_by grouped_by
one_less_minus_one_row = refl

minus_and_a_blank_row : term_in (codes "- 1") ≡ None
unfolding digits tokens_within expression_at parted_by grouped_by
minus_and_a_blank_row = refl

minus_a_variable_row : term_in (codes "X := -Y") ≡ None
unfolding digits tokens_within expression_at parted_by grouped_by
minus_a_variable_row = refl

same_variables_are_the_same_row : verdict_in (codes "p(X,Y) :- X = Y | true.") (codes "p(V,V)") ≡ Some (accepts (record { number = 1; by = variable 1 } ∷ record { number = 2; by = variable 1 } ∷ []))
unfolding digits tokens_within expression_at parted_by grouped_by
same_variables_are_the_same_row = refl

same_that_waits_row : verdict_in (codes "p(f(X)) :- X = X | true.") (codes "p(V)") ≡ Some (suspends (1 ∷ []))
unfolding digits tokens_within expression_at parted_by grouped_by
same_that_waits_row = refl

first_place_is_reached_row : verdict_in (codes "p(X,f(X)) :- X > 5 | true.") (codes "p(1,V)") ≡ Some (rejects (1 ∷ []))
unfolding digits tokens_within expression_at parted_by grouped_by
first_place_is_reached_row = refl

first_place_stays_row : verdict_in (codes "p(X,f(X)) :- X > 5 | true.") (codes "p(1,f(W))") ≡ Some (rejects [])
unfolding digits tokens_within expression_at parted_by grouped_by
first_place_stays_row = refl

-- all of them
pub guard_rows_hold : GuardRowsHold
guard_rows_hold = record { sum_at_the_end = sum_at_the_end_row; sum_past_the_end = sum_past_the_end_row; sum_at_the_start = sum_at_the_start_row; sum_before_the_start = sum_before_the_start_row; difference_past_the_end = difference_past_the_end_row; difference_at_the_end = difference_at_the_end_row; difference_before_the_start = difference_before_the_start_row; product_at_the_start = product_at_the_start_row; product_past_the_end = product_past_the_end_row; product_before_the_start = product_before_the_start_row; quotient_below_zero = quotient_below_zero_row; quotient_by_less_than_zero = quotient_by_less_than_zero_row; quotient_of_two_below_zero = quotient_of_two_below_zero_row; quotient_past_the_end = quotient_past_the_end_row; quotient_by_zero = quotient_by_zero_row; remainder_below_zero = remainder_below_zero_row; remainder_above_zero = remainder_above_zero_row; remainder_of_the_least = remainder_of_the_least_row; remainder_by_zero = remainder_by_zero_row; left_fault_first = left_fault_first_row; right_fault_before_its_own = right_fault_before_its_own_row; first_leaf_waits = first_leaf_waits_row; first_leaf_is_wrong = first_leaf_is_wrong_row; scan_goes_before_computing = scan_goes_before_computing_row; operators_have_two_operands = operators_have_two_operands_row; sums_group_to_the_left = sums_group_to_the_left_row; products_go_before_sums = products_go_before_sums_row; parentheses_group = parentheses_group_row; minus_before_digits = minus_before_digits_row; minus_between_digits = minus_between_digits_row; mod_before_an_operand = mod_before_an_operand_row; mod_before_arguments = mod_before_arguments_row; mod_in_quotes = mod_in_quotes_row; mod_alone = mod_alone_row; expression_of_64_operators = expression_of_64_operators_row; expression_of_65_operators = expression_of_65_operators_row; expression_of_64_to_the_right = expression_of_64_to_the_right_row; expression_of_65_to_the_right = expression_of_65_to_the_right_row; each_side_has_64_operators = each_side_has_64_operators_row; true_holds = true_holds_row; wait_agrees = wait_agrees_row; wait_waits = wait_waits_row; integer_agrees = integer_agrees_row; integer_clashes = integer_clashes_row; integer_waits = integer_waits_row; atom_agrees = atom_agrees_row; atom_clashes = atom_clashes_row; atom_waits = atom_waits_row; list_agrees = list_agrees_row; list_clashes = list_clashes_row; list_waits = list_waits_row; same_agrees = same_agrees_row; same_clashes = same_clashes_row; same_waits = same_waits_row; other_agrees = other_agrees_row; other_clashes = other_clashes_row; other_waits = other_waits_row; less_agrees = less_agrees_row; less_clashes = less_clashes_row; less_waits = less_waits_row; greater_agrees = greater_agrees_row; greater_clashes = greater_clashes_row; greater_waits = greater_waits_row; at_most_agrees = at_most_agrees_row; at_most_clashes = at_most_clashes_row; at_most_waits = at_most_waits_row; at_least_agrees = at_least_agrees_row; at_least_clashes = at_least_clashes_row; at_least_waits = at_least_waits_row; same_number_agrees = same_number_agrees_row; same_number_clashes = same_number_clashes_row; same_number_waits = same_number_waits_row; other_number_agrees = other_number_agrees_row; other_number_clashes = other_number_clashes_row; other_number_waits = other_number_waits_row; left_side_first = left_side_first_row; left_side_waits = left_side_waits_row; right_side_clashes = right_side_clashes_row; right_side_waits = right_side_waits_row; fault_of_computing = fault_of_computing_row; scan_before_fault = scan_before_fault_row; print_of_a_sum = print_of_a_sum_row; print_of_a_sum_reads_back = print_of_a_sum_reads_back_row; otherwise_first = otherwise_first_row; otherwise_last = otherwise_last_row; otherwise_before_a_comment = otherwise_before_a_comment_row; otherwise_twice = otherwise_twice_row; otherwise_before_another = otherwise_before_another_row; otherwise_before_a_fault = otherwise_before_a_fault_row; otherwise_before_a_bad_byte = otherwise_before_a_bad_byte_row; otherwise_as_a_head = otherwise_as_a_head_row; otherwise_with_arguments = otherwise_with_arguments_row; otherwise_in_quotes = otherwise_in_quotes_row; head_is_atom_from = head_is_atom_from_row; head_is_modulo = head_is_modulo_row; guard_variable = guard_variable_row; guard_underscore = guard_underscore_row; guard_of_the_head = guard_of_the_head_row; guard_assigns = guard_assigns_row; guard_calls = guard_calls_row; guard_counts = guard_counts_row; body_compares = body_compares_row; body_sums = body_sums_row; body_assigns = body_assigns_row; body_tests = body_tests_row; two_relations = two_relations_row; two_colons = two_colons_row; loose_minus = loose_minus_row; minus_before_a_name = minus_before_a_name_row; operator_without_operand = operator_without_operand_row; operand_past_the_end = operand_past_the_end_row; operand_at_the_start = operand_at_the_start_row; priority_of_a_goal = priority_of_a_goal_row; priority_before_a_bar = priority_before_a_bar_row; execute_in_a_body = execute_in_a_body_row; atom_from_in_a_body = atom_from_in_a_body_row; execute_of_one = execute_of_one_row; deep_sum = deep_sum_row; sum_of_256_levels = sum_of_256_levels_row; sections_of_a_predicate = sections_of_a_predicate_row; places_reached = places_reached_row; places_wait = places_wait_row; place_not_reached = place_not_reached_row; test_of_what_was_not_reached = test_of_what_was_not_reached_row; two_that_were_not_reached = two_that_were_not_reached_row; same_that_was_not_reached = same_that_was_not_reached_row; no_outweighs_wait = no_outweighs_wait_row; tests_wait = tests_wait_row; first_place_decides = first_place_decides_row; first_place_changes = first_place_changes_row; accepts_by_all = accepts_by_all_row; unbound_below_64_operators = unbound_below_64_operators_row; unbound_below_65_operators = unbound_below_65_operators_row; unbound_before_65_operators = unbound_before_65_operators_row; one_variable_is_the_same = one_variable_is_the_same_row; relation_as_an_operand_clashes = relation_as_an_operand_clashes_row; relation_as_an_operand = relation_as_an_operand_row; mod_three_times = mod_three_times_row; mods_group_to_the_left = mods_group_to_the_left_row; mod_before_two_operands = mod_before_two_operands_row; mod_at_the_end = mod_at_the_end_row; mod_before_a_parenthesis = mod_before_a_parenthesis_row; mod_of_a_negative_integer = mod_of_a_negative_integer_row; mod_less_five = mod_less_five_row; name_less_five = name_less_five_row; twice_minus_three = twice_minus_three_row; one_less_minus_one = one_less_minus_one_row; minus_and_a_blank = minus_and_a_blank_row; minus_a_variable = minus_a_variable_row; same_variables_are_the_same = same_variables_are_the_same_row; same_that_waits = same_that_waits_row; first_place_is_reached = first_place_is_reached_row; first_place_stays = first_place_stays_row }
