-- The example journals with what is written for them. Made by tools/examples_as_definitions from examples/journals.
use Rattle.std.specs.Prelude.{◌≡◌, ℕ, List, [], ◌∷◌, ◌++◌, codes}
use Rattle.kl1_model_server.specs.Replay.{replay_output}

-- the bytes of answer_in_another_spelling.journal
abbrev pub answer_in_another_spelling_journal : List ℕ
answer_in_another_spelling_journal = codes "journal 2 0 0" ++ 10 ∷ [] ++ codes "start 10 0 10 '='(1,2)" ++ 10 ∷ [] ++ codes "reduce 2 0" ++ 10 ∷ [] ++ codes "answer 1 2 X = 1" ++ 10 ∷ []

-- the bytes of answer_in_another_spelling.expected
abbrev pub answer_in_another_spelling_output : List ℕ
answer_in_another_spelling_output = codes "+ shoen 1" ++ 10 ∷ [] ++ codes "+ reduced" ++ 10 ∷ [] ++ codes "fault 4" ++ 10 ∷ []

-- the bytes of answer_to_no_report.journal
abbrev pub answer_to_no_report_journal : List ℕ
answer_to_no_report_journal = codes "journal 2 0 0" ++ 10 ∷ [] ++ codes "start 10 0 10 true" ++ 10 ∷ [] ++ codes "answer 1 2 true" ++ 10 ∷ []

-- the bytes of answer_to_no_report.expected
abbrev pub answer_to_no_report_output : List ℕ
answer_to_no_report_output = codes "+ shoen 1" ++ 10 ∷ [] ++ codes "fault 3" ++ 10 ∷ []

-- the bytes of answer_to_report_0.journal
abbrev pub answer_to_report_0_journal : List ℕ
answer_to_report_0_journal = codes "journal 2 0 0" ++ 10 ∷ [] ++ codes "start 10 0 10 '='(1,2)" ++ 10 ∷ [] ++ codes "reduce 2 0" ++ 10 ∷ [] ++ codes "answer 1 0 true" ++ 10 ∷ []

-- the bytes of answer_to_report_0.expected
abbrev pub answer_to_report_0_output : List ℕ
answer_to_report_0_output = codes "+ shoen 1" ++ 10 ∷ [] ++ codes "+ reduced" ++ 10 ∷ [] ++ codes "fault 4" ++ 10 ∷ []

-- the bytes of append_two_lists.journal
abbrev pub append_two_lists_journal : List ℕ
append_two_lists_journal = codes "journal 1 0 0" ++ 10 ∷ [] ++ codes "load 3a2d206d6f64756c65206170702e0a617070285b5d2c592c5a29203a2d2074727565207c205a203d20592e0a617070285b417c585d2c592c5a29203a2d2074727565207c205a203d205b417c575d2c2061707028582c592c57292e" ++ 10 ∷ [] ++ codes "start 100 0 10 app:app([1],[2],_1)" ++ 10 ∷ [] ++ codes "reduce 2 2" ++ 10 ∷ [] ++ codes "reduce 3 0" ++ 10 ∷ [] ++ codes "reduce 4 1" ++ 10 ∷ [] ++ codes "reduce 5 0" ++ 10 ∷ []

-- the bytes of append_two_lists.expected
abbrev pub append_two_lists_output : List ℕ
append_two_lists_output = codes "+ loaded app" ++ 10 ∷ [] ++ codes "+ shoen 1" ++ 10 ∷ [] ++ codes "+ reduced" ++ 10 ∷ [] ++ codes "+ reduced" ++ 10 ∷ [] ++ codes "+ reduced" ++ 10 ∷ [] ++ codes "+ reduced" ++ 10 ∷ [] ++ codes "+ end 6" ++ 10 ∷ []

-- the bytes of bad_source.journal
abbrev pub bad_source_journal : List ℕ
bad_source_journal = codes "journal 1 0 0" ++ 10 ∷ [] ++ codes "load 3a" ++ 10 ∷ []

-- the bytes of bad_source.expected
abbrev pub bad_source_output : List ℕ
bad_source_output = codes "fault 2" ++ 10 ∷ []

-- the bytes of capital_without_quotes.journal
abbrev pub capital_without_quotes_journal : List ℕ
capital_without_quotes_journal = codes "journal 1 0 1" ++ 10 ∷ [] ++ codes "name E" ++ 10 ∷ []

-- the bytes of capital_without_quotes.expected
abbrev pub capital_without_quotes_output : List ℕ
capital_without_quotes_output = codes "fault 2" ++ 10 ∷ []

-- the bytes of capitals_in_a_load.journal
abbrev pub capitals_in_a_load_journal : List ℕ
capitals_in_a_load_journal = codes "journal 1 0 0" ++ 10 ∷ [] ++ codes "load 3A2D206D6F64756C6520652E" ++ 10 ∷ []

-- the bytes of capitals_in_a_load.expected
abbrev pub capitals_in_a_load_output : List ℕ
capitals_in_a_load_output = codes "fault 2" ++ 10 ∷ []

-- the bytes of control_of_an_ended_shoen.journal
abbrev pub control_of_an_ended_shoen_journal : List ℕ
control_of_an_ended_shoen_journal = codes "journal 1 0 0" ++ 10 ∷ [] ++ codes "start 1 0 1 true" ++ 10 ∷ [] ++ codes "reduce 2 0" ++ 10 ∷ [] ++ codes "stop 1" ++ 10 ∷ []

-- the bytes of control_of_an_ended_shoen.expected
abbrev pub control_of_an_ended_shoen_output : List ℕ
control_of_an_ended_shoen_output = codes "+ shoen 1" ++ 10 ∷ [] ++ codes "+ reduced" ++ 10 ∷ [] ++ codes "fault 4" ++ 10 ∷ []

-- the bytes of control_of_no_shoen.journal
abbrev pub control_of_no_shoen_journal : List ℕ
control_of_no_shoen_journal = codes "journal 1 0 0" ++ 10 ∷ [] ++ codes "start 10 0 10 '='(_1,1)" ++ 10 ∷ [] ++ codes "stop 2" ++ 10 ∷ []

-- the bytes of control_of_no_shoen.expected
abbrev pub control_of_no_shoen_output : List ℕ
control_of_no_shoen_output = codes "+ shoen 1" ++ 10 ∷ [] ++ codes "fault 3" ++ 10 ∷ []

-- the bytes of each_kind_of_entry.journal
abbrev pub each_kind_of_entry_journal : List ℕ
each_kind_of_entry_journal = codes "journal 1 1 1" ++ 10 ∷ [] ++ codes "name e" ++ 10 ∷ [] ++ codes "load 3a2d206d6f64756c6520652e" ++ 10 ∷ [] ++ codes "start 9 0 9 ':='(_1,_2)" ++ 10 ∷ [] ++ codes "stop 1" ++ 10 ∷ [] ++ codes "resume 1" ++ 10 ∷ [] ++ codes "allow 1 5" ++ 10 ∷ [] ++ codes "abort 1" ++ 10 ∷ [] ++ codes "reduce 1 0" ++ 10 ∷ [] ++ codes "reduce 1 0" ++ 10 ∷ [] ++ codes "reduce 1 0" ++ 10 ∷ [] ++ codes "reduce 1 0" ++ 10 ∷ []

-- the bytes of each_kind_of_entry.expected
abbrev pub each_kind_of_entry_output : List ℕ
each_kind_of_entry_output = codes "+ loaded e" ++ 10 ∷ [] ++ codes "+ shoen 1" ++ 10 ∷ [] ++ codes "+ sent" ++ 10 ∷ [] ++ codes "+ sent" ++ 10 ∷ [] ++ codes "+ sent" ++ 10 ∷ [] ++ codes "+ sent" ++ 10 ∷ [] ++ codes "+ reduced" ++ 10 ∷ [] ++ codes "+ reduced" ++ 10 ∷ [] ++ codes "+ reduced" ++ 10 ∷ [] ++ codes "+ reduced" ++ 10 ∷ [] ++ codes "+ end 10" ++ 10 ∷ []

-- the bytes of empty_line.journal
abbrev pub empty_line_journal : List ℕ
empty_line_journal = codes "journal 1 0 0" ++ 10 ∷ [] ++ codes "start 10 0 10 '='(_1,1)" ++ 10 ∷ [] ++ 10 ∷ [] ++ codes "reduce 2 0" ++ 10 ∷ []

-- the bytes of empty_line.expected
abbrev pub empty_line_output : List ℕ
empty_line_output = codes "+ shoen 1" ++ 10 ∷ [] ++ codes "fault 3" ++ 10 ∷ []

-- the bytes of empty_line_at_the_end.journal
abbrev pub empty_line_at_the_end_journal : List ℕ
empty_line_at_the_end_journal = codes "journal 1 0 0" ++ 10 ∷ [] ++ codes "start 10 0 10 '='(_1,1)" ++ 10 ∷ [] ++ codes "reduce 2 0" ++ 10 ∷ [] ++ 10 ∷ []

-- the bytes of empty_line_at_the_end.expected
abbrev pub empty_line_at_the_end_output : List ℕ
empty_line_at_the_end_output = codes "+ shoen 1" ++ 10 ∷ [] ++ codes "+ reduced" ++ 10 ∷ [] ++ codes "fault 4" ++ 10 ∷ []

-- the bytes of entry_after_a_blank.journal
abbrev pub entry_after_a_blank_journal : List ℕ
entry_after_a_blank_journal = codes "journal 1 0 0" ++ 10 ∷ [] ++ codes "start 10 0 10 '='(_1,1)" ++ 10 ∷ [] ++ codes " reduce 2 0" ++ 10 ∷ []

-- the bytes of entry_after_a_blank.expected
abbrev pub entry_after_a_blank_output : List ℕ
entry_after_a_blank_output = codes "+ shoen 1" ++ 10 ∷ [] ++ codes "fault 3" ++ 10 ∷ []

-- the bytes of entry_in_capitals.journal
abbrev pub entry_in_capitals_journal : List ℕ
entry_in_capitals_journal = codes "journal 1 0 0" ++ 10 ∷ [] ++ codes "start 10 0 10 '='(_1,1)" ++ 10 ∷ [] ++ codes "REDUCE 2 0" ++ 10 ∷ []

-- the bytes of entry_in_capitals.expected
abbrev pub entry_in_capitals_output : List ℕ
entry_in_capitals_output = codes "+ shoen 1" ++ 10 ∷ [] ++ codes "fault 3" ++ 10 ∷ []

-- the bytes of entry_of_one_number.journal
abbrev pub entry_of_one_number_journal : List ℕ
entry_of_one_number_journal = codes "journal 1 0 0" ++ 10 ∷ [] ++ codes "start 10 0 10 '='(_1,1)" ++ 10 ∷ [] ++ codes "reduce 2" ++ 10 ∷ []

-- the bytes of entry_of_one_number.expected
abbrev pub entry_of_one_number_output : List ℕ
entry_of_one_number_output = codes "+ shoen 1" ++ 10 ∷ [] ++ codes "fault 3" ++ 10 ∷ []

-- the bytes of entry_of_three_numbers.journal
abbrev pub entry_of_three_numbers_journal : List ℕ
entry_of_three_numbers_journal = codes "journal 1 0 0" ++ 10 ∷ [] ++ codes "start 10 0 10 '='(_1,1)" ++ 10 ∷ [] ++ codes "reduce 2 0 0" ++ 10 ∷ []

-- the bytes of entry_of_three_numbers.expected
abbrev pub entry_of_three_numbers_output : List ℕ
entry_of_three_numbers_output = codes "+ shoen 1" ++ 10 ∷ [] ++ codes "fault 3" ++ 10 ∷ []

-- the bytes of entry_with_a_blank_at_its_end.journal
abbrev pub entry_with_a_blank_at_its_end_journal : List ℕ
entry_with_a_blank_at_its_end_journal = codes "journal 1 0 0" ++ 10 ∷ [] ++ codes "start 10 0 10 '='(_1,1)" ++ 10 ∷ [] ++ codes "reduce 2 0 " ++ 10 ∷ []

-- the bytes of entry_with_a_blank_at_its_end.expected
abbrev pub entry_with_a_blank_at_its_end_output : List ℕ
entry_with_a_blank_at_its_end_output = codes "+ shoen 1" ++ 10 ∷ [] ++ codes "fault 3" ++ 10 ∷ []

-- the bytes of entry_with_a_return.journal
abbrev pub entry_with_a_return_journal : List ℕ
entry_with_a_return_journal = codes "journal 1 0 0" ++ 10 ∷ [] ++ codes "start 10 0 10 '='(_1,1)" ++ 10 ∷ [] ++ codes "reduce 2 0" ++ 13 ∷ [] ++ 10 ∷ []

-- the bytes of entry_with_a_return.expected
abbrev pub entry_with_a_return_output : List ℕ
entry_with_a_return_output = codes "+ shoen 1" ++ 10 ∷ [] ++ codes "fault 3" ++ 10 ∷ []

-- the bytes of entry_with_a_sign.journal
abbrev pub entry_with_a_sign_journal : List ℕ
entry_with_a_sign_journal = codes "journal 1 0 0" ++ 10 ∷ [] ++ codes "start 10 0 10 '='(_1,1)" ++ 10 ∷ [] ++ codes "reduce +2 0" ++ 10 ∷ []

-- the bytes of entry_with_a_sign.expected
abbrev pub entry_with_a_sign_output : List ℕ
entry_with_a_sign_output = codes "+ shoen 1" ++ 10 ∷ [] ++ codes "fault 3" ++ 10 ∷ []

-- the bytes of entry_with_a_tab.journal
abbrev pub entry_with_a_tab_journal : List ℕ
entry_with_a_tab_journal = codes "journal 1 0 0" ++ 10 ∷ [] ++ codes "start 10 0 10 '='(_1,1)" ++ 10 ∷ [] ++ codes "reduce" ++ 9 ∷ [] ++ codes "2 0" ++ 10 ∷ []

-- the bytes of entry_with_a_tab.expected
abbrev pub entry_with_a_tab_output : List ℕ
entry_with_a_tab_output = codes "+ shoen 1" ++ 10 ∷ [] ++ codes "fault 3" ++ 10 ∷ []

-- the bytes of entry_with_two_blanks.journal
abbrev pub entry_with_two_blanks_journal : List ℕ
entry_with_two_blanks_journal = codes "journal 1 0 0" ++ 10 ∷ [] ++ codes "start 10 0 10 '='(_1,1)" ++ 10 ∷ [] ++ codes "reduce  2 0" ++ 10 ∷ []

-- the bytes of entry_with_two_blanks.expected
abbrev pub entry_with_two_blanks_output : List ℕ
entry_with_two_blanks_output = codes "+ shoen 1" ++ 10 ∷ [] ++ codes "fault 3" ++ 10 ∷ []

-- the bytes of entry_without_a_feed.journal
abbrev pub entry_without_a_feed_journal : List ℕ
entry_without_a_feed_journal = codes "journal 1 0 0" ++ 10 ∷ [] ++ codes "start 10 0 10 '='(_1,1)" ++ 10 ∷ [] ++ codes "reduce 2 0"

-- the bytes of entry_without_a_feed.expected
abbrev pub entry_without_a_feed_output : List ℕ
entry_without_a_feed_output = codes "+ shoen 1" ++ 10 ∷ [] ++ codes "fault 3" ++ 10 ∷ []

-- the bytes of exception_and_answer.journal
abbrev pub exception_and_answer_journal : List ℕ
exception_and_answer_journal = codes "journal 2 0 0" ++ 10 ∷ [] ++ codes "start 10 0 10 '='(_1,f(_1))" ++ 10 ∷ [] ++ codes "reduce 2 0" ++ 10 ∷ [] ++ codes "answer 1 2 true" ++ 10 ∷ [] ++ codes "reduce 3 0" ++ 10 ∷ [] ++ codes "reduce 4 0" ++ 10 ∷ []

-- the bytes of exception_and_answer.expected
abbrev pub exception_and_answer_output : List ℕ
exception_and_answer_output = codes "+ shoen 1" ++ 10 ∷ [] ++ codes "+ reduced" ++ 10 ∷ [] ++ codes "+ sent" ++ 10 ∷ [] ++ codes "+ reduced" ++ 10 ∷ [] ++ codes "+ reduced" ++ 10 ∷ [] ++ codes "+ end 5" ++ 10 ∷ []

-- the bytes of goal_in_another_spelling.journal
abbrev pub goal_in_another_spelling_journal : List ℕ
goal_in_another_spelling_journal = codes "journal 1 0 0" ++ 10 ∷ [] ++ codes "start 10 0 10 X = 1" ++ 10 ∷ []

-- the bytes of goal_in_another_spelling.expected
abbrev pub goal_in_another_spelling_output : List ℕ
goal_in_another_spelling_output = codes "fault 2" ++ 10 ∷ []

-- the bytes of goal_in_parentheses.journal
abbrev pub goal_in_parentheses_journal : List ℕ
goal_in_parentheses_journal = codes "journal 1 0 0" ++ 10 ∷ [] ++ codes "start 10 0 10 (true)" ++ 10 ∷ []

-- the bytes of goal_in_parentheses.expected
abbrev pub goal_in_parentheses_output : List ℕ
goal_in_parentheses_output = codes "fault 2" ++ 10 ∷ []

-- the bytes of goal_that_is_none.journal
abbrev pub goal_that_is_none_journal : List ℕ
goal_that_is_none_journal = codes "journal 1 0 0" ++ 10 ∷ [] ++ codes "start 10 0 10 p" ++ 10 ∷ []

-- the bytes of goal_that_is_none.expected
abbrev pub goal_that_is_none_output : List ℕ
goal_that_is_none_output = codes "fault 2" ++ 10 ∷ []

-- the bytes of goal_with_a_blank.journal
abbrev pub goal_with_a_blank_journal : List ℕ
goal_with_a_blank_journal = codes "journal 1 0 0" ++ 10 ∷ [] ++ codes "start 10 0 10 '='(_1, 1)" ++ 10 ∷ []

-- the bytes of goal_with_a_blank.expected
abbrev pub goal_with_a_blank_output : List ℕ
goal_with_a_blank_output = codes "fault 2" ++ 10 ∷ []

-- the bytes of goal_with_a_leading_zero.journal
abbrev pub goal_with_a_leading_zero_journal : List ℕ
goal_with_a_leading_zero_journal = codes "journal 1 0 0" ++ 10 ∷ [] ++ codes "start 10 0 10 '='(_1,01)" ++ 10 ∷ []

-- the bytes of goal_with_a_leading_zero.expected
abbrev pub goal_with_a_leading_zero_output : List ℕ
goal_with_a_leading_zero_output = codes "fault 2" ++ 10 ∷ []

-- the bytes of goal_with_a_named_variable.journal
abbrev pub goal_with_a_named_variable_journal : List ℕ
goal_with_a_named_variable_journal = codes "journal 1 0 0" ++ 10 ∷ [] ++ codes "start 10 0 10 '='(X,1)" ++ 10 ∷ []

-- the bytes of goal_with_a_named_variable.expected
abbrev pub goal_with_a_named_variable_output : List ℕ
goal_with_a_named_variable_output = codes "fault 2" ++ 10 ∷ []

-- the bytes of goal_with_other_variables.journal
abbrev pub goal_with_other_variables_journal : List ℕ
goal_with_other_variables_journal = codes "journal 1 0 0" ++ 10 ∷ [] ++ codes "start 10 0 10 '='(_2,1)" ++ 10 ∷ []

-- the bytes of goal_with_other_variables.expected
abbrev pub goal_with_other_variables_output : List ℕ
goal_with_other_variables_output = codes "fault 2" ++ 10 ∷ []

-- the bytes of goals_as_printed.journal
abbrev pub goals_as_printed_journal : List ℕ
goals_as_printed_journal = codes "journal 1 0 0" ++ 10 ∷ [] ++ codes "start 5 1 7 '='(f(_1,_2,_1),g('A b',[1,2|_3]))" ++ 10 ∷ [] ++ codes "start 7 0 1 ':='(_1,'+'(-3,'*'(4,_2)))" ++ 10 ∷ [] ++ codes "start 1 0 1 m:p(a,'it''s')" ++ 10 ∷ [] ++ codes "start 1 0 1 m:p" ++ 10 ∷ [] ++ codes "start 1 0 1 shoen:execute(':'(_1,_2),0,1,2,_3,_4)" ++ 10 ∷ [] ++ codes "start 1 0 1 true" ++ 10 ∷ [] ++ codes "start 1 0 1 '='(_1,'[]'(a,[]))" ++ 10 ∷ [] ++ codes "start 1 0 1 m:[]" ++ 10 ∷ []

-- the bytes of goals_as_printed.expected
abbrev pub goals_as_printed_output : List ℕ
goals_as_printed_output = codes "+ shoen 1" ++ 10 ∷ [] ++ codes "+ shoen 2" ++ 10 ∷ [] ++ codes "+ shoen 3" ++ 10 ∷ [] ++ codes "+ shoen 4" ++ 10 ∷ [] ++ codes "+ shoen 5" ++ 10 ∷ [] ++ codes "+ shoen 6" ++ 10 ∷ [] ++ codes "+ shoen 7" ++ 10 ∷ [] ++ codes "+ shoen 8" ++ 10 ∷ [] ++ codes "+ end 8" ++ 10 ∷ []

-- the bytes of greatest_numbers.journal
abbrev pub greatest_numbers_journal : List ℕ
greatest_numbers_journal = codes "journal 1 0 0" ++ 10 ∷ [] ++ codes "start 9223372036854775807 4095 4095 true" ++ 10 ∷ [] ++ codes "reduce 2 0" ++ 10 ∷ []

-- the bytes of greatest_numbers.expected
abbrev pub greatest_numbers_output : List ℕ
greatest_numbers_output = codes "+ shoen 1" ++ 10 ∷ [] ++ codes "+ reduced" ++ 10 ∷ [] ++ codes "+ end 2" ++ 10 ∷ []

-- the bytes of letter_that_is_no_digit.journal
abbrev pub letter_that_is_no_digit_journal : List ℕ
letter_that_is_no_digit_journal = codes "journal 1 0 0" ++ 10 ∷ [] ++ codes "load 3a2d206d6f64756c6520652eg0" ++ 10 ∷ []

-- the bytes of letter_that_is_no_digit.expected
abbrev pub letter_that_is_no_digit_output : List ℕ
letter_that_is_no_digit_output = codes "fault 2" ++ 10 ∷ []

-- the bytes of load_alone.journal
abbrev pub load_alone_journal : List ℕ
load_alone_journal = codes "journal 1 0 0" ++ 10 ∷ [] ++ codes "load 3a2d206d6f64756c6520652e" ++ 10 ∷ []

-- the bytes of load_alone.expected
abbrev pub load_alone_output : List ℕ
load_alone_output = codes "+ loaded e" ++ 10 ∷ [] ++ codes "+ end 1" ++ 10 ∷ []

-- the bytes of load_without_digits.journal
abbrev pub load_without_digits_journal : List ℕ
load_without_digits_journal = codes "journal 1 0 0" ++ 10 ∷ [] ++ codes "load" ++ 10 ∷ []

-- the bytes of load_without_digits.expected
abbrev pub load_without_digits_output : List ℕ
load_without_digits_output = codes "fault 2" ++ 10 ∷ []

-- the bytes of loaded_twice.journal
abbrev pub loaded_twice_journal : List ℕ
loaded_twice_journal = codes "journal 1 0 0" ++ 10 ∷ [] ++ codes "load 3a2d206d6f64756c6520652e" ++ 10 ∷ [] ++ codes "load 3a2d206d6f64756c6520652e" ++ 10 ∷ []

-- the bytes of loaded_twice.expected
abbrev pub loaded_twice_output : List ℕ
loaded_twice_output = codes "+ loaded e" ++ 10 ∷ [] ++ codes "fault 3" ++ 10 ∷ []

-- the bytes of login_is_no_entry.journal
abbrev pub login_is_no_entry_journal : List ℕ
login_is_no_entry_journal = codes "journal 1 0 0" ++ 10 ∷ [] ++ codes "start 10 0 10 '='(_1,1)" ++ 10 ∷ [] ++ codes "login" ++ 10 ∷ []

-- the bytes of login_is_no_entry.expected
abbrev pub login_is_no_entry_output : List ℕ
login_is_no_entry_output = codes "+ shoen 1" ++ 10 ∷ [] ++ codes "fault 3" ++ 10 ∷ []

-- the bytes of low_over_high.journal
abbrev pub low_over_high_journal : List ℕ
low_over_high_journal = codes "journal 1 0 0" ++ 10 ∷ [] ++ codes "start 1 2 1 true" ++ 10 ∷ []

-- the bytes of low_over_high.expected
abbrev pub low_over_high_output : List ℕ
low_over_high_output = codes "fault 2" ++ 10 ∷ []

-- the bytes of messages_of_a_program.journal
abbrev pub messages_of_a_program_journal : List ℕ
messages_of_a_program_journal = codes "journal 1 0 0" ++ 10 ∷ [] ++ codes "start 100 0 10 shoen:execute(true,0,10,5,[foo],_1)" ++ 10 ∷ [] ++ codes "reduce 2 0" ++ 10 ∷ [] ++ codes "reduce 3 0" ++ 10 ∷ [] ++ codes "reduce 3 0" ++ 10 ∷ [] ++ codes "reduce 4 0" ++ 10 ∷ []

-- the bytes of messages_of_a_program.expected
abbrev pub messages_of_a_program_output : List ℕ
messages_of_a_program_output = codes "+ shoen 1" ++ 10 ∷ [] ++ codes "+ reduced" ++ 10 ∷ [] ++ codes "+ reduced" ++ 10 ∷ [] ++ codes "+ reduced" ++ 10 ∷ [] ++ codes "+ reduced" ++ 10 ∷ [] ++ codes "+ end 5" ++ 10 ∷ []

-- the bytes of module_is_used.journal
abbrev pub module_is_used_journal : List ℕ
module_is_used_journal = codes "journal 1 0 0" ++ 10 ∷ [] ++ codes "load 3a2d206d6f64756c6520742e0a7128612c62292e" ++ 10 ∷ [] ++ codes "start 10 0 10 t:q(_1,c)" ++ 10 ∷ [] ++ codes "reduce 2 0" ++ 10 ∷ []

-- the bytes of module_is_used.expected
abbrev pub module_is_used_output : List ℕ
module_is_used_output = codes "+ loaded t" ++ 10 ∷ [] ++ codes "+ shoen 1" ++ 10 ∷ [] ++ codes "+ reduced" ++ 10 ∷ [] ++ codes "+ end 3" ++ 10 ∷ []

-- the bytes of number_that_is_too_large.journal
abbrev pub number_that_is_too_large_journal : List ℕ
number_that_is_too_large_journal = codes "journal 1 0 0" ++ 10 ∷ [] ++ codes "start 9223372036854775808 0 0 true" ++ 10 ∷ []

-- the bytes of number_that_is_too_large.expected
abbrev pub number_that_is_too_large_output : List ℕ
number_that_is_too_large_output = codes "fault 2" ++ 10 ∷ []

-- the bytes of number_with_a_leading_zero.journal
abbrev pub number_with_a_leading_zero_journal : List ℕ
number_with_a_leading_zero_journal = codes "journal 1 0 0" ++ 10 ∷ [] ++ codes "start 10 0 10 '='(_1,1)" ++ 10 ∷ [] ++ codes "reduce 02 0" ++ 10 ∷ []

-- the bytes of number_with_a_leading_zero.expected
abbrev pub number_with_a_leading_zero_output : List ℕ
number_with_a_leading_zero_output = codes "+ shoen 1" ++ 10 ∷ [] ++ codes "fault 3" ++ 10 ∷ []

-- the bytes of odd_digits_in_a_load.journal
abbrev pub odd_digits_in_a_load_journal : List ℕ
odd_digits_in_a_load_journal = codes "journal 1 0 0" ++ 10 ∷ [] ++ codes "load 3a2d206d6f64756c6520652" ++ 10 ∷ []

-- the bytes of odd_digits_in_a_load.expected
abbrev pub odd_digits_in_a_load_output : List ℕ
odd_digits_in_a_load_output = codes "fault 2" ++ 10 ∷ []

-- the bytes of priority_4096.journal
abbrev pub priority_4096_journal : List ℕ
priority_4096_journal = codes "journal 1 0 0" ++ 10 ∷ [] ++ codes "start 1 0 4096 true" ++ 10 ∷ []

-- the bytes of priority_4096.expected
abbrev pub priority_4096_output : List ℕ
priority_4096_output = codes "fault 2" ++ 10 ∷ []

-- the bytes of query_is_no_entry.journal
abbrev pub query_is_no_entry_journal : List ℕ
query_is_no_entry_journal = codes "journal 1 0 0" ++ 10 ∷ [] ++ codes "start 10 0 10 '='(_1,1)" ++ 10 ∷ [] ++ codes "status 1" ++ 10 ∷ []

-- the bytes of query_is_no_entry.expected
abbrev pub query_is_no_entry_output : List ℕ
query_is_no_entry_output = codes "+ shoen 1" ++ 10 ∷ [] ++ codes "fault 3" ++ 10 ∷ []

-- the bytes of quote_that_is_single.journal
abbrev pub quote_that_is_single_journal : List ℕ
quote_that_is_single_journal = codes "journal 1 0 1" ++ 10 ∷ [] ++ codes "name 'it's'" ++ 10 ∷ []

-- the bytes of quote_that_is_single.expected
abbrev pub quote_that_is_single_output : List ℕ
quote_that_is_single_output = codes "fault 2" ++ 10 ∷ []

-- the bytes of quotes_without_an_end.journal
abbrev pub quotes_without_an_end_journal : List ℕ
quotes_without_an_end_journal = codes "journal 1 0 1" ++ 10 ∷ [] ++ codes "name 'A b" ++ 10 ∷ []

-- the bytes of quotes_without_an_end.expected
abbrev pub quotes_without_an_end_output : List ℕ
quotes_without_an_end_output = codes "fault 2" ++ 10 ∷ []

-- the bytes of quotes_without_need.journal
abbrev pub quotes_without_need_journal : List ℕ
quotes_without_need_journal = codes "journal 1 0 1" ++ 10 ∷ [] ++ codes "name 'e'" ++ 10 ∷ []

-- the bytes of quotes_without_need.expected
abbrev pub quotes_without_need_output : List ℕ
quotes_without_need_output = codes "fault 2" ++ 10 ∷ []

-- the bytes of reduction_of_no_goal.journal
abbrev pub reduction_of_no_goal_journal : List ℕ
reduction_of_no_goal_journal = codes "journal 1 0 0" ++ 10 ∷ [] ++ codes "reduce 2 0" ++ 10 ∷ []

-- the bytes of reduction_of_no_goal.expected
abbrev pub reduction_of_no_goal_output : List ℕ
reduction_of_no_goal_output = codes "fault 2" ++ 10 ∷ []

-- the bytes of reset_is_no_entry.journal
abbrev pub reset_is_no_entry_journal : List ℕ
reset_is_no_entry_journal = codes "journal 1 0 0" ++ 10 ∷ [] ++ codes "start 10 0 10 '='(_1,1)" ++ 10 ∷ [] ++ codes "reset" ++ 10 ∷ []

-- the bytes of reset_is_no_entry.expected
abbrev pub reset_is_no_entry_output : List ℕ
reset_is_no_entry_output = codes "+ shoen 1" ++ 10 ∷ [] ++ codes "fault 3" ++ 10 ∷ []

-- the bytes of run_after_a_reduction.journal
abbrev pub run_after_a_reduction_journal : List ℕ
run_after_a_reduction_journal = codes "journal 4 0 0" ++ 10 ∷ [] ++ codes "load 3a2d206d6f64756c6520652e" ++ 10 ∷ [] ++ codes "start 9 0 9 ':='(_1,f(_2))" ++ 10 ∷ [] ++ codes "stop 1" ++ 10 ∷ [] ++ codes "resume 1" ++ 10 ∷ [] ++ codes "allow 1 5" ++ 10 ∷ [] ++ codes "abort 1" ++ 10 ∷ [] ++ codes "reduce 1 0" ++ 10 ∷ [] ++ codes "run 3" ++ 10 ∷ []

-- the bytes of run_after_a_reduction.expected
abbrev pub run_after_a_reduction_output : List ℕ
run_after_a_reduction_output = codes "+ loaded e" ++ 10 ∷ [] ++ codes "+ shoen 1" ++ 10 ∷ [] ++ codes "+ sent" ++ 10 ∷ [] ++ codes "+ sent" ++ 10 ∷ [] ++ codes "+ sent" ++ 10 ∷ [] ++ codes "+ sent" ++ 10 ∷ [] ++ codes "+ reduced" ++ 10 ∷ [] ++ codes "+ 3" ++ 10 ∷ [] ++ codes "+ end 8" ++ 10 ∷ []

-- the bytes of run_is_no_entry.journal
abbrev pub run_is_no_entry_journal : List ℕ
run_is_no_entry_journal = codes "journal 1 0 0" ++ 10 ∷ [] ++ codes "start 10 0 10 '='(_1,1)" ++ 10 ∷ [] ++ codes "run 1" ++ 10 ∷ []

-- the bytes of run_is_no_entry.expected
abbrev pub run_is_no_entry_output : List ℕ
run_is_no_entry_output = codes "+ shoen 1" ++ 10 ∷ [] ++ codes "fault 3" ++ 10 ∷ []

-- the bytes of run_of_2_to_the_63.journal
abbrev pub run_of_2_to_the_63_journal : List ℕ
run_of_2_to_the_63_journal = codes "journal 4 0 0" ++ 10 ∷ [] ++ codes "load 3a2d206d6f64756c6520652e" ++ 10 ∷ [] ++ codes "start 9 0 9 ':='(_1,f(_2))" ++ 10 ∷ [] ++ codes "stop 1" ++ 10 ∷ [] ++ codes "resume 1" ++ 10 ∷ [] ++ codes "allow 1 5" ++ 10 ∷ [] ++ codes "abort 1" ++ 10 ∷ [] ++ codes "run 9223372036854775808" ++ 10 ∷ []

-- the bytes of run_of_2_to_the_63.expected
abbrev pub run_of_2_to_the_63_output : List ℕ
run_of_2_to_the_63_output = codes "+ loaded e" ++ 10 ∷ [] ++ codes "+ shoen 1" ++ 10 ∷ [] ++ codes "+ sent" ++ 10 ∷ [] ++ codes "+ sent" ++ 10 ∷ [] ++ codes "+ sent" ++ 10 ∷ [] ++ codes "+ sent" ++ 10 ∷ [] ++ codes "fault 8" ++ 10 ∷ []

-- the bytes of run_of_all_steps.journal
abbrev pub run_of_all_steps_journal : List ℕ
run_of_all_steps_journal = codes "journal 4 0 0" ++ 10 ∷ [] ++ codes "load 3a2d206d6f64756c6520652e" ++ 10 ∷ [] ++ codes "start 9 0 9 ':='(_1,f(_2))" ++ 10 ∷ [] ++ codes "stop 1" ++ 10 ∷ [] ++ codes "resume 1" ++ 10 ∷ [] ++ codes "allow 1 5" ++ 10 ∷ [] ++ codes "abort 1" ++ 10 ∷ [] ++ codes "run 4" ++ 10 ∷ []

-- the bytes of run_of_all_steps.expected
abbrev pub run_of_all_steps_output : List ℕ
run_of_all_steps_output = codes "+ loaded e" ++ 10 ∷ [] ++ codes "+ shoen 1" ++ 10 ∷ [] ++ codes "+ sent" ++ 10 ∷ [] ++ codes "+ sent" ++ 10 ∷ [] ++ codes "+ sent" ++ 10 ∷ [] ++ codes "+ sent" ++ 10 ∷ [] ++ codes "+ 4" ++ 10 ∷ [] ++ codes "+ end 7" ++ 10 ∷ []

-- the bytes of run_of_no_steps.journal
abbrev pub run_of_no_steps_journal : List ℕ
run_of_no_steps_journal = codes "journal 4 0 0" ++ 10 ∷ [] ++ codes "load 3a2d206d6f64756c6520652e" ++ 10 ∷ [] ++ codes "start 9 0 9 ':='(_1,f(_2))" ++ 10 ∷ [] ++ codes "stop 1" ++ 10 ∷ [] ++ codes "resume 1" ++ 10 ∷ [] ++ codes "allow 1 5" ++ 10 ∷ [] ++ codes "abort 1" ++ 10 ∷ [] ++ codes "run 0" ++ 10 ∷ []

-- the bytes of run_of_no_steps.expected
abbrev pub run_of_no_steps_output : List ℕ
run_of_no_steps_output = codes "+ loaded e" ++ 10 ∷ [] ++ codes "+ shoen 1" ++ 10 ∷ [] ++ codes "+ sent" ++ 10 ∷ [] ++ codes "+ sent" ++ 10 ∷ [] ++ codes "+ sent" ++ 10 ∷ [] ++ codes "+ sent" ++ 10 ∷ [] ++ codes "fault 8" ++ 10 ∷ []

-- the bytes of run_of_one_step_more.journal
abbrev pub run_of_one_step_more_journal : List ℕ
run_of_one_step_more_journal = codes "journal 4 0 0" ++ 10 ∷ [] ++ codes "load 3a2d206d6f64756c6520652e" ++ 10 ∷ [] ++ codes "start 9 0 9 ':='(_1,f(_2))" ++ 10 ∷ [] ++ codes "stop 1" ++ 10 ∷ [] ++ codes "resume 1" ++ 10 ∷ [] ++ codes "allow 1 5" ++ 10 ∷ [] ++ codes "abort 1" ++ 10 ∷ [] ++ codes "run 5" ++ 10 ∷ []

-- the bytes of run_of_one_step_more.expected
abbrev pub run_of_one_step_more_output : List ℕ
run_of_one_step_more_output = codes "+ loaded e" ++ 10 ∷ [] ++ codes "+ shoen 1" ++ 10 ∷ [] ++ codes "+ sent" ++ 10 ∷ [] ++ codes "+ sent" ++ 10 ∷ [] ++ codes "+ sent" ++ 10 ∷ [] ++ codes "+ sent" ++ 10 ∷ [] ++ codes "fault 8" ++ 10 ∷ []

-- the bytes of run_of_two_numbers.journal
abbrev pub run_of_two_numbers_journal : List ℕ
run_of_two_numbers_journal = codes "journal 4 0 0" ++ 10 ∷ [] ++ codes "load 3a2d206d6f64756c6520652e" ++ 10 ∷ [] ++ codes "start 9 0 9 ':='(_1,f(_2))" ++ 10 ∷ [] ++ codes "stop 1" ++ 10 ∷ [] ++ codes "resume 1" ++ 10 ∷ [] ++ codes "allow 1 5" ++ 10 ∷ [] ++ codes "abort 1" ++ 10 ∷ [] ++ codes "run 1 1" ++ 10 ∷ []

-- the bytes of run_of_two_numbers.expected
abbrev pub run_of_two_numbers_output : List ℕ
run_of_two_numbers_output = codes "+ loaded e" ++ 10 ∷ [] ++ codes "+ shoen 1" ++ 10 ∷ [] ++ codes "+ sent" ++ 10 ∷ [] ++ codes "+ sent" ++ 10 ∷ [] ++ codes "+ sent" ++ 10 ∷ [] ++ codes "+ sent" ++ 10 ∷ [] ++ codes "fault 8" ++ 10 ∷ []

-- the bytes of run_with_a_leading_zero.journal
abbrev pub run_with_a_leading_zero_journal : List ℕ
run_with_a_leading_zero_journal = codes "journal 4 0 0" ++ 10 ∷ [] ++ codes "load 3a2d206d6f64756c6520652e" ++ 10 ∷ [] ++ codes "start 9 0 9 ':='(_1,f(_2))" ++ 10 ∷ [] ++ codes "stop 1" ++ 10 ∷ [] ++ codes "resume 1" ++ 10 ∷ [] ++ codes "allow 1 5" ++ 10 ∷ [] ++ codes "abort 1" ++ 10 ∷ [] ++ codes "run 01" ++ 10 ∷ []

-- the bytes of run_with_a_leading_zero.expected
abbrev pub run_with_a_leading_zero_output : List ℕ
run_with_a_leading_zero_output = codes "+ loaded e" ++ 10 ∷ [] ++ codes "+ shoen 1" ++ 10 ∷ [] ++ codes "+ sent" ++ 10 ∷ [] ++ codes "+ sent" ++ 10 ∷ [] ++ codes "+ sent" ++ 10 ∷ [] ++ codes "+ sent" ++ 10 ∷ [] ++ codes "fault 8" ++ 10 ∷ []

-- the bytes of run_without_a_number.journal
abbrev pub run_without_a_number_journal : List ℕ
run_without_a_number_journal = codes "journal 4 0 0" ++ 10 ∷ [] ++ codes "load 3a2d206d6f64756c6520652e" ++ 10 ∷ [] ++ codes "start 9 0 9 ':='(_1,f(_2))" ++ 10 ∷ [] ++ codes "stop 1" ++ 10 ∷ [] ++ codes "resume 1" ++ 10 ∷ [] ++ codes "allow 1 5" ++ 10 ∷ [] ++ codes "abort 1" ++ 10 ∷ [] ++ codes "run" ++ 10 ∷ []

-- the bytes of run_without_a_number.expected
abbrev pub run_without_a_number_output : List ℕ
run_without_a_number_output = codes "+ loaded e" ++ 10 ∷ [] ++ codes "+ shoen 1" ++ 10 ∷ [] ++ codes "+ sent" ++ 10 ∷ [] ++ codes "+ sent" ++ 10 ∷ [] ++ codes "+ sent" ++ 10 ∷ [] ++ codes "+ sent" ++ 10 ∷ [] ++ codes "fault 8" ++ 10 ∷ []

-- the bytes of runs_one_after_another.journal
abbrev pub runs_one_after_another_journal : List ℕ
runs_one_after_another_journal = codes "journal 4 0 0" ++ 10 ∷ [] ++ codes "load 3a2d206d6f64756c6520652e" ++ 10 ∷ [] ++ codes "start 9 0 9 ':='(_1,f(_2))" ++ 10 ∷ [] ++ codes "stop 1" ++ 10 ∷ [] ++ codes "resume 1" ++ 10 ∷ [] ++ codes "allow 1 5" ++ 10 ∷ [] ++ codes "abort 1" ++ 10 ∷ [] ++ codes "run 1" ++ 10 ∷ [] ++ codes "run 3" ++ 10 ∷ []

-- the bytes of runs_one_after_another.expected
abbrev pub runs_one_after_another_output : List ℕ
runs_one_after_another_output = codes "+ loaded e" ++ 10 ∷ [] ++ codes "+ shoen 1" ++ 10 ∷ [] ++ codes "+ sent" ++ 10 ∷ [] ++ codes "+ sent" ++ 10 ∷ [] ++ codes "+ sent" ++ 10 ∷ [] ++ codes "+ sent" ++ 10 ∷ [] ++ codes "+ 1" ++ 10 ∷ [] ++ codes "+ 3" ++ 10 ∷ [] ++ codes "+ end 8" ++ 10 ∷ []

-- the bytes of shoens_in_shoens.journal
abbrev pub shoens_in_shoens_journal : List ℕ
shoens_in_shoens_journal = codes "journal 1 0 0" ++ 10 ∷ [] ++ codes "load 3a2d206d6f64756c65206e2e0a77283029203a2d2074727565207c20747275652c20747275652e0a77284e29203a2d204e203e2030207c204d203a3d204e202d20312c2077284d292e0a61203a2d2074727565207c2073686f656e3a65786563757465286e3a622c302c31302c35302c432c52292e0a62203a2d2074727565207c2073686f656e3a65786563757465286e3a772831292c302c31302c35302c432c52292e" ++ 10 ∷ [] ++ codes "start 100 0 10 n:a" ++ 10 ∷ [] ++ codes "reduce 2 1" ++ 10 ∷ [] ++ codes "reduce 3 0" ++ 10 ∷ [] ++ codes "reduce 5 1" ++ 10 ∷ [] ++ codes "reduce 6 0" ++ 10 ∷ [] ++ codes "reduce 8 2" ++ 10 ∷ [] ++ codes "reduce 9 0" ++ 10 ∷ [] ++ codes "reduce 10 1" ++ 10 ∷ [] ++ codes "reduce 11 0" ++ 10 ∷ [] ++ codes "reduce 12 0" ++ 10 ∷ []

-- the bytes of shoens_in_shoens.expected
abbrev pub shoens_in_shoens_output : List ℕ
shoens_in_shoens_output = codes "+ loaded n" ++ 10 ∷ [] ++ codes "+ shoen 1" ++ 10 ∷ [] ++ codes "+ reduced" ++ 10 ∷ [] ++ codes "+ reduced" ++ 10 ∷ [] ++ codes "+ reduced" ++ 10 ∷ [] ++ codes "+ reduced" ++ 10 ∷ [] ++ codes "+ reduced" ++ 10 ∷ [] ++ codes "+ reduced" ++ 10 ∷ [] ++ codes "+ reduced" ++ 10 ∷ [] ++ codes "+ reduced" ++ 10 ∷ [] ++ codes "+ reduced" ++ 10 ∷ [] ++ codes "+ end 11" ++ 10 ∷ []

-- the bytes of start_and_reduction.journal
abbrev pub start_and_reduction_journal : List ℕ
start_and_reduction_journal = codes "journal 1 0 0" ++ 10 ∷ [] ++ codes "start 10 0 10 '='(_1,1)" ++ 10 ∷ [] ++ codes "reduce 2 0" ++ 10 ∷ []

-- the bytes of start_and_reduction.expected
abbrev pub start_and_reduction_output : List ℕ
start_and_reduction_output = codes "+ shoen 1" ++ 10 ∷ [] ++ codes "+ reduced" ++ 10 ∷ [] ++ codes "+ end 2" ++ 10 ∷ []

-- the bytes of start_without_a_goal.journal
abbrev pub start_without_a_goal_journal : List ℕ
start_without_a_goal_journal = codes "journal 1 0 0" ++ 10 ∷ [] ++ codes "start 10 0 10" ++ 10 ∷ []

-- the bytes of start_without_a_goal.expected
abbrev pub start_without_a_goal_output : List ℕ
start_without_a_goal_output = codes "fault 2" ++ 10 ∷ []

-- the bytes of step_that_is_refused.journal
abbrev pub step_that_is_refused_journal : List ℕ
step_that_is_refused_journal = codes "journal 1 0 0" ++ 10 ∷ [] ++ codes "start 10 0 10 '='(_1,1)" ++ 10 ∷ [] ++ codes "reduce 2 1" ++ 10 ∷ []

-- the bytes of step_that_is_refused.expected
abbrev pub step_that_is_refused_output : List ℕ
step_that_is_refused_output = codes "+ shoen 1" ++ 10 ∷ [] ++ codes "fault 3" ++ 10 ∷ []

-- each of these example journals has the output that stands beside it
pub record EntryJournalsHold : Type 0 where
  pub answer_in_another_spelling : replay_output answer_in_another_spelling_journal ≡ answer_in_another_spelling_output
  pub answer_to_no_report : replay_output answer_to_no_report_journal ≡ answer_to_no_report_output
  pub answer_to_report_0 : replay_output answer_to_report_0_journal ≡ answer_to_report_0_output
  pub append_two_lists : replay_output append_two_lists_journal ≡ append_two_lists_output
  pub bad_source : replay_output bad_source_journal ≡ bad_source_output
  pub capital_without_quotes : replay_output capital_without_quotes_journal ≡ capital_without_quotes_output
  pub capitals_in_a_load : replay_output capitals_in_a_load_journal ≡ capitals_in_a_load_output
  pub control_of_an_ended_shoen : replay_output control_of_an_ended_shoen_journal ≡ control_of_an_ended_shoen_output
  pub control_of_no_shoen : replay_output control_of_no_shoen_journal ≡ control_of_no_shoen_output
  pub each_kind_of_entry : replay_output each_kind_of_entry_journal ≡ each_kind_of_entry_output
  pub empty_line : replay_output empty_line_journal ≡ empty_line_output
  pub empty_line_at_the_end : replay_output empty_line_at_the_end_journal ≡ empty_line_at_the_end_output
  pub entry_after_a_blank : replay_output entry_after_a_blank_journal ≡ entry_after_a_blank_output
  pub entry_in_capitals : replay_output entry_in_capitals_journal ≡ entry_in_capitals_output
  pub entry_of_one_number : replay_output entry_of_one_number_journal ≡ entry_of_one_number_output
  pub entry_of_three_numbers : replay_output entry_of_three_numbers_journal ≡ entry_of_three_numbers_output
  pub entry_with_a_blank_at_its_end : replay_output entry_with_a_blank_at_its_end_journal ≡ entry_with_a_blank_at_its_end_output
  pub entry_with_a_return : replay_output entry_with_a_return_journal ≡ entry_with_a_return_output
  pub entry_with_a_sign : replay_output entry_with_a_sign_journal ≡ entry_with_a_sign_output
  pub entry_with_a_tab : replay_output entry_with_a_tab_journal ≡ entry_with_a_tab_output
  pub entry_with_two_blanks : replay_output entry_with_two_blanks_journal ≡ entry_with_two_blanks_output
  pub entry_without_a_feed : replay_output entry_without_a_feed_journal ≡ entry_without_a_feed_output
  pub exception_and_answer : replay_output exception_and_answer_journal ≡ exception_and_answer_output
  pub goal_in_another_spelling : replay_output goal_in_another_spelling_journal ≡ goal_in_another_spelling_output
  pub goal_in_parentheses : replay_output goal_in_parentheses_journal ≡ goal_in_parentheses_output
  pub goal_that_is_none : replay_output goal_that_is_none_journal ≡ goal_that_is_none_output
  pub goal_with_a_blank : replay_output goal_with_a_blank_journal ≡ goal_with_a_blank_output
  pub goal_with_a_leading_zero : replay_output goal_with_a_leading_zero_journal ≡ goal_with_a_leading_zero_output
  pub goal_with_a_named_variable : replay_output goal_with_a_named_variable_journal ≡ goal_with_a_named_variable_output
  pub goal_with_other_variables : replay_output goal_with_other_variables_journal ≡ goal_with_other_variables_output
  pub goals_as_printed : replay_output goals_as_printed_journal ≡ goals_as_printed_output
  pub greatest_numbers : replay_output greatest_numbers_journal ≡ greatest_numbers_output
  pub letter_that_is_no_digit : replay_output letter_that_is_no_digit_journal ≡ letter_that_is_no_digit_output
  pub load_alone : replay_output load_alone_journal ≡ load_alone_output
  pub load_without_digits : replay_output load_without_digits_journal ≡ load_without_digits_output
  pub loaded_twice : replay_output loaded_twice_journal ≡ loaded_twice_output
  pub login_is_no_entry : replay_output login_is_no_entry_journal ≡ login_is_no_entry_output
  pub low_over_high : replay_output low_over_high_journal ≡ low_over_high_output
  pub messages_of_a_program : replay_output messages_of_a_program_journal ≡ messages_of_a_program_output
  pub module_is_used : replay_output module_is_used_journal ≡ module_is_used_output
  pub number_that_is_too_large : replay_output number_that_is_too_large_journal ≡ number_that_is_too_large_output
  pub number_with_a_leading_zero : replay_output number_with_a_leading_zero_journal ≡ number_with_a_leading_zero_output
  pub odd_digits_in_a_load : replay_output odd_digits_in_a_load_journal ≡ odd_digits_in_a_load_output
  pub priority_4096 : replay_output priority_4096_journal ≡ priority_4096_output
  pub query_is_no_entry : replay_output query_is_no_entry_journal ≡ query_is_no_entry_output
  pub quote_that_is_single : replay_output quote_that_is_single_journal ≡ quote_that_is_single_output
  pub quotes_without_an_end : replay_output quotes_without_an_end_journal ≡ quotes_without_an_end_output
  pub quotes_without_need : replay_output quotes_without_need_journal ≡ quotes_without_need_output
  pub reduction_of_no_goal : replay_output reduction_of_no_goal_journal ≡ reduction_of_no_goal_output
  pub reset_is_no_entry : replay_output reset_is_no_entry_journal ≡ reset_is_no_entry_output
  pub run_after_a_reduction : replay_output run_after_a_reduction_journal ≡ run_after_a_reduction_output
  pub run_is_no_entry : replay_output run_is_no_entry_journal ≡ run_is_no_entry_output
  pub run_of_2_to_the_63 : replay_output run_of_2_to_the_63_journal ≡ run_of_2_to_the_63_output
  pub run_of_all_steps : replay_output run_of_all_steps_journal ≡ run_of_all_steps_output
  pub run_of_no_steps : replay_output run_of_no_steps_journal ≡ run_of_no_steps_output
  pub run_of_one_step_more : replay_output run_of_one_step_more_journal ≡ run_of_one_step_more_output
  pub run_of_two_numbers : replay_output run_of_two_numbers_journal ≡ run_of_two_numbers_output
  pub run_with_a_leading_zero : replay_output run_with_a_leading_zero_journal ≡ run_with_a_leading_zero_output
  pub run_without_a_number : replay_output run_without_a_number_journal ≡ run_without_a_number_output
  pub runs_one_after_another : replay_output runs_one_after_another_journal ≡ runs_one_after_another_output
  pub shoens_in_shoens : replay_output shoens_in_shoens_journal ≡ shoens_in_shoens_output
  pub start_and_reduction : replay_output start_and_reduction_journal ≡ start_and_reduction_output
  pub start_without_a_goal : replay_output start_without_a_goal_journal ≡ start_without_a_goal_output
  pub step_that_is_refused : replay_output step_that_is_refused_journal ≡ step_that_is_refused_output
