-- The example journals with what is written for them. Made by tools/examples_as_definitions from examples/journals.
use Rattle.std.specs.Prelude.{◌≡◌, ℕ, List, [], ◌∷◌, ◌++◌, codes}
use Rattle.kl1_model_server.specs.Replay.{replay_output}

-- the bytes of answer_in_version_1.journal
abbrev pub answer_in_version_1_journal : List ℕ
answer_in_version_1_journal = codes "journal 1 0 0" ++ 10 ∷ [] ++ codes "start 10 0 10 '='(_1,f(_1))" ++ 10 ∷ [] ++ codes "reduce 2 0" ++ 10 ∷ [] ++ codes "answer 1 2 true" ++ 10 ∷ [] ++ codes "reduce 3 0" ++ 10 ∷ [] ++ codes "reduce 4 0" ++ 10 ∷ []

-- the bytes of answer_in_version_1.expected
abbrev pub answer_in_version_1_output : List ℕ
answer_in_version_1_output = codes "+ shoen 1" ++ 10 ∷ [] ++ codes "+ reduced" ++ 10 ∷ [] ++ codes "fault 4" ++ 10 ∷ []

-- the bytes of built_in_name.journal
abbrev pub built_in_name_journal : List ℕ
built_in_name_journal = codes "journal 1 0 1" ++ 10 ∷ [] ++ codes "name stop" ++ 10 ∷ []

-- the bytes of built_in_name.expected
abbrev pub built_in_name_output : List ℕ
built_in_name_output = codes "fault 2" ++ 10 ∷ []

-- the bytes of empty_list_as_a_name.journal
abbrev pub empty_list_as_a_name_journal : List ℕ
empty_list_as_a_name_journal = codes "journal 1 0 1" ++ 10 ∷ [] ++ codes "name []" ++ 10 ∷ []

-- the bytes of empty_list_as_a_name.expected
abbrev pub empty_list_as_a_name_output : List ℕ
empty_list_as_a_name_output = codes "fault 2" ++ 10 ∷ []

-- the bytes of entries_without_a_heading.journal
abbrev pub entries_without_a_heading_journal : List ℕ
entries_without_a_heading_journal = codes "start 10 0 10 '='(_1,1)" ++ 10 ∷ [] ++ codes "reduce 2 0" ++ 10 ∷ []

-- the bytes of entries_without_a_heading.expected
abbrev pub entries_without_a_heading_output : List ℕ
entries_without_a_heading_output = codes "fault 1" ++ 10 ∷ []

-- the bytes of entry_in_place_of_a_name.journal
abbrev pub entry_in_place_of_a_name_journal : List ℕ
entry_in_place_of_a_name_journal = codes "journal 1 0 1" ++ 10 ∷ [] ++ codes "start 10 0 10 '='(_1,1)" ++ 10 ∷ []

-- the bytes of entry_in_place_of_a_name.expected
abbrev pub entry_in_place_of_a_name_output : List ℕ
entry_in_place_of_a_name_output = codes "fault 2" ++ 10 ∷ []

-- the bytes of exception_in_version_1.journal
abbrev pub exception_in_version_1_journal : List ℕ
exception_in_version_1_journal = codes "journal 1 0 0" ++ 10 ∷ [] ++ codes "start 10 0 10 '='(_1,f(_1))" ++ 10 ∷ [] ++ codes "reduce 2 0" ++ 10 ∷ [] ++ codes "abort 1" ++ 10 ∷ []

-- the bytes of exception_in_version_1.expected
abbrev pub exception_in_version_1_output : List ℕ
exception_in_version_1_output = codes "+ shoen 1" ++ 10 ∷ [] ++ codes "+ reduced" ++ 10 ∷ [] ++ codes "fault 4" ++ 10 ∷ []

-- the bytes of five_sessions.journal
abbrev pub five_sessions_journal : List ℕ
five_sessions_journal = codes "journal 1 5 0" ++ 10 ∷ []

-- the bytes of five_sessions.expected
abbrev pub five_sessions_output : List ℕ
five_sessions_output = codes "fault 1" ++ 10 ∷ []

-- the bytes of four_sessions.journal
abbrev pub four_sessions_journal : List ℕ
four_sessions_journal = codes "journal 1 4 0" ++ 10 ∷ []

-- the bytes of four_sessions.expected
abbrev pub four_sessions_output : List ℕ
four_sessions_output = codes "+ end 0" ++ 10 ∷ []

-- the bytes of goal_with_a_name_in_quotes.journal
abbrev pub goal_with_a_name_in_quotes_journal : List ℕ
goal_with_a_name_in_quotes_journal = codes "journal 1 0 0" ++ 10 ∷ [] ++ codes "start 10 0 10 m:'p'" ++ 10 ∷ []

-- the bytes of goal_with_a_name_in_quotes.expected
abbrev pub goal_with_a_name_in_quotes_output : List ℕ
goal_with_a_name_in_quotes_output = codes "fault 2" ++ 10 ∷ []

-- the bytes of heading_after_a_blank.journal
abbrev pub heading_after_a_blank_journal : List ℕ
heading_after_a_blank_journal = codes " journal 1 0 0" ++ 10 ∷ []

-- the bytes of heading_after_a_blank.expected
abbrev pub heading_after_a_blank_output : List ℕ
heading_after_a_blank_output = codes "fault 1" ++ 10 ∷ []

-- the bytes of heading_alone.journal
abbrev pub heading_alone_journal : List ℕ
heading_alone_journal = codes "journal 1 0 0" ++ 10 ∷ []

-- the bytes of heading_alone.expected
abbrev pub heading_alone_output : List ℕ
heading_alone_output = codes "+ end 0" ++ 10 ∷ []

-- the bytes of heading_of_four_numbers.journal
abbrev pub heading_of_four_numbers_journal : List ℕ
heading_of_four_numbers_journal = codes "journal 1 0 0 0" ++ 10 ∷ []

-- the bytes of heading_of_four_numbers.expected
abbrev pub heading_of_four_numbers_output : List ℕ
heading_of_four_numbers_output = codes "fault 1" ++ 10 ∷ []

-- the bytes of heading_of_two_numbers.journal
abbrev pub heading_of_two_numbers_journal : List ℕ
heading_of_two_numbers_journal = codes "journal 1 0" ++ 10 ∷ []

-- the bytes of heading_of_two_numbers.expected
abbrev pub heading_of_two_numbers_output : List ℕ
heading_of_two_numbers_output = codes "fault 1" ++ 10 ∷ []

-- the bytes of heading_with_a_blank_at_its_end.journal
abbrev pub heading_with_a_blank_at_its_end_journal : List ℕ
heading_with_a_blank_at_its_end_journal = codes "journal 1 0 0 " ++ 10 ∷ []

-- the bytes of heading_with_a_blank_at_its_end.expected
abbrev pub heading_with_a_blank_at_its_end_output : List ℕ
heading_with_a_blank_at_its_end_output = codes "fault 1" ++ 10 ∷ []

-- the bytes of heading_with_a_leading_zero.journal
abbrev pub heading_with_a_leading_zero_journal : List ℕ
heading_with_a_leading_zero_journal = codes "journal 1 00 0" ++ 10 ∷ []

-- the bytes of heading_with_a_leading_zero.expected
abbrev pub heading_with_a_leading_zero_output : List ℕ
heading_with_a_leading_zero_output = codes "fault 1" ++ 10 ∷ []

-- the bytes of heading_with_a_return.journal
abbrev pub heading_with_a_return_journal : List ℕ
heading_with_a_return_journal = codes "journal 1 0 0" ++ 13 ∷ [] ++ 10 ∷ []

-- the bytes of heading_with_a_return.expected
abbrev pub heading_with_a_return_output : List ℕ
heading_with_a_return_output = codes "fault 1" ++ 10 ∷ []

-- the bytes of heading_with_a_tab.journal
abbrev pub heading_with_a_tab_journal : List ℕ
heading_with_a_tab_journal = codes "journal" ++ 9 ∷ [] ++ codes "1 0 0" ++ 10 ∷ []

-- the bytes of heading_with_a_tab.expected
abbrev pub heading_with_a_tab_output : List ℕ
heading_with_a_tab_output = codes "fault 1" ++ 10 ∷ []

-- the bytes of heading_with_two_blanks.journal
abbrev pub heading_with_two_blanks_journal : List ℕ
heading_with_two_blanks_journal = codes "journal 1  0 0" ++ 10 ∷ []

-- the bytes of heading_with_two_blanks.expected
abbrev pub heading_with_two_blanks_output : List ℕ
heading_with_two_blanks_output = codes "fault 1" ++ 10 ∷ []

-- the bytes of heading_without_a_feed.journal
abbrev pub heading_without_a_feed_journal : List ℕ
heading_without_a_feed_journal = codes "journal 1 0 0"

-- the bytes of heading_without_a_feed.expected
abbrev pub heading_without_a_feed_output : List ℕ
heading_without_a_feed_output = codes "fault 1" ++ 10 ∷ []

-- the bytes of later_version.journal
abbrev pub later_version_journal : List ℕ
later_version_journal = codes "journal 6 0 0" ++ 10 ∷ []

-- the bytes of later_version.expected
abbrev pub later_version_output : List ℕ
later_version_output = codes "fault 1" ++ 10 ∷ []

-- the bytes of load_of_nothing.journal
abbrev pub load_of_nothing_journal : List ℕ
load_of_nothing_journal = codes "journal 1 0 0" ++ 10 ∷ [] ++ codes "load " ++ 10 ∷ []

-- the bytes of load_of_nothing.expected
abbrev pub load_of_nothing_output : List ℕ
load_of_nothing_output = codes "fault 2" ++ 10 ∷ []

-- the bytes of many_names_told.journal
abbrev pub many_names_told_journal : List ℕ
many_names_told_journal = codes "journal 1 0 1024" ++ 10 ∷ []

-- the bytes of many_names_told.expected
abbrev pub many_names_told_output : List ℕ
many_names_told_output = codes "fault 2" ++ 10 ∷ []

-- the bytes of name_of_127_bytes.journal
abbrev pub name_of_127_bytes_journal : List ℕ
name_of_127_bytes_journal = codes "journal 1 0 1" ++ 10 ∷ [] ++ codes "name nnnnnnnnnnnnnnnnnnnnnnnnnnnnnnnnnnnnnnnnnnnnnnnnnnnnnnnnnnnnnnnnnnnnnnnnnnnnnnnnnnnnnnnnnnnnnnnnnnnnnnnnnnnnnnnnnnnnnnnnnnnnnnn" ++ 10 ∷ []

-- the bytes of name_of_127_bytes.expected
abbrev pub name_of_127_bytes_output : List ℕ
name_of_127_bytes_output = codes "+ end 0" ++ 10 ∷ []

-- the bytes of name_of_128_bytes.journal
abbrev pub name_of_128_bytes_journal : List ℕ
name_of_128_bytes_journal = codes "journal 1 0 1" ++ 10 ∷ [] ++ codes "name nnnnnnnnnnnnnnnnnnnnnnnnnnnnnnnnnnnnnnnnnnnnnnnnnnnnnnnnnnnnnnnnnnnnnnnnnnnnnnnnnnnnnnnnnnnnnnnnnnnnnnnnnnnnnnnnnnnnnnnnnnnnnnnn" ++ 10 ∷ []

-- the bytes of name_of_128_bytes.expected
abbrev pub name_of_128_bytes_output : List ℕ
name_of_128_bytes_output = codes "fault 2" ++ 10 ∷ []

-- the bytes of name_of_64_codes_of_version_2.journal
abbrev pub name_of_64_codes_of_version_2_journal : List ℕ
name_of_64_codes_of_version_2_journal = codes "journal 2 0 0" ++ 10 ∷ [] ++ codes "start 10 0 10 atom_from([97,97,97,97,97,97,97,97,97,97,97,97,97,97,97,97,97,97,97,97,97,97,97,97,97,97,97,97,97,97,97,97,97,97,97,97,97,97,97,97,97,97,97,97,97,97,97,97,97,97,97,97,97,97,97,97,97,97,97,97,97,97,97,97],_1)" ++ 10 ∷ [] ++ codes "reduce 2 0" ++ 10 ∷ [] ++ codes "answer 1 2 true" ++ 10 ∷ []

-- the bytes of name_of_64_codes_of_version_2.expected
abbrev pub name_of_64_codes_of_version_2_output : List ℕ
name_of_64_codes_of_version_2_output = codes "+ shoen 1" ++ 10 ∷ [] ++ codes "+ reduced" ++ 10 ∷ [] ++ codes "+ sent" ++ 10 ∷ [] ++ codes "+ end 3" ++ 10 ∷ []

-- the bytes of name_of_64_codes_of_version_3.journal
abbrev pub name_of_64_codes_of_version_3_journal : List ℕ
name_of_64_codes_of_version_3_journal = codes "journal 3 0 0" ++ 10 ∷ [] ++ codes "start 10 0 10 atom_from([97,97,97,97,97,97,97,97,97,97,97,97,97,97,97,97,97,97,97,97,97,97,97,97,97,97,97,97,97,97,97,97,97,97,97,97,97,97,97,97,97,97,97,97,97,97,97,97,97,97,97,97,97,97,97,97,97,97,97,97,97,97,97,97],_1)" ++ 10 ∷ [] ++ codes "reduce 2 0" ++ 10 ∷ [] ++ codes "answer 1 2 true" ++ 10 ∷ []

-- the bytes of name_of_64_codes_of_version_3.expected
abbrev pub name_of_64_codes_of_version_3_output : List ℕ
name_of_64_codes_of_version_3_output = codes "+ shoen 1" ++ 10 ∷ [] ++ codes "+ reduced" ++ 10 ∷ [] ++ codes "fault 4" ++ 10 ∷ []

-- the bytes of name_that_is_missing.journal
abbrev pub name_that_is_missing_journal : List ℕ
name_that_is_missing_journal = codes "journal 1 0 1" ++ 10 ∷ []

-- the bytes of name_that_is_missing.expected
abbrev pub name_that_is_missing_output : List ℕ
name_that_is_missing_output = codes "fault 2" ++ 10 ∷ []

-- the bytes of name_too_many.journal
abbrev pub name_too_many_journal : List ℕ
name_too_many_journal = codes "journal 1 0 0" ++ 10 ∷ [] ++ codes "name e" ++ 10 ∷ []

-- the bytes of name_too_many.expected
abbrev pub name_too_many_output : List ℕ
name_too_many_output = codes "fault 2" ++ 10 ∷ []

-- the bytes of name_twice.journal
abbrev pub name_twice_journal : List ℕ
name_twice_journal = codes "journal 1 0 2" ++ 10 ∷ [] ++ codes "name e" ++ 10 ∷ [] ++ codes "name e" ++ 10 ∷ []

-- the bytes of name_twice.expected
abbrev pub name_twice_output : List ℕ
name_twice_output = codes "fault 3" ++ 10 ∷ []

-- the bytes of name_with_a_return.journal
abbrev pub name_with_a_return_journal : List ℕ
name_with_a_return_journal = codes "journal 1 0 1" ++ 10 ∷ [] ++ codes "name e" ++ 13 ∷ [] ++ 10 ∷ []

-- the bytes of name_with_a_return.expected
abbrev pub name_with_a_return_output : List ℕ
name_with_a_return_output = codes "fault 2" ++ 10 ∷ []

-- the bytes of names_alone.journal
abbrev pub names_alone_journal : List ℕ
names_alone_journal = codes "journal 1 0 1" ++ 10 ∷ [] ++ codes "name e" ++ 10 ∷ []

-- the bytes of names_alone.expected
abbrev pub names_alone_output : List ℕ
names_alone_output = codes "+ end 0" ++ 10 ∷ []

-- the bytes of names_from_codes.journal
abbrev pub names_from_codes_journal : List ℕ
names_from_codes_journal = codes "journal 1 0 0" ++ 10 ∷ [] ++ codes "start 10 0 10 atom_from([104,105],_1)" ++ 10 ∷ [] ++ codes "reduce 2 0" ++ 10 ∷ [] ++ codes "start 10 0 10 '='(_1,'')" ++ 10 ∷ [] ++ codes "start 10 0 10 '='(_1,'[]'(a))" ++ 10 ∷ [] ++ codes "reduce 6 0" ++ 10 ∷ []

-- the bytes of names_from_codes.expected
abbrev pub names_from_codes_output : List ℕ
names_from_codes_output = codes "+ shoen 1" ++ 10 ∷ [] ++ codes "+ reduced" ++ 10 ∷ [] ++ codes "+ shoen 2" ++ 10 ∷ [] ++ codes "+ shoen 3" ++ 10 ∷ [] ++ codes "+ reduced" ++ 10 ∷ [] ++ codes "+ end 5" ++ 10 ∷ []

-- the bytes of names_in_quotes.journal
abbrev pub names_in_quotes_journal : List ℕ
names_in_quotes_journal = codes "journal 1 2 5" ++ 10 ∷ [] ++ codes "name 'A b'" ++ 10 ∷ [] ++ codes "name 'it''s'" ++ 10 ∷ [] ++ codes "name ''" ++ 10 ∷ [] ++ codes "name '_'" ++ 10 ∷ [] ++ codes "name x1" ++ 10 ∷ []

-- the bytes of names_in_quotes.expected
abbrev pub names_in_quotes_output : List ℕ
names_in_quotes_output = codes "+ end 0" ++ 10 ∷ []

-- the bytes of nothing.journal
abbrev pub nothing_journal : List ℕ
nothing_journal = []

-- the bytes of nothing.expected
abbrev pub nothing_output : List ℕ
nothing_output = codes "fault 1" ++ 10 ∷ []

-- the bytes of run_in_version_3.journal
abbrev pub run_in_version_3_journal : List ℕ
run_in_version_3_journal = codes "journal 3 0 0" ++ 10 ∷ [] ++ codes "load 3a2d206d6f64756c6520652e" ++ 10 ∷ [] ++ codes "start 9 0 9 ':='(_1,f(_2))" ++ 10 ∷ [] ++ codes "stop 1" ++ 10 ∷ [] ++ codes "resume 1" ++ 10 ∷ [] ++ codes "allow 1 5" ++ 10 ∷ [] ++ codes "abort 1" ++ 10 ∷ [] ++ codes "run 4" ++ 10 ∷ []

-- the bytes of run_in_version_3.expected
abbrev pub run_in_version_3_output : List ℕ
run_in_version_3_output = codes "+ loaded e" ++ 10 ∷ [] ++ codes "+ shoen 1" ++ 10 ∷ [] ++ codes "+ sent" ++ 10 ∷ [] ++ codes "+ sent" ++ 10 ∷ [] ++ codes "+ sent" ++ 10 ∷ [] ++ codes "+ sent" ++ 10 ∷ [] ++ codes "fault 8" ++ 10 ∷ []

-- the bytes of second_name_that_is_missing.journal
abbrev pub second_name_that_is_missing_journal : List ℕ
second_name_that_is_missing_journal = codes "journal 1 0 2" ++ 10 ∷ [] ++ codes "name e" ++ 10 ∷ []

-- the bytes of second_name_that_is_missing.expected
abbrev pub second_name_that_is_missing_output : List ℕ
second_name_that_is_missing_output = codes "fault 3" ++ 10 ∷ []

-- the bytes of start_and_reduction_of_version_2.journal
abbrev pub start_and_reduction_of_version_2_journal : List ℕ
start_and_reduction_of_version_2_journal = codes "journal 2 0 0" ++ 10 ∷ [] ++ codes "start 10 0 10 '='(_1,1)" ++ 10 ∷ [] ++ codes "reduce 2 0" ++ 10 ∷ []

-- the bytes of start_and_reduction_of_version_2.expected
abbrev pub start_and_reduction_of_version_2_output : List ℕ
start_and_reduction_of_version_2_output = codes "+ shoen 1" ++ 10 ∷ [] ++ codes "+ reduced" ++ 10 ∷ [] ++ codes "+ end 2" ++ 10 ∷ []

-- the bytes of start_and_reduction_of_version_3.journal
abbrev pub start_and_reduction_of_version_3_journal : List ℕ
start_and_reduction_of_version_3_journal = codes "journal 3 0 0" ++ 10 ∷ [] ++ codes "start 10 0 10 '='(_1,1)" ++ 10 ∷ [] ++ codes "reduce 2 0" ++ 10 ∷ []

-- the bytes of start_and_reduction_of_version_3.expected
abbrev pub start_and_reduction_of_version_3_output : List ℕ
start_and_reduction_of_version_3_output = codes "+ shoen 1" ++ 10 ∷ [] ++ codes "+ reduced" ++ 10 ∷ [] ++ codes "+ end 2" ++ 10 ∷ []

-- the bytes of too_many_names_told.journal
abbrev pub too_many_names_told_journal : List ℕ
too_many_names_told_journal = codes "journal 1 0 1025" ++ 10 ∷ []

-- the bytes of too_many_names_told.expected
abbrev pub too_many_names_told_output : List ℕ
too_many_names_told_output = codes "fault 1" ++ 10 ∷ []

-- the bytes of two_headings.journal
abbrev pub two_headings_journal : List ℕ
two_headings_journal = codes "journal 1 0 0" ++ 10 ∷ [] ++ codes "journal 1 0 0" ++ 10 ∷ []

-- the bytes of two_headings.expected
abbrev pub two_headings_output : List ℕ
two_headings_output = codes "fault 2" ++ 10 ∷ []

-- the bytes of version_with_a_leading_zero.journal
abbrev pub version_with_a_leading_zero_journal : List ℕ
version_with_a_leading_zero_journal = codes "journal 01 0 0" ++ 10 ∷ []

-- the bytes of version_with_a_leading_zero.expected
abbrev pub version_with_a_leading_zero_output : List ℕ
version_with_a_leading_zero_output = codes "fault 1" ++ 10 ∷ []

-- each of these example journals has the output that stands beside it
pub record HeadingJournalsHold : Type 0 where
  pub answer_in_version_1 : replay_output answer_in_version_1_journal ≡ answer_in_version_1_output
  pub built_in_name : replay_output built_in_name_journal ≡ built_in_name_output
  pub empty_list_as_a_name : replay_output empty_list_as_a_name_journal ≡ empty_list_as_a_name_output
  pub entries_without_a_heading : replay_output entries_without_a_heading_journal ≡ entries_without_a_heading_output
  pub entry_in_place_of_a_name : replay_output entry_in_place_of_a_name_journal ≡ entry_in_place_of_a_name_output
  pub exception_in_version_1 : replay_output exception_in_version_1_journal ≡ exception_in_version_1_output
  pub five_sessions : replay_output five_sessions_journal ≡ five_sessions_output
  pub four_sessions : replay_output four_sessions_journal ≡ four_sessions_output
  pub goal_with_a_name_in_quotes : replay_output goal_with_a_name_in_quotes_journal ≡ goal_with_a_name_in_quotes_output
  pub heading_after_a_blank : replay_output heading_after_a_blank_journal ≡ heading_after_a_blank_output
  pub heading_alone : replay_output heading_alone_journal ≡ heading_alone_output
  pub heading_of_four_numbers : replay_output heading_of_four_numbers_journal ≡ heading_of_four_numbers_output
  pub heading_of_two_numbers : replay_output heading_of_two_numbers_journal ≡ heading_of_two_numbers_output
  pub heading_with_a_blank_at_its_end : replay_output heading_with_a_blank_at_its_end_journal ≡ heading_with_a_blank_at_its_end_output
  pub heading_with_a_leading_zero : replay_output heading_with_a_leading_zero_journal ≡ heading_with_a_leading_zero_output
  pub heading_with_a_return : replay_output heading_with_a_return_journal ≡ heading_with_a_return_output
  pub heading_with_a_tab : replay_output heading_with_a_tab_journal ≡ heading_with_a_tab_output
  pub heading_with_two_blanks : replay_output heading_with_two_blanks_journal ≡ heading_with_two_blanks_output
  pub heading_without_a_feed : replay_output heading_without_a_feed_journal ≡ heading_without_a_feed_output
  pub later_version : replay_output later_version_journal ≡ later_version_output
  pub load_of_nothing : replay_output load_of_nothing_journal ≡ load_of_nothing_output
  pub many_names_told : replay_output many_names_told_journal ≡ many_names_told_output
  pub name_of_127_bytes : replay_output name_of_127_bytes_journal ≡ name_of_127_bytes_output
  pub name_of_128_bytes : replay_output name_of_128_bytes_journal ≡ name_of_128_bytes_output
  pub name_of_64_codes_of_version_2 : replay_output name_of_64_codes_of_version_2_journal ≡ name_of_64_codes_of_version_2_output
  pub name_of_64_codes_of_version_3 : replay_output name_of_64_codes_of_version_3_journal ≡ name_of_64_codes_of_version_3_output
  pub name_that_is_missing : replay_output name_that_is_missing_journal ≡ name_that_is_missing_output
  pub name_too_many : replay_output name_too_many_journal ≡ name_too_many_output
  pub name_twice : replay_output name_twice_journal ≡ name_twice_output
  pub name_with_a_return : replay_output name_with_a_return_journal ≡ name_with_a_return_output
  pub names_alone : replay_output names_alone_journal ≡ names_alone_output
  pub names_from_codes : replay_output names_from_codes_journal ≡ names_from_codes_output
  pub names_in_quotes : replay_output names_in_quotes_journal ≡ names_in_quotes_output
  pub nothing : replay_output nothing_journal ≡ nothing_output
  pub run_in_version_3 : replay_output run_in_version_3_journal ≡ run_in_version_3_output
  pub second_name_that_is_missing : replay_output second_name_that_is_missing_journal ≡ second_name_that_is_missing_output
  pub start_and_reduction_of_version_2 : replay_output start_and_reduction_of_version_2_journal ≡ start_and_reduction_of_version_2_output
  pub start_and_reduction_of_version_3 : replay_output start_and_reduction_of_version_3_journal ≡ start_and_reduction_of_version_3_output
  pub too_many_names_told : replay_output too_many_names_told_journal ≡ too_many_names_told_output
  pub two_headings : replay_output two_headings_journal ≡ two_headings_output
  pub version_with_a_leading_zero : replay_output version_with_a_leading_zero_journal ≡ version_with_a_leading_zero_output
