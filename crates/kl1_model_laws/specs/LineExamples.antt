-- The example scripts with what is written for them. Made by tools/examples_as_definitions from examples/scripts.
use Rattle.std.specs.Prelude.{◌≡◌, ℕ, List, [], ◌∷◌, ◌++◌, codes}
use Rattle.kl1_model_server.specs.Script.{output}

-- the bytes of account_name_of_16_bytes.script
abbrev pub account_name_of_16_bytes_script : List ℕ
account_name_of_16_bytes_script = codes "accounts abcdefghijklmno1" ++ 10 ∷ [] ++ codes "abcdefghijklmno1 run 0" ++ 10 ∷ []

-- the bytes of account_name_of_16_bytes.expected
abbrev pub account_name_of_16_bytes_output : List ℕ
account_name_of_16_bytes_output = codes "abcdefghijklmno1 + 0" ++ 10 ∷ []

-- the bytes of account_name_of_17_bytes.script
abbrev pub account_name_of_17_bytes_script : List ℕ
account_name_of_17_bytes_script = codes "accounts abcdefghijklmnopq" ++ 10 ∷ [] ++ codes "abcdefghijklmnopq run 0" ++ 10 ∷ []

-- the bytes of account_name_of_17_bytes.expected
abbrev pub account_name_of_17_bytes_output : List ℕ
account_name_of_17_bytes_output = codes "! accounts" ++ 10 ∷ []

-- the bytes of account_with_a_capital.script
abbrev pub account_with_a_capital_script : List ℕ
account_with_a_capital_script = codes "accounts Alice" ++ 10 ∷ [] ++ codes "Alice run 0" ++ 10 ∷ []

-- the bytes of account_with_a_capital.expected
abbrev pub account_with_a_capital_output : List ℕ
account_with_a_capital_output = codes "! accounts" ++ 10 ∷ []

-- the bytes of accounts_alone.script
abbrev pub accounts_alone_script : List ℕ
accounts_alone_script = codes "accounts" ++ 10 ∷ [] ++ codes "alice run 0" ++ 10 ∷ []

-- the bytes of accounts_alone.expected
abbrev pub accounts_alone_output : List ℕ
accounts_alone_output = codes "! accounts" ++ 10 ∷ []

-- the bytes of alice_beside_a_runaway_account.script
abbrev pub alice_beside_a_runaway_account_script : List ℕ
alice_beside_a_runaway_account_script = codes "accounts alice bob" ++ 10 ∷ [] ++ codes "bob load 30" ++ 10 ∷ [] ++ codes ":- module r." ++ 10 ∷ [] ++ codes "r :- true | r, r." ++ 10 ∷ [] ++ codes "alice load 91" ++ 10 ∷ [] ++ codes ":- module app." ++ 10 ∷ [] ++ codes "app([],Y,Z) :- true | Z = Y." ++ 10 ∷ [] ++ codes "app([A|X],Y,Z) :- true | Z = [A|W], app(X,Y,W)." ++ 10 ∷ [] ++ codes "bob start 100 0 10 r:r" ++ 10 ∷ [] ++ codes "alice start 100 0 10 app:app([1],[2],R)" ++ 10 ∷ [] ++ codes "bob run 9" ++ 10 ∷ [] ++ codes "alice run 2" ++ 10 ∷ [] ++ codes "bob start 9 0 9 zeta = [a,b,c,d,e,f,g]" ++ 10 ∷ [] ++ codes "alice start 9 0 9 X = zeta" ++ 10 ∷ [] ++ codes "bob abort 1" ++ 10 ∷ [] ++ codes "alice run 100" ++ 10 ∷ [] ++ codes "bob run 9" ++ 10 ∷ [] ++ codes "alice value 1" ++ 10 ∷ [] ++ codes "bob reports 2 2" ++ 10 ∷ [] ++ codes "alice value 2" ++ 10 ∷ [] ++ codes "bob reset" ++ 10 ∷ [] ++ codes "alice status 1" ++ 10 ∷ [] ++ codes "bob status 1" ++ 10 ∷ [] ++ codes "alice quiet" ++ 10 ∷ []

-- the bytes of alice_beside_a_runaway_account.expected
abbrev pub alice_beside_a_runaway_account_output : List ℕ
alice_beside_a_runaway_account_output = codes "bob + loaded r" ++ 10 ∷ [] ++ codes "alice + loaded app" ++ 10 ∷ [] ++ codes "bob + shoen 1" ++ 10 ∷ [] ++ codes "alice + shoen 1" ++ 10 ∷ [] ++ codes "bob + 9" ++ 10 ∷ [] ++ codes "alice + 2" ++ 10 ∷ [] ++ codes "bob + shoen 2" ++ 10 ∷ [] ++ codes "alice + shoen 2" ++ 10 ∷ [] ++ codes "bob + sent" ++ 10 ∷ [] ++ codes "alice + 3" ++ 10 ∷ [] ++ codes "bob + 2" ++ 10 ∷ [] ++ codes "alice + app:app([1],[2],[1,2])" ++ 10 ∷ [] ++ codes "bob + 1" ++ 10 ∷ [] ++ codes "bob exception(failure,'='(zeta,[a,b,c,d,e,f,g]),_9)" ++ 10 ∷ [] ++ codes "alice + '='(zeta,zeta)" ++ 10 ∷ [] ++ codes "bob + reset" ++ 10 ∷ [] ++ codes "alice + terminated 4 100 0" ++ 10 ∷ [] ++ codes "bob - 4 noshoen" ++ 10 ∷ [] ++ codes "alice + yes" ++ 10 ∷ []

-- the bytes of alice_by_herself.script
abbrev pub alice_by_herself_script : List ℕ
alice_by_herself_script = codes "accounts alice bob" ++ 10 ∷ [] ++ codes "alice load 91" ++ 10 ∷ [] ++ codes ":- module app." ++ 10 ∷ [] ++ codes "app([],Y,Z) :- true | Z = Y." ++ 10 ∷ [] ++ codes "app([A|X],Y,Z) :- true | Z = [A|W], app(X,Y,W)." ++ 10 ∷ [] ++ codes "alice start 100 0 10 app:app([1],[2],R)" ++ 10 ∷ [] ++ codes "alice run 2" ++ 10 ∷ [] ++ codes "alice start 9 0 9 X = zeta" ++ 10 ∷ [] ++ codes "alice run 100" ++ 10 ∷ [] ++ codes "alice value 1" ++ 10 ∷ [] ++ codes "alice value 2" ++ 10 ∷ [] ++ codes "alice status 1" ++ 10 ∷ [] ++ codes "alice quiet" ++ 10 ∷ []

-- the bytes of alice_by_herself.expected
abbrev pub alice_by_herself_output : List ℕ
alice_by_herself_output = codes "alice + loaded app" ++ 10 ∷ [] ++ codes "alice + shoen 1" ++ 10 ∷ [] ++ codes "alice + 2" ++ 10 ∷ [] ++ codes "alice + shoen 2" ++ 10 ∷ [] ++ codes "alice + 3" ++ 10 ∷ [] ++ codes "alice + app:app([1],[2],[1,2])" ++ 10 ∷ [] ++ codes "alice + '='(zeta,zeta)" ++ 10 ∷ [] ++ codes "alice + terminated 4 100 0" ++ 10 ∷ [] ++ codes "alice + yes" ++ 10 ∷ []

-- the bytes of append_beside_another_account.script
abbrev pub append_beside_another_account_script : List ℕ
append_beside_another_account_script = codes "accounts alice bob" ++ 10 ∷ [] ++ codes "alice load 91" ++ 10 ∷ [] ++ codes ":- module app." ++ 10 ∷ [] ++ codes "app([],Y,Z) :- true | Z = Y." ++ 10 ∷ [] ++ codes "app([A|X],Y,Z) :- true | Z = [A|W], app(X,Y,W)." ++ 10 ∷ [] ++ codes "bob load 91" ++ 10 ∷ [] ++ codes ":- module app." ++ 10 ∷ [] ++ codes "app([],Y,Z) :- true | Z = Y." ++ 10 ∷ [] ++ codes "app([A|X],Y,Z) :- true | Z = [A|W], app(X,Y,W)." ++ 10 ∷ [] ++ codes "alice start 100 0 10 app:app([1],[2],R)" ++ 10 ∷ [] ++ codes "bob start 100 0 10 app:app([],[a],R)" ++ 10 ∷ [] ++ codes "alice run 1" ++ 10 ∷ [] ++ codes "bob run 100" ++ 10 ∷ [] ++ codes "alice run 99" ++ 10 ∷ [] ++ codes "alice value 1" ++ 10 ∷ [] ++ codes "bob value 1" ++ 10 ∷ [] ++ codes "alice status 1" ++ 10 ∷ [] ++ codes "bob status 1" ++ 10 ∷ []

-- the bytes of append_beside_another_account.expected
abbrev pub append_beside_another_account_output : List ℕ
append_beside_another_account_output = codes "alice + loaded app" ++ 10 ∷ [] ++ codes "bob + loaded app" ++ 10 ∷ [] ++ codes "alice + shoen 1" ++ 10 ∷ [] ++ codes "bob + shoen 1" ++ 10 ∷ [] ++ codes "alice + 1" ++ 10 ∷ [] ++ codes "bob + 2" ++ 10 ∷ [] ++ codes "alice + 3" ++ 10 ∷ [] ++ codes "alice + app:app([1],[2],[1,2])" ++ 10 ∷ [] ++ codes "bob + app:app([],[a],[a])" ++ 10 ∷ [] ++ codes "alice + terminated 4 100 0" ++ 10 ∷ [] ++ codes "bob + terminated 2 100 0" ++ 10 ∷ []

-- the bytes of bad_load_lines.script
abbrev pub bad_load_lines_script : List ℕ
bad_load_lines_script = codes "accounts alice bob" ++ 10 ∷ [] ++ codes "alice load 65537" ++ 10 ∷ [] ++ codes "alice load" ++ 10 ∷ [] ++ codes "alice load 1 2" ++ 10 ∷ [] ++ codes "alice load 00000000000000000012" ++ 10 ∷ [] ++ codes "alice load 12                                                                                                                                                                                                                                                                                                                                                                                                                                                                                                                                                                                                                                                                                                                                                                                                                                                                                                                                                                                                                                                                                                                                                                                                                                                                                                                                                                                                                                                                                                                                                                                                                                                                                                                                                                                                                                                                                                                                                                                                                                                                                                                                                                                                                                                                                                                                                                                                                                                                                                                                                                                                                                                                                                                                                                                                                                                                                                                                                                                                                                                                                                                                                                                                                                                                                                                                                                                                                                                                                                                                                                                                                                                                                                                                                                                                                                                                                                                                                                                                                                                                                                                                                                                                                                                          " ++ 10 ∷ [] ++ codes "alice run 0" ++ 10 ∷ []

-- the bytes of bad_load_lines.expected
abbrev pub bad_load_lines_output : List ℕ
bad_load_lines_output = codes "alice - 1 syntax" ++ 10 ∷ [] ++ codes "alice - 1 syntax" ++ 10 ∷ [] ++ codes "alice - 1 syntax" ++ 10 ∷ [] ++ codes "alice - 1 syntax" ++ 10 ∷ [] ++ codes "alice - 1 syntax" ++ 10 ∷ [] ++ codes "alice + 0" ++ 10 ∷ []

-- the bytes of bad_source.script
abbrev pub bad_source_script : List ℕ
bad_source_script = codes "accounts alice" ++ 10 ∷ [] ++ codes "alice load 34" ++ 10 ∷ [] ++ codes ":- module z." ++ 10 ∷ [] ++ codes "p(X) :- Y > 0 | true." ++ 10 ∷ []

-- the bytes of bad_source.expected
abbrev pub bad_source_output : List ℕ
bad_source_output = codes "alice - 2 source 2" ++ 10 ∷ []

-- the bytes of blank_first_line.script
abbrev pub blank_first_line_script : List ℕ
blank_first_line_script = 10 ∷ [] ++ codes "accounts alice" ++ 10 ∷ []

-- the bytes of blank_first_line.expected
abbrev pub blank_first_line_output : List ℕ
blank_first_line_output = codes "! accounts" ++ 10 ∷ []

-- the bytes of blank_lines.script
abbrev pub blank_lines_script : List ℕ
blank_lines_script = codes "accounts alice bob" ++ 10 ∷ [] ++ 10 ∷ [] ++ codes "   " ++ 10 ∷ [] ++ 9 ∷ [] ++ codes " " ++ 9 ∷ [] ++ 10 ∷ [] ++ codes " " ++ 13 ∷ [] ++ 10 ∷ [] ++ 13 ∷ [] ++ 13 ∷ [] ++ 10 ∷ [] ++ codes "alice run 0" ++ 10 ∷ []

-- the bytes of blank_lines.expected
abbrev pub blank_lines_output : List ℕ
blank_lines_output = codes "! account" ++ 10 ∷ [] ++ codes "alice + 0" ++ 10 ∷ []

-- the bytes of blanks_between_accounts.script
abbrev pub blanks_between_accounts_script : List ℕ
blanks_between_accounts_script = 9 ∷ [] ++ codes "accounts  alice" ++ 9 ∷ [] ++ codes "bob " ++ 13 ∷ [] ++ 10 ∷ [] ++ codes "alice run 0" ++ 10 ∷ []

-- the bytes of blanks_between_accounts.expected
abbrev pub blanks_between_accounts_output : List ℕ
blanks_between_accounts_output = codes "alice + 0" ++ 10 ∷ []

-- the bytes of bytes_behind_a_load.script
abbrev pub bytes_behind_a_load_script : List ℕ
bytes_behind_a_load_script = codes "accounts alice bob" ++ 10 ∷ [] ++ codes "alice load 12" ++ 10 ∷ [] ++ codes ":- module e.x" ++ 10 ∷ [] ++ codes "alice load 12" ++ 10 ∷ [] ++ codes ":- module e." ++ 13 ∷ [] ++ 13 ∷ [] ++ 10 ∷ [] ++ codes "alice load 12" ++ 10 ∷ [] ++ codes ":- module e. " ++ 10 ∷ [] ++ codes "alice load 12" ++ 13 ∷ [] ++ 10 ∷ [] ++ codes ":- module e." ++ 13 ∷ [] ++ 10 ∷ [] ++ codes "alice run 0" ++ 10 ∷ []

-- the bytes of bytes_behind_a_load.expected
abbrev pub bytes_behind_a_load_output : List ℕ
bytes_behind_a_load_output = codes "alice - 1 syntax" ++ 10 ∷ [] ++ codes "alice - 1 syntax" ++ 10 ∷ [] ++ codes "alice - 1 syntax" ++ 10 ∷ [] ++ codes "alice + loaded e" ++ 10 ∷ [] ++ codes "alice + 0" ++ 10 ∷ []

-- the bytes of commands_that_are_none.script
abbrev pub commands_that_are_none_script : List ℕ
commands_that_are_none_script = codes "accounts alice bob" ++ 10 ∷ [] ++ codes "alice quiet now" ++ 10 ∷ [] ++ codes "alice modules now" ++ 10 ∷ [] ++ codes "alice status" ++ 10 ∷ [] ++ codes "alice reduce 2" ++ 10 ∷ [] ++ codes "alice login k1" ++ 10 ∷ [] ++ codes "alice login alice k1" ++ 10 ∷ [] ++ codes "alice logout now" ++ 10 ∷ [] ++ codes "alice reset now" ++ 10 ∷ [] ++ codes "alice journal" ++ 10 ∷ [] ++ codes "alice journal 1" ++ 10 ∷ [] ++ codes "alice journal 0 1" ++ 10 ∷ [] ++ codes "alice journal 1 0" ++ 10 ∷ [] ++ codes "alice journal 1 65" ++ 10 ∷ [] ++ codes "alice journal 1 1 1" ++ 10 ∷ [] ++ codes "alice RUN 1" ++ 10 ∷ []

-- the bytes of commands_that_are_none.expected
abbrev pub commands_that_are_none_output : List ℕ
commands_that_are_none_output = codes "alice - 1 syntax" ++ 10 ∷ [] ++ codes "alice - 1 syntax" ++ 10 ∷ [] ++ codes "alice - 1 syntax" ++ 10 ∷ [] ++ codes "alice - 1 syntax" ++ 10 ∷ [] ++ codes "alice - 1 syntax" ++ 10 ∷ [] ++ codes "alice - 1 syntax" ++ 10 ∷ [] ++ codes "alice - 1 syntax" ++ 10 ∷ [] ++ codes "alice - 1 syntax" ++ 10 ∷ [] ++ codes "alice - 1 syntax" ++ 10 ∷ [] ++ codes "alice - 1 syntax" ++ 10 ∷ [] ++ codes "alice - 1 syntax" ++ 10 ∷ [] ++ codes "alice - 1 syntax" ++ 10 ∷ [] ++ codes "alice - 1 syntax" ++ 10 ∷ [] ++ codes "alice - 1 syntax" ++ 10 ∷ [] ++ codes "alice - 1 syntax" ++ 10 ∷ []

-- the bytes of doubled_account.script
abbrev pub doubled_account_script : List ℕ
doubled_account_script = codes "accounts alice bob alice" ++ 10 ∷ [] ++ codes "alice run 0" ++ 10 ∷ []

-- the bytes of doubled_account.expected
abbrev pub doubled_account_output : List ℕ
doubled_account_output = codes "! accounts" ++ 10 ∷ []

-- the bytes of four_sessions.script
abbrev pub four_sessions_script : List ℕ
four_sessions_script = codes "accounts alice bob" ++ 10 ∷ [] ++ codes "alice login" ++ 10 ∷ [] ++ codes "alice login" ++ 10 ∷ [] ++ codes "alice login" ++ 10 ∷ [] ++ codes "alice login" ++ 10 ∷ [] ++ codes "alice login" ++ 10 ∷ [] ++ codes "bob logout" ++ 10 ∷ [] ++ codes "alice logout" ++ 10 ∷ [] ++ codes "alice logout" ++ 10 ∷ [] ++ codes "alice logout" ++ 10 ∷ [] ++ codes "alice logout" ++ 10 ∷ [] ++ codes "alice logout" ++ 10 ∷ []

-- the bytes of four_sessions.expected
abbrev pub four_sessions_output : List ℕ
four_sessions_output = codes "alice + welcome alice" ++ 10 ∷ [] ++ codes "alice + welcome alice" ++ 10 ∷ [] ++ codes "alice + welcome alice" ++ 10 ∷ [] ++ codes "alice + welcome alice" ++ 10 ∷ [] ++ codes "alice - 12 sessions" ++ 10 ∷ [] ++ codes "bob - 12 sessions" ++ 10 ∷ [] ++ codes "alice + bye" ++ 10 ∷ [] ++ codes "alice + bye" ++ 10 ∷ [] ++ codes "alice + bye" ++ 10 ∷ [] ++ codes "alice + bye" ++ 10 ∷ [] ++ codes "alice - 12 sessions" ++ 10 ∷ []

-- the bytes of integers_are_no_atoms.script
abbrev pub integers_are_no_atoms_script : List ℕ
integers_are_no_atoms_script = codes "accounts alice bob" ++ 10 ∷ [] ++ codes "alice load 62" ++ 10 ∷ [] ++ codes ":- module t." ++ 10 ∷ [] ++ codes "p(1,R) :- true | R = i." ++ 10 ∷ [] ++ codes "p('1',R) :- true | R = a." ++ 10 ∷ [] ++ codes "alice start 9 0 9 t:p('1',R)" ++ 10 ∷ [] ++ codes "alice start 9 0 9 t:p(01,R)" ++ 10 ∷ [] ++ codes "alice run 20" ++ 10 ∷ [] ++ codes "alice value 1" ++ 10 ∷ [] ++ codes "alice value 2" ++ 10 ∷ []

-- the bytes of integers_are_no_atoms.expected
abbrev pub integers_are_no_atoms_output : List ℕ
integers_are_no_atoms_output = codes "alice + loaded t" ++ 10 ∷ [] ++ codes "alice + shoen 1" ++ 10 ∷ [] ++ codes "alice + shoen 2" ++ 10 ∷ [] ++ codes "alice + 4" ++ 10 ∷ [] ++ codes "alice + t:p('1',a)" ++ 10 ∷ [] ++ codes "alice + t:p(1,i)" ++ 10 ∷ []

-- the bytes of journal_by_pages.script
abbrev pub journal_by_pages_script : List ℕ
journal_by_pages_script = codes "accounts alice bob" ++ 10 ∷ [] ++ codes "alice start 9 0 9 true" ++ 10 ∷ [] ++ codes "alice start 8 0 9 true" ++ 10 ∷ [] ++ codes "alice run 2" ++ 10 ∷ [] ++ codes "alice journal 1 1" ++ 10 ∷ [] ++ codes "alice journal 2 2" ++ 10 ∷ [] ++ codes "alice journal 4 64" ++ 10 ∷ [] ++ codes "alice journal 5 1" ++ 10 ∷ [] ++ codes "alice journal 6 64" ++ 10 ∷ [] ++ codes "alice journal 9223372036854775807 1" ++ 10 ∷ []

-- the bytes of journal_by_pages.expected
abbrev pub journal_by_pages_output : List ℕ
journal_by_pages_output = codes "alice + shoen 1" ++ 10 ∷ [] ++ codes "alice + shoen 2" ++ 10 ∷ [] ++ codes "alice + 2" ++ 10 ∷ [] ++ codes "alice + 1" ++ 10 ∷ [] ++ codes "alice journal 3 0 0" ++ 10 ∷ [] ++ codes "alice + 2" ++ 10 ∷ [] ++ codes "alice start 9 0 9 true" ++ 10 ∷ [] ++ codes "alice start 8 0 9 true" ++ 10 ∷ [] ++ codes "alice + 2" ++ 10 ∷ [] ++ codes "alice reduce 2 0" ++ 10 ∷ [] ++ codes "alice reduce 4 0" ++ 10 ∷ [] ++ codes "alice + 1" ++ 10 ∷ [] ++ codes "alice reduce 4 0" ++ 10 ∷ [] ++ codes "alice + 0" ++ 10 ∷ [] ++ codes "alice + 0" ++ 10 ∷ []

-- the bytes of journal_names_in_quotes.script
abbrev pub journal_names_in_quotes_script : List ℕ
journal_names_in_quotes_script = codes "accounts alice bob" ++ 10 ∷ [] ++ codes "alice start 1 0 1 f('A b','it''s') = ''('_',x1)" ++ 10 ∷ [] ++ codes "alice reset" ++ 10 ∷ [] ++ codes "alice journal 1 64" ++ 10 ∷ []

-- the bytes of journal_names_in_quotes.expected
abbrev pub journal_names_in_quotes_output : List ℕ
journal_names_in_quotes_output = codes "alice + shoen 1" ++ 10 ∷ [] ++ codes "alice + reset" ++ 10 ∷ [] ++ codes "alice + 7" ++ 10 ∷ [] ++ codes "alice journal 3 0 6" ++ 10 ∷ [] ++ codes "alice name f" ++ 10 ∷ [] ++ codes "alice name 'A b'" ++ 10 ∷ [] ++ codes "alice name 'it''s'" ++ 10 ∷ [] ++ codes "alice name ''" ++ 10 ∷ [] ++ codes "alice name '_'" ++ 10 ∷ [] ++ codes "alice name x1" ++ 10 ∷ []

-- the bytes of journal_of_a_start.script
abbrev pub journal_of_a_start_script : List ℕ
journal_of_a_start_script = codes "accounts alice bob" ++ 10 ∷ [] ++ codes "alice start 10 0 10 X = 1" ++ 10 ∷ [] ++ codes "alice run 10" ++ 10 ∷ [] ++ codes "alice journal 1 64" ++ 10 ∷ [] ++ codes "bob journal 1 64" ++ 10 ∷ []

-- the bytes of journal_of_a_start.expected
abbrev pub journal_of_a_start_output : List ℕ
journal_of_a_start_output = codes "alice + shoen 1" ++ 10 ∷ [] ++ codes "alice + 1" ++ 10 ∷ [] ++ codes "alice + 3" ++ 10 ∷ [] ++ codes "alice journal 3 0 0" ++ 10 ∷ [] ++ codes "alice start 10 0 10 '='(_1,1)" ++ 10 ∷ [] ++ codes "alice reduce 2 0" ++ 10 ∷ [] ++ codes "bob + 1" ++ 10 ∷ [] ++ codes "bob journal 3 0 0" ++ 10 ∷ []

-- the bytes of journal_of_each_event.script
abbrev pub journal_of_each_event_script : List ℕ
journal_of_each_event_script = codes "accounts alice bob" ++ 10 ∷ [] ++ codes "alice load 12" ++ 10 ∷ [] ++ codes ":- module e." ++ 10 ∷ [] ++ codes "alice load 12" ++ 10 ∷ [] ++ codes ":- module e." ++ 10 ∷ [] ++ codes "alice start 9 0 9 X := Y" ++ 10 ∷ [] ++ codes "alice stop 1" ++ 10 ∷ [] ++ codes "alice resume 1" ++ 10 ∷ [] ++ codes "alice allow 1 5" ++ 10 ∷ [] ++ codes "alice abort 1" ++ 10 ∷ [] ++ codes "alice status 1" ++ 10 ∷ [] ++ codes "alice login" ++ 10 ∷ [] ++ codes "alice run 9" ++ 10 ∷ [] ++ codes "alice stop 1" ++ 10 ∷ [] ++ codes "alice stop 2" ++ 10 ∷ [] ++ codes "alice journal 1 64" ++ 10 ∷ []

-- the bytes of journal_of_each_event.expected
abbrev pub journal_of_each_event_output : List ℕ
journal_of_each_event_output = codes "alice + loaded e" ++ 10 ∷ [] ++ codes "alice - 3 exists" ++ 10 ∷ [] ++ codes "alice + shoen 1" ++ 10 ∷ [] ++ codes "alice + sent" ++ 10 ∷ [] ++ codes "alice + sent" ++ 10 ∷ [] ++ codes "alice + sent" ++ 10 ∷ [] ++ codes "alice + sent" ++ 10 ∷ [] ++ codes "alice + running 0 9 1" ++ 10 ∷ [] ++ codes "alice + welcome alice" ++ 10 ∷ [] ++ codes "alice + 4" ++ 10 ∷ [] ++ codes "alice - 5 ended" ++ 10 ∷ [] ++ codes "alice - 4 noshoen" ++ 10 ∷ [] ++ codes "alice + 11" ++ 10 ∷ [] ++ codes "alice journal 3 1 0" ++ 10 ∷ [] ++ codes "alice load 3a2d206d6f64756c6520652e" ++ 10 ∷ [] ++ codes "alice start 9 0 9 ':='(_1,_2)" ++ 10 ∷ [] ++ codes "alice stop 1" ++ 10 ∷ [] ++ codes "alice resume 1" ++ 10 ∷ [] ++ codes "alice allow 1 5" ++ 10 ∷ [] ++ codes "alice abort 1" ++ 10 ∷ [] ++ codes "alice reduce 1 0" ++ 10 ∷ [] ++ codes "alice reduce 1 0" ++ 10 ∷ [] ++ codes "alice reduce 1 0" ++ 10 ∷ [] ++ codes "alice reduce 1 0" ++ 10 ∷ []

-- the bytes of journal_of_reductions.script
abbrev pub journal_of_reductions_script : List ℕ
journal_of_reductions_script = codes "accounts alice bob" ++ 10 ∷ [] ++ codes "alice load 81" ++ 10 ∷ [] ++ codes ":- module k." ++ 10 ∷ [] ++ codes "g :- true | h(a)@priority(1), h(b)@priority(9)." ++ 10 ∷ [] ++ codes "h(X) :- true | true." ++ 10 ∷ [] ++ codes "alice start 10 0 10 k:g" ++ 10 ∷ [] ++ codes "alice run 2" ++ 10 ∷ [] ++ codes "alice journal 4 64" ++ 10 ∷ []

-- the bytes of journal_of_reductions.expected
abbrev pub journal_of_reductions_output : List ℕ
journal_of_reductions_output = codes "alice + loaded k" ++ 10 ∷ [] ++ codes "alice + shoen 1" ++ 10 ∷ [] ++ codes "alice + 2" ++ 10 ∷ [] ++ codes "alice + 2" ++ 10 ∷ [] ++ codes "alice reduce 2 1" ++ 10 ∷ [] ++ codes "alice reduce 4 1" ++ 10 ∷ []

-- the bytes of journal_prints_goals.script
abbrev pub journal_prints_goals_script : List ℕ
journal_prints_goals_script = codes "accounts alice bob" ++ 10 ∷ [] ++ codes "alice start 5 1 7 f(X,Y,X) = g('A b',[1,2|T])" ++ 10 ∷ [] ++ codes "alice start 007 0 1 X := -3 + 4 * Y" ++ 10 ∷ [] ++ codes "alice start 1 0 1 m:p(a,'it''s')" ++ 10 ∷ [] ++ codes "alice start 1 0 1 m:'p'" ++ 10 ∷ [] ++ codes "alice start 1 0 1 shoen:execute(M:P,0,1,2,C,R)" ++ 10 ∷ [] ++ codes "alice start 1 0 1 ( true )" ++ 10 ∷ [] ++ codes "alice start 1 0 1 X = '[]'(a,'[]')" ++ 10 ∷ [] ++ codes "alice start 1 0 1 _ = _" ++ 10 ∷ [] ++ codes "alice start 1 0 1 m:[]" ++ 10 ∷ [] ++ codes "alice journal 2 64" ++ 10 ∷ []

-- the bytes of journal_prints_goals.expected
abbrev pub journal_prints_goals_output : List ℕ
journal_prints_goals_output = codes "alice + shoen 1" ++ 10 ∷ [] ++ codes "alice + shoen 2" ++ 10 ∷ [] ++ codes "alice + shoen 3" ++ 10 ∷ [] ++ codes "alice + shoen 4" ++ 10 ∷ [] ++ codes "alice + shoen 5" ++ 10 ∷ [] ++ codes "alice + shoen 6" ++ 10 ∷ [] ++ codes "alice + shoen 7" ++ 10 ∷ [] ++ codes "alice + shoen 8" ++ 10 ∷ [] ++ codes "alice + shoen 9" ++ 10 ∷ [] ++ codes "alice + 9" ++ 10 ∷ [] ++ codes "alice start 5 1 7 '='(f(_1,_2,_1),g('A b',[1,2|_3]))" ++ 10 ∷ [] ++ codes "alice start 7 0 1 ':='(_1,'+'(-3,'*'(4,_2)))" ++ 10 ∷ [] ++ codes "alice start 1 0 1 m:p(a,'it''s')" ++ 10 ∷ [] ++ codes "alice start 1 0 1 m:p" ++ 10 ∷ [] ++ codes "alice start 1 0 1 shoen:execute(':'(_1,_2),0,1,2,_3,_4)" ++ 10 ∷ [] ++ codes "alice start 1 0 1 true" ++ 10 ∷ [] ++ codes "alice start 1 0 1 '='(_1,'[]'(a,[]))" ++ 10 ∷ [] ++ codes "alice start 1 0 1 '='(_1,_2)" ++ 10 ∷ [] ++ codes "alice start 1 0 1 m:[]" ++ 10 ∷ []

-- the bytes of last_line_without_a_feed.script
abbrev pub last_line_without_a_feed_script : List ℕ
last_line_without_a_feed_script = codes "accounts alice bob" ++ 10 ∷ [] ++ codes "alice run 0" ++ 13 ∷ []

-- the bytes of last_line_without_a_feed.expected
abbrev pub last_line_without_a_feed_output : List ℕ
last_line_without_a_feed_output = codes "alice + 0" ++ 10 ∷ []

-- the bytes of lines_of_4096_bytes.script
abbrev pub lines_of_4096_bytes_script : List ℕ
lines_of_4096_bytes_script = codes "accounts alice bob" ++ 10 ∷ [] ++ codes "alice run 0                                                                                                                                                                                                                                                                                                                                                                                                                                                                                                                                                                                                                                                                                                                                                                                                                                                                                                                                                                                                                                                                                                                                                                                                                                                                                                                                                                                                                                                                                                                                                                                                                                                                                                                                                                                                                                                                                                                                                                                                                                                                                                                                                                                                                                                                                                                                                                                                                                                                                                                                                                                                                                                                                                                                                                                                                                                                                                                                                                                                                                                                                                                                                                                                                                                                                                                                                                                                                                                                                                                                                                                                                                                                                                                                                                                                                                                                                                                                                                                                                                                                                                                                                                                                                                                           " ++ 10 ∷ [] ++ codes "alice run 0                                                                                                                                                                                                                                                                                                                                                                                                                                                                                                                                                                                                                                                                                                                                                                                                                                                                                                                                                                                                                                                                                                                                                                                                                                                                                                                                                                                                                                                                                                                                                                                                                                                                                                                                                                                                                                                                                                                                                                                                                                                                                                                                                                                                                                                                                                                                                                                                                                                                                                                                                                                                                                                                                                                                                                                                                                                                                                                                                                                                                                                                                                                                                                                                                                                                                                                                                                                                                                                                                                                                                                                                                                                                                                                                                                                                                                                                                                                                                                                                                                                                                                                                                                                                                                                            " ++ 10 ∷ [] ++ codes "alice run 0                                                                                                                                                                                                                                                                                                                                                                                                                                                                                                                                                                                                                                                                                                                                                                                                                                                                                                                                                                                                                                                                                                                                                                                                                                                                                                                                                                                                                                                                                                                                                                                                                                                                                                                                                                                                                                                                                                                                                                                                                                                                                                                                                                                                                                                                                                                                                                                                                                                                                                                                                                                                                                                                                                                                                                                                                                                                                                                                                                                                                                                                                                                                                                                                                                                                                                                                                                                                                                                                                                                                                                                                                                                                                                                                                                                                                                                                                                                                                                                                                                                                                                                                                                                                                                                           " ++ 13 ∷ [] ++ 10 ∷ [] ++ codes "alice run 0                                                                                                                                                                                                                                                                                                                                                                                                                                                                                                                                                                                                                                                                                                                                                                                                                                                                                                                                                                                                                                                                                                                                                                                                                                                                                                                                                                                                                                                                                                                                                                                                                                                                                                                                                                                                                                                                                                                                                                                                                                                                                                                                                                                                                                                                                                                                                                                                                                                                                                                                                                                                                                                                                                                                                                                                                                                                                                                                                                                                                                                                                                                                                                                                                                                                                                                                                                                                                                                                                                                                                                                                                                                                                                                                                                                                                                                                                                                                                                                                                                                                                                                                                                                                                                                            " ++ 13 ∷ [] ++ 10 ∷ [] ++ codes "carol run 0                                                                                                                                                                                                                                                                                                                                                                                                                                                                                                                                                                                                                                                                                                                                                                                                                                                                                                                                                                                                                                                                                                                                                                                                                                                                                                                                                                                                                                                                                                                                                                                                                                                                                                                                                                                                                                                                                                                                                                                                                                                                                                                                                                                                                                                                                                                                                                                                                                                                                                                                                                                                                                                                                                                                                                                                                                                                                                                                                                                                                                                                                                                                                                                                                                                                                                                                                                                                                                                                                                                                                                                                                                                                                                                                                                                                                                                                                                                                                                                                                                                                                                                                                                                                                                                            " ++ 10 ∷ []

-- the bytes of lines_of_4096_bytes.expected
abbrev pub lines_of_4096_bytes_output : List ℕ
lines_of_4096_bytes_output = codes "alice + 0" ++ 10 ∷ [] ++ codes "alice - 1 syntax" ++ 10 ∷ [] ++ codes "alice + 0" ++ 10 ∷ [] ++ codes "alice - 1 syntax" ++ 10 ∷ [] ++ codes "! account" ++ 10 ∷ []

-- the bytes of load_of_no_bytes.script
abbrev pub load_of_no_bytes_script : List ℕ
load_of_no_bytes_script = codes "accounts alice bob" ++ 10 ∷ [] ++ codes "alice load 0"

-- the bytes of load_of_no_bytes.expected
abbrev pub load_of_no_bytes_output : List ℕ
load_of_no_bytes_output = codes "alice - 2 source 1" ++ 10 ∷ []

-- the bytes of load_without_a_last_feed.script
abbrev pub load_without_a_last_feed_script : List ℕ
load_without_a_last_feed_script = codes "accounts alice bob" ++ 10 ∷ [] ++ codes "alice load 12" ++ 10 ∷ [] ++ codes ":- module e." ++ 13 ∷ []

-- the bytes of load_without_a_last_feed.expected
abbrev pub load_without_a_last_feed_output : List ℕ
load_without_a_last_feed_output = codes "alice + loaded e" ++ 10 ∷ []

-- the bytes of loaded_twice.script
abbrev pub loaded_twice_script : List ℕ
loaded_twice_script = codes "accounts alice bob" ++ 10 ∷ [] ++ codes "alice load 91" ++ 10 ∷ [] ++ codes ":- module app." ++ 10 ∷ [] ++ codes "app([],Y,Z) :- true | Z = Y." ++ 10 ∷ [] ++ codes "app([A|X],Y,Z) :- true | Z = [A|W], app(X,Y,W)." ++ 10 ∷ [] ++ codes "alice load 91" ++ 10 ∷ [] ++ codes ":- module app." ++ 10 ∷ [] ++ codes "app([],Y,Z) :- true | Z = Y." ++ 10 ∷ [] ++ codes "app([A|X],Y,Z) :- true | Z = [A|W], app(X,Y,W)." ++ 10 ∷ []

-- the bytes of loaded_twice.expected
abbrev pub loaded_twice_output : List ℕ
loaded_twice_output = codes "alice + loaded app" ++ 10 ∷ [] ++ codes "alice - 3 exists" ++ 10 ∷ []

-- the bytes of loads_of_other_names.script
abbrev pub loads_of_other_names_script : List ℕ
loads_of_other_names_script = codes "accounts alice bob" ++ 10 ∷ [] ++ codes "carol load 12" ++ 10 ∷ [] ++ codes ":- module e.x" ++ 10 ∷ [] ++ codes "bob load 11" ++ 10 ∷ [] ++ codes ":- module e." ++ 10 ∷ [] ++ codes " load 4" ++ 10 ∷ [] ++ codes "xxxx" ++ 10 ∷ [] ++ codes "alice run 0" ++ 10 ∷ []

-- the bytes of loads_of_other_names.expected
abbrev pub loads_of_other_names_output : List ℕ
loads_of_other_names_output = codes "! account" ++ 10 ∷ [] ++ codes "bob - 1 syntax" ++ 10 ∷ [] ++ codes "! account" ++ 10 ∷ [] ++ codes "alice + 0" ++ 10 ∷ []

-- the bytes of loads_of_others_are_skipped.script
abbrev pub loads_of_others_are_skipped_script : List ℕ
loads_of_others_are_skipped_script = codes "accounts alice bob" ++ 10 ∷ [] ++ codes "carol load 12" ++ 10 ∷ [] ++ codes "alice run 1" ++ 10 ∷ [] ++ 10 ∷ [] ++ codes "alice run 1" ++ 10 ∷ [] ++ codes "alice load 12" ++ 10 ∷ [] ++ codes ":- module e.x" ++ 10 ∷ [] ++ codes "alice load 12" ++ 10 ∷ [] ++ codes ":- module e." ++ 13 ∷ [] ++ 10 ∷ []

-- the bytes of loads_of_others_are_skipped.expected
abbrev pub loads_of_others_are_skipped_output : List ℕ
loads_of_others_are_skipped_output = codes "! account" ++ 10 ∷ [] ++ codes "alice + 0" ++ 10 ∷ [] ++ codes "alice - 1 syntax" ++ 10 ∷ [] ++ codes "alice + loaded e" ++ 10 ∷ []

-- the bytes of module_name_in_quotes.script
abbrev pub module_name_in_quotes_script : List ℕ
module_name_in_quotes_script = codes "accounts alice" ++ 10 ∷ [] ++ codes "alice load 16" ++ 10 ∷ [] ++ codes ":- module 'A b'." ++ 10 ∷ [] ++ codes "alice modules" ++ 10 ∷ []

-- the bytes of module_name_in_quotes.expected
abbrev pub module_name_in_quotes_output : List ℕ
module_name_in_quotes_output = codes "alice + loaded 'A b'" ++ 10 ∷ [] ++ codes "alice + 1" ++ 10 ∷ [] ++ codes "alice 'A b' 16 0" ++ 10 ∷ []

-- the bytes of module_without_clauses.script
abbrev pub module_without_clauses_script : List ℕ
module_without_clauses_script = codes "accounts alice bob" ++ 10 ∷ [] ++ codes "alice load 12" ++ 10 ∷ [] ++ codes ":- module e." ++ 10 ∷ []

-- the bytes of module_without_clauses.expected
abbrev pub module_without_clauses_output : List ℕ
module_without_clauses_output = codes "alice + loaded e" ++ 10 ∷ []

-- the bytes of modules_are_listed.script
abbrev pub modules_are_listed_script : List ℕ
modules_are_listed_script = codes "accounts alice" ++ 10 ∷ [] ++ codes "alice load 12" ++ 10 ∷ [] ++ codes ":- module e." ++ 10 ∷ [] ++ codes "alice modules" ++ 10 ∷ [] ++ codes "alice load 91" ++ 10 ∷ [] ++ codes ":- module app." ++ 10 ∷ [] ++ codes "app([],Y,Z) :- true | Z = Y." ++ 10 ∷ [] ++ codes "app([A|X],Y,Z) :- true | Z = [A|W], app(X,Y,W)." ++ 10 ∷ [] ++ codes "alice modules" ++ 10 ∷ []

-- the bytes of modules_are_listed.expected
abbrev pub modules_are_listed_output : List ℕ
modules_are_listed_output = codes "alice + loaded e" ++ 10 ∷ [] ++ codes "alice + 1" ++ 10 ∷ [] ++ codes "alice e 12 0" ++ 10 ∷ [] ++ codes "alice + loaded app" ++ 10 ∷ [] ++ codes "alice + 2" ++ 10 ∷ [] ++ codes "alice e 12 0" ++ 10 ∷ [] ++ codes "alice app 91 2" ++ 10 ∷ []

-- the bytes of modules_loaded_at_that_moment.script
abbrev pub modules_loaded_at_that_moment_script : List ℕ
modules_loaded_at_that_moment_script = codes "accounts alice bob" ++ 10 ∷ [] ++ codes "alice start 10 0 10 app:app([],a,R)" ++ 10 ∷ [] ++ codes "alice run 10" ++ 10 ∷ [] ++ codes "alice start 10 0 10 app:app([],a,R)" ++ 10 ∷ [] ++ codes "alice load 91" ++ 10 ∷ [] ++ codes ":- module app." ++ 10 ∷ [] ++ codes "app([],Y,Z) :- true | Z = Y." ++ 10 ∷ [] ++ codes "app([A|X],Y,Z) :- true | Z = [A|W], app(X,Y,W)." ++ 10 ∷ [] ++ codes "alice run 10" ++ 10 ∷ [] ++ codes "alice value 1" ++ 10 ∷ [] ++ codes "alice value 2" ++ 10 ∷ []

-- the bytes of modules_loaded_at_that_moment.expected
abbrev pub modules_loaded_at_that_moment_output : List ℕ
modules_loaded_at_that_moment_output = codes "alice + shoen 1" ++ 10 ∷ [] ++ codes "alice + 1" ++ 10 ∷ [] ++ codes "alice + shoen 2" ++ 10 ∷ [] ++ codes "alice + loaded app" ++ 10 ∷ [] ++ codes "alice + 2" ++ 10 ∷ [] ++ codes "alice + app:app([],a,_1)" ++ 10 ∷ [] ++ codes "alice + app:app([],a,a)" ++ 10 ∷ []

-- the bytes of modules_of_two_accounts.script
abbrev pub modules_of_two_accounts_script : List ℕ
modules_of_two_accounts_script = codes "accounts alice bob" ++ 10 ∷ [] ++ codes "bob load 12" ++ 10 ∷ [] ++ codes ":- module z." ++ 10 ∷ [] ++ codes "alice load 12" ++ 10 ∷ [] ++ codes ":- module a." ++ 10 ∷ [] ++ codes "bob load 12" ++ 10 ∷ [] ++ codes ":- module a." ++ 10 ∷ [] ++ codes "alice load 12" ++ 10 ∷ [] ++ codes ":- module z." ++ 10 ∷ [] ++ codes "alice modules" ++ 10 ∷ [] ++ codes "bob modules" ++ 10 ∷ []

-- the bytes of modules_of_two_accounts.expected
abbrev pub modules_of_two_accounts_output : List ℕ
modules_of_two_accounts_output = codes "bob + loaded z" ++ 10 ∷ [] ++ codes "alice + loaded a" ++ 10 ∷ [] ++ codes "bob + loaded a" ++ 10 ∷ [] ++ codes "alice + loaded z" ++ 10 ∷ [] ++ codes "alice + 2" ++ 10 ∷ [] ++ codes "alice a 12 0" ++ 10 ∷ [] ++ codes "alice z 12 0" ++ 10 ∷ [] ++ codes "bob + 2" ++ 10 ∷ [] ++ codes "bob z 12 0" ++ 10 ∷ [] ++ codes "bob a 12 0" ++ 10 ∷ []

-- the bytes of names_before_the_first_space.script
abbrev pub names_before_the_first_space_script : List ℕ
names_before_the_first_space_script = codes "accounts alice bob" ++ 10 ∷ [] ++ codes "alice" ++ 10 ∷ [] ++ codes "alice " ++ 10 ∷ [] ++ codes "bob run 0" ++ 10 ∷ [] ++ codes "carol" ++ 10 ∷ [] ++ codes " alice run 0" ++ 10 ∷ [] ++ codes "alice" ++ 9 ∷ [] ++ codes "run 0" ++ 10 ∷ [] ++ codes "alice " ++ 9 ∷ [] ++ codes "run" ++ 9 ∷ [] ++ 9 ∷ [] ++ codes "0 " ++ 9 ∷ [] ++ 10 ∷ [] ++ codes "alice run 0" ++ 13 ∷ [] ++ 13 ∷ [] ++ 10 ∷ []

-- the bytes of names_before_the_first_space.expected
abbrev pub names_before_the_first_space_output : List ℕ
names_before_the_first_space_output = codes "alice - 1 syntax" ++ 10 ∷ [] ++ codes "alice - 1 syntax" ++ 10 ∷ [] ++ codes "bob + 0" ++ 10 ∷ [] ++ codes "! account" ++ 10 ∷ [] ++ codes "! account" ++ 10 ∷ [] ++ codes "! account" ++ 10 ∷ [] ++ codes "alice + 0" ++ 10 ∷ [] ++ codes "alice - 1 syntax" ++ 10 ∷ []

-- the bytes of names_from_127_and_128_codes.script
abbrev pub names_from_127_and_128_codes_script : List ℕ
names_from_127_and_128_codes_script = codes "accounts alice" ++ 10 ∷ [] ++ codes "alice start 10 0 10 atom_from([97,97,97,97,97,97,97,97,97,97,97,97,97,97,97,97,97,97,97,97,97,97,97,97,97,97,97,97,97,97,97,97,97,97,97,97,97,97,97,97,97,97,97,97,97,97,97,97,97,97,97,97,97,97,97,97,97,97,97,97,97,97,97,97,97,97,97,97,97,97,97,97,97,97,97,97,97,97,97,97,97,97,97,97,97,97,97,97,97,97,97,97,97,97,97,97,97,97,97,97,97,97,97,97,97,97,97,97,97,97,97,97,97,97,97,97,97,97,97,97,97,97,97,97,97,97,97],A)" ++ 10 ∷ [] ++ codes "alice run 10" ++ 10 ∷ [] ++ codes "alice value 1" ++ 10 ∷ [] ++ codes "alice status 1" ++ 10 ∷ [] ++ codes "alice start 10 0 10 atom_from([97,97,97,97,97,97,97,97,97,97,97,97,97,97,97,97,97,97,97,97,97,97,97,97,97,97,97,97,97,97,97,97,97,97,97,97,97,97,97,97,97,97,97,97,97,97,97,97,97,97,97,97,97,97,97,97,97,97,97,97,97,97,97,97,97,97,97,97,97,97,97,97,97,97,97,97,97,97,97,97,97,97,97,97,97,97,97,97,97,97,97,97,97,97,97,97,97,97,97,97,97,97,97,97,97,97,97,97,97,97,97,97,97,97,97,97,97,97,97,97,97,97,97,97,97,97,97,97],A)" ++ 10 ∷ [] ++ codes "alice run 10" ++ 10 ∷ [] ++ codes "alice status 2" ++ 10 ∷ []

-- the bytes of names_from_127_and_128_codes.expected
abbrev pub names_from_127_and_128_codes_output : List ℕ
names_from_127_and_128_codes_output = codes "alice + shoen 1" ++ 10 ∷ [] ++ codes "alice + 1" ++ 10 ∷ [] ++ codes "alice + atom_from([97,97,97,97,97,97,97,97,97,97,97,97,97,97,97,97,97,97,97,97,97,97,97,97,97,97,97,97,97,97,97,97,97,97,97,97,97,97,97,97,97,97,97,97,97,97,97,97,97,97,97,97,97,97,97,97,97,97,97,97,97,97,97,97,97,97,97,97,97,97,97,97,97,97,97,97,97,97,97,97,97,97,97,97,97,97,97,97,97,97,97,97,97,97,97,97,97,97,97,97,97,97,97,97,97,97,97,97,97,97,97,97,97,97,97,97,97,97,97,97,97,97,97,97,97,97,97],aaaaaaaaaaaaaaaaaaaaaaaaaaaaaaaaaaaaaaaaaaaaaaaaaaaaaaaaaaaaaaaaaaaaaaaaaaaaaaaaaaaaaaaaaaaaaaaaaaaaaaaaaaaaaaaaaaaaaaaaaaaaaaa)" ++ 10 ∷ [] ++ codes "alice + terminated 1 10 0" ++ 10 ∷ [] ++ codes "alice + shoen 2" ++ 10 ∷ [] ++ codes "alice + 1" ++ 10 ∷ [] ++ codes "alice + running 1 10 1" ++ 10 ∷ []

-- the bytes of names_from_codes.script
abbrev pub names_from_codes_script : List ℕ
names_from_codes_script = codes "accounts alice" ++ 10 ∷ [] ++ codes "alice start 10 0 10 atom_from([104,105],A)" ++ 10 ∷ [] ++ codes "alice run 10" ++ 10 ∷ [] ++ codes "alice value 1" ++ 10 ∷ [] ++ codes "alice start 10 0 10 X = ''" ++ 10 ∷ [] ++ codes "alice start 10 0 10 X = '[]'(a)" ++ 10 ∷ [] ++ codes "alice reduce 6 0" ++ 10 ∷ [] ++ codes "alice value 3" ++ 10 ∷ []

-- the bytes of names_from_codes.expected
abbrev pub names_from_codes_output : List ℕ
names_from_codes_output = codes "alice + shoen 1" ++ 10 ∷ [] ++ codes "alice + 1" ++ 10 ∷ [] ++ codes "alice + atom_from([104,105],hi)" ++ 10 ∷ [] ++ codes "alice + shoen 2" ++ 10 ∷ [] ++ codes "alice + shoen 3" ++ 10 ∷ [] ++ codes "alice + reduced" ++ 10 ∷ [] ++ codes "alice + '='('[]'(a),'[]'(a))" ++ 10 ∷ []

-- the bytes of names_in_order_of_first_use.script
abbrev pub names_in_order_of_first_use_script : List ℕ
names_in_order_of_first_use_script = codes "accounts alice bob" ++ 10 ∷ [] ++ codes "bob start 1 0 1 zeta = alpha" ++ 10 ∷ [] ++ codes "alice start 1 0 1 alpha = f(zeta,alpha)" ++ 10 ∷ [] ++ codes "bob reset" ++ 10 ∷ [] ++ codes "alice reset" ++ 10 ∷ [] ++ codes "alice journal 1 64" ++ 10 ∷ [] ++ codes "bob journal 1 64" ++ 10 ∷ []

-- the bytes of names_in_order_of_first_use.expected
abbrev pub names_in_order_of_first_use_output : List ℕ
names_in_order_of_first_use_output = codes "bob + shoen 1" ++ 10 ∷ [] ++ codes "alice + shoen 1" ++ 10 ∷ [] ++ codes "bob + reset" ++ 10 ∷ [] ++ codes "alice + reset" ++ 10 ∷ [] ++ codes "alice + 4" ++ 10 ∷ [] ++ codes "alice journal 3 0 3" ++ 10 ∷ [] ++ codes "alice name alpha" ++ 10 ∷ [] ++ codes "alice name f" ++ 10 ∷ [] ++ codes "alice name zeta" ++ 10 ∷ [] ++ codes "bob + 3" ++ 10 ∷ [] ++ codes "bob journal 3 0 2" ++ 10 ∷ [] ++ codes "bob name zeta" ++ 10 ∷ [] ++ codes "bob name alpha" ++ 10 ∷ []

-- the bytes of names_in_quotes.script
abbrev pub names_in_quotes_script : List ℕ
names_in_quotes_script = codes "accounts alice" ++ 10 ∷ [] ++ codes "alice start 10 0 10 X = ''" ++ 10 ∷ [] ++ codes "alice start 10 0 10 X = '[]'(a)" ++ 10 ∷ [] ++ codes "alice run 2" ++ 10 ∷ [] ++ codes "alice value 1" ++ 10 ∷ [] ++ codes "alice value 2" ++ 10 ∷ []

-- the bytes of names_in_quotes.expected
abbrev pub names_in_quotes_output : List ℕ
names_in_quotes_output = codes "alice + shoen 1" ++ 10 ∷ [] ++ codes "alice + shoen 2" ++ 10 ∷ [] ++ codes "alice + 2" ++ 10 ∷ [] ++ codes "alice + '='('','')" ++ 10 ∷ [] ++ codes "alice + '='('[]'(a),'[]'(a))" ++ 10 ∷ []

-- the bytes of names_of_127_and_128_bytes.script
abbrev pub names_of_127_and_128_bytes_script : List ℕ
names_of_127_and_128_bytes_script = codes "accounts alice bob" ++ 10 ∷ [] ++ codes "alice load 142" ++ 10 ∷ [] ++ codes ":- module e1." ++ 10 ∷ [] ++ codes "aaaaaaaaaaaaaaaaaaaaaaaaaaaaaaaaaaaaaaaaaaaaaaaaaaaaaaaaaaaaaaaaaaaaaaaaaaaaaaaaaaaaaaaaaaaaaaaaaaaaaaaaaaaaaaaaaaaaaaaaaaaaaaa." ++ 10 ∷ [] ++ codes "alice load 143" ++ 10 ∷ [] ++ codes ":- module e2." ++ 10 ∷ [] ++ codes "aaaaaaaaaaaaaaaaaaaaaaaaaaaaaaaaaaaaaaaaaaaaaaaaaaaaaaaaaaaaaaaaaaaaaaaaaaaaaaaaaaaaaaaaaaaaaaaaaaaaaaaaaaaaaaaaaaaaaaaaaaaaaaaa." ++ 10 ∷ []

-- the bytes of names_of_127_and_128_bytes.expected
abbrev pub names_of_127_and_128_bytes_output : List ℕ
names_of_127_and_128_bytes_output = codes "alice + loaded e1" ++ 10 ∷ [] ++ codes "alice - 2 source 2" ++ 10 ∷ []

-- the bytes of no_accounts.script
abbrev pub no_accounts_script : List ℕ
no_accounts_script = []

-- the bytes of no_accounts.expected
abbrev pub no_accounts_output : List ℕ
no_accounts_output = codes "! accounts" ++ 10 ∷ []

-- the bytes of no_clause_for_a_goal_that_waits.script
abbrev pub no_clause_for_a_goal_that_waits_script : List ℕ
no_clause_for_a_goal_that_waits_script = codes "accounts alice bob" ++ 10 ∷ [] ++ codes "alice load 71" ++ 10 ∷ [] ++ codes ":- module o." ++ 10 ∷ [] ++ codes "p(a,R) :- true | R = 1." ++ 10 ∷ [] ++ codes "otherwise." ++ 10 ∷ [] ++ codes "p(X,R) :- true | R = 2." ++ 10 ∷ [] ++ codes "alice start 10 0 10 o:p(X,R)" ++ 10 ∷ [] ++ codes "alice run 10" ++ 10 ∷ [] ++ codes "alice reduce 2 2" ++ 10 ∷ []

-- the bytes of no_clause_for_a_goal_that_waits.expected
abbrev pub no_clause_for_a_goal_that_waits_output : List ℕ
no_clause_for_a_goal_that_waits_output = codes "alice + loaded o" ++ 10 ∷ [] ++ codes "alice + shoen 1" ++ 10 ∷ [] ++ codes "alice + 0" ++ 10 ∷ [] ++ codes "alice - 6 step" ++ 10 ∷ []

-- the bytes of no_cyclic_terms.script
abbrev pub no_cyclic_terms_script : List ℕ
no_cyclic_terms_script = codes "accounts alice" ++ 10 ∷ [] ++ codes "alice start 10 0 10 X = f(X)" ++ 10 ∷ [] ++ codes "alice run 10" ++ 10 ∷ [] ++ codes "alice value 1" ++ 10 ∷ []

-- the bytes of no_cyclic_terms.expected
abbrev pub no_cyclic_terms_output : List ℕ
no_cyclic_terms_output = codes "alice + shoen 1" ++ 10 ∷ [] ++ codes "alice + 1" ++ 10 ∷ [] ++ codes "alice + '='(_1,f(_1))" ++ 10 ∷ []

-- the bytes of numbers_of_19_digits.script
abbrev pub numbers_of_19_digits_script : List ℕ
numbers_of_19_digits_script = codes "accounts alice bob" ++ 10 ∷ [] ++ codes "alice run 0000000000000000000" ++ 10 ∷ [] ++ codes "alice run 00000000000000000000" ++ 10 ∷ [] ++ codes "alice value 9223372036854775807" ++ 10 ∷ [] ++ codes "alice value 9223372036854775808" ++ 10 ∷ [] ++ codes "alice run 262144" ++ 10 ∷ [] ++ codes "alice run 262145" ++ 10 ∷ [] ++ codes "alice run -1" ++ 10 ∷ [] ++ codes "alice run 1 2" ++ 10 ∷ [] ++ codes "alice run" ++ 10 ∷ [] ++ codes "alice start 1 0 1 X = 00000000000000000000000000000001" ++ 10 ∷ []

-- the bytes of numbers_of_19_digits.expected
abbrev pub numbers_of_19_digits_output : List ℕ
numbers_of_19_digits_output = codes "alice + 0" ++ 10 ∷ [] ++ codes "alice - 1 syntax" ++ 10 ∷ [] ++ codes "alice - 4 noshoen" ++ 10 ∷ [] ++ codes "alice - 1 syntax" ++ 10 ∷ [] ++ codes "alice + 0" ++ 10 ∷ [] ++ codes "alice - 1 syntax" ++ 10 ∷ [] ++ codes "alice - 1 syntax" ++ 10 ∷ [] ++ codes "alice - 1 syntax" ++ 10 ∷ [] ++ codes "alice - 1 syntax" ++ 10 ∷ [] ++ codes "alice + shoen 1" ++ 10 ∷ []

-- the bytes of one_text_in_two_accounts.script
abbrev pub one_text_in_two_accounts_script : List ℕ
one_text_in_two_accounts_script = codes "accounts alice bob" ++ 10 ∷ [] ++ codes "alice load 91" ++ 10 ∷ [] ++ codes ":- module app." ++ 10 ∷ [] ++ codes "app([],Y,Z) :- true | Z = Y." ++ 10 ∷ [] ++ codes "app([A|X],Y,Z) :- true | Z = [A|W], app(X,Y,W)." ++ 10 ∷ [] ++ codes "bob load 91" ++ 10 ∷ [] ++ codes ":- module app." ++ 10 ∷ [] ++ codes "app([],Y,Z) :- true | Z = Y." ++ 10 ∷ [] ++ codes "app([A|X],Y,Z) :- true | Z = [A|W], app(X,Y,W)." ++ 10 ∷ [] ++ codes "alice load 91" ++ 10 ∷ [] ++ codes ":- module app." ++ 10 ∷ [] ++ codes "app([],Y,Z) :- true | Z = Y." ++ 10 ∷ [] ++ codes "app([A|X],Y,Z) :- true | Z = [A|W], app(X,Y,W)." ++ 10 ∷ [] ++ codes "bob modules" ++ 10 ∷ []

-- the bytes of one_text_in_two_accounts.expected
abbrev pub one_text_in_two_accounts_output : List ℕ
one_text_in_two_accounts_output = codes "alice + loaded app" ++ 10 ∷ [] ++ codes "bob + loaded app" ++ 10 ∷ [] ++ codes "alice - 3 exists" ++ 10 ∷ [] ++ codes "bob + 1" ++ 10 ∷ [] ++ codes "bob app 91 2" ++ 10 ∷ []

-- the bytes of quiet_or_not.script
abbrev pub quiet_or_not_script : List ℕ
quiet_or_not_script = codes "accounts alice bob" ++ 10 ∷ [] ++ codes "alice quiet" ++ 10 ∷ [] ++ codes "alice start 10 0 10 X = a" ++ 10 ∷ [] ++ codes "alice quiet" ++ 10 ∷ [] ++ codes "alice run 1" ++ 10 ∷ [] ++ codes "alice quiet" ++ 10 ∷ [] ++ codes "alice  quiet " ++ 9 ∷ [] ++ 10 ∷ [] ++ codes "alice quiet 1" ++ 10 ∷ [] ++ codes "alice quieter" ++ 10 ∷ [] ++ codes "alice QUIET" ++ 10 ∷ [] ++ codes "alice reduce" ++ 10 ∷ []

-- the bytes of quiet_or_not.expected
abbrev pub quiet_or_not_output : List ℕ
quiet_or_not_output = codes "alice + yes" ++ 10 ∷ [] ++ codes "alice + shoen 1" ++ 10 ∷ [] ++ codes "alice + no" ++ 10 ∷ [] ++ codes "alice + 1" ++ 10 ∷ [] ++ codes "alice + yes" ++ 10 ∷ [] ++ codes "alice + yes" ++ 10 ∷ [] ++ codes "alice - 1 syntax" ++ 10 ∷ [] ++ codes "alice - 1 syntax" ++ 10 ∷ [] ++ codes "alice - 1 syntax" ++ 10 ∷ [] ++ codes "alice - 1 syntax" ++ 10 ∷ []

-- the bytes of quiet_with_many_blanks.script
abbrev pub quiet_with_many_blanks_script : List ℕ
quiet_with_many_blanks_script = codes "accounts alice bob" ++ 10 ∷ [] ++ codes "alice quiet                                                                                                                                                                                                                                                                                                                                                                                                                                                                                                                                                                                                                                                                                                                                                                                                                                                                                                                                                                                                                                                                                                                                                                                                                                                                                                                                                                                                                                                                                                                                                                                                                                                                                                                                                                                                                                                                                                                                                                                                                                                                                                                                                                                                                                                                                                                                                                                                                                                                                                                                                                                                                                                                                                                                                                                                                                                                                                                                                                                                                                                                                                                                                                                                                                                                                                                                                                                                                                                                                                                                                                                                                                                                                                                                                                                                                                                                                                                                                                                                                                                                                                                                                                                                                                                           " ++ 10 ∷ [] ++ codes "alice quiet                                                                                                                                                                                                                                                                                                                                                                                                                                                                                                                                                                                                                                                                                                                                                                                                                                                                                                                                                                                                                                                                                                                                                                                                                                                                                                                                                                                                                                                                                                                                                                                                                                                                                                                                                                                                                                                                                                                                                                                                                                                                                                                                                                                                                                                                                                                                                                                                                                                                                                                                                                                                                                                                                                                                                                                                                                                                                                                                                                                                                                                                                                                                                                                                                                                                                                                                                                                                                                                                                                                                                                                                                                                                                                                                                                                                                                                                                                                                                                                                                                                                                                                                                                                                                                                            " ++ 10 ∷ []

-- the bytes of quiet_with_many_blanks.expected
abbrev pub quiet_with_many_blanks_output : List ℕ
quiet_with_many_blanks_output = codes "alice + yes" ++ 10 ∷ [] ++ codes "alice - 1 syntax" ++ 10 ∷ []

-- the bytes of refused_reduction_leaves_the_journal.script
abbrev pub refused_reduction_leaves_the_journal_script : List ℕ
refused_reduction_leaves_the_journal_script = codes "accounts alice bob" ++ 10 ∷ [] ++ codes "alice start 10 0 10 X = 1" ++ 10 ∷ [] ++ codes "bob start 1 0 1 true" ++ 10 ∷ [] ++ codes "alice journal 1 64" ++ 10 ∷ [] ++ codes "alice reduce 99 1" ++ 10 ∷ [] ++ codes "alice journal 1 64" ++ 10 ∷ [] ++ codes "bob run 1" ++ 10 ∷ [] ++ codes "alice load 50" ++ 10 ∷ [] ++ codes "xxxxxxxxxxxxxxxxxxxxxxxxxxxxxxxxxxxxxxxxxxxxxxxxx"

-- the bytes of refused_reduction_leaves_the_journal.expected
abbrev pub refused_reduction_leaves_the_journal_output : List ℕ
refused_reduction_leaves_the_journal_output = codes "alice + shoen 1" ++ 10 ∷ [] ++ codes "bob + shoen 1" ++ 10 ∷ [] ++ codes "alice + 2" ++ 10 ∷ [] ++ codes "alice journal 3 0 0" ++ 10 ∷ [] ++ codes "alice start 10 0 10 '='(_1,1)" ++ 10 ∷ [] ++ codes "alice - 6 step" ++ 10 ∷ [] ++ codes "alice + 2" ++ 10 ∷ [] ++ codes "alice journal 3 0 0" ++ 10 ∷ [] ++ codes "alice start 10 0 10 '='(_1,1)" ++ 10 ∷ [] ++ codes "bob + 1" ++ 10 ∷ [] ++ codes "! truncated" ++ 10 ∷ []

-- the bytes of reset_after_each_event.script
abbrev pub reset_after_each_event_script : List ℕ
reset_after_each_event_script = codes "accounts alice bob" ++ 10 ∷ [] ++ codes "alice reset" ++ 10 ∷ [] ++ codes "alice journal 1 64" ++ 10 ∷ [] ++ codes "alice load 12" ++ 10 ∷ [] ++ codes ":- module e." ++ 10 ∷ [] ++ codes "alice reset" ++ 10 ∷ [] ++ codes "alice modules" ++ 10 ∷ [] ++ codes "alice load 12" ++ 10 ∷ [] ++ codes ":- module e." ++ 10 ∷ [] ++ codes "alice start 9 0 9 p = p" ++ 10 ∷ [] ++ codes "alice reset" ++ 10 ∷ [] ++ codes "alice status 1" ++ 10 ∷ [] ++ codes "alice start 9 0 9 X := Y" ++ 10 ∷ [] ++ codes "alice stop 1" ++ 10 ∷ [] ++ codes "alice reset" ++ 10 ∷ [] ++ codes "alice run 5" ++ 10 ∷ [] ++ codes "alice start 9 0 9 X = Y" ++ 10 ∷ [] ++ codes "alice reduce 2 0" ++ 10 ∷ [] ++ codes "alice reset" ++ 10 ∷ [] ++ codes "alice reports 1 1" ++ 10 ∷ [] ++ codes "alice start 9 0 9 true" ++ 10 ∷ [] ++ codes "alice value 1" ++ 10 ∷ [] ++ codes "alice reset" ++ 10 ∷ [] ++ codes "alice value 1" ++ 10 ∷ [] ++ codes "alice reduce 2 0" ++ 10 ∷ [] ++ codes "alice reset" ++ 10 ∷ [] ++ codes "alice login" ++ 10 ∷ [] ++ codes "alice reset" ++ 10 ∷ [] ++ codes "alice journal 1 1" ++ 10 ∷ [] ++ codes "alice logout" ++ 10 ∷ [] ++ codes "alice reset" ++ 10 ∷ [] ++ codes "alice logout" ++ 10 ∷ [] ++ codes "alice journal 1 64" ++ 10 ∷ []

-- the bytes of reset_after_each_event.expected
abbrev pub reset_after_each_event_output : List ℕ
reset_after_each_event_output = codes "alice + reset" ++ 10 ∷ [] ++ codes "alice + 1" ++ 10 ∷ [] ++ codes "alice journal 3 0 0" ++ 10 ∷ [] ++ codes "alice + loaded e" ++ 10 ∷ [] ++ codes "alice + reset" ++ 10 ∷ [] ++ codes "alice + 0" ++ 10 ∷ [] ++ codes "alice + loaded e" ++ 10 ∷ [] ++ codes "alice + shoen 1" ++ 10 ∷ [] ++ codes "alice + reset" ++ 10 ∷ [] ++ codes "alice - 4 noshoen" ++ 10 ∷ [] ++ codes "alice + shoen 1" ++ 10 ∷ [] ++ codes "alice + sent" ++ 10 ∷ [] ++ codes "alice + reset" ++ 10 ∷ [] ++ codes "alice + 0" ++ 10 ∷ [] ++ codes "alice + shoen 1" ++ 10 ∷ [] ++ codes "alice + reduced" ++ 10 ∷ [] ++ codes "alice + reset" ++ 10 ∷ [] ++ codes "alice - 4 noshoen" ++ 10 ∷ [] ++ codes "alice + shoen 1" ++ 10 ∷ [] ++ codes "alice + true" ++ 10 ∷ [] ++ codes "alice + reset" ++ 10 ∷ [] ++ codes "alice - 4 noshoen" ++ 10 ∷ [] ++ codes "alice - 6 step" ++ 10 ∷ [] ++ codes "alice + reset" ++ 10 ∷ [] ++ codes "alice + welcome alice" ++ 10 ∷ [] ++ codes "alice + reset" ++ 10 ∷ [] ++ codes "alice + 1" ++ 10 ∷ [] ++ codes "alice journal 3 1 2" ++ 10 ∷ [] ++ codes "alice + bye" ++ 10 ∷ [] ++ codes "alice + reset" ++ 10 ∷ [] ++ codes "alice - 12 sessions" ++ 10 ∷ [] ++ codes "alice + 3" ++ 10 ∷ [] ++ codes "alice journal 3 0 2" ++ 10 ∷ [] ++ codes "alice name e" ++ 10 ∷ [] ++ codes "alice name p" ++ 10 ∷ []

-- the bytes of reset_keeps_names.script
abbrev pub reset_keeps_names_script : List ℕ
reset_keeps_names_script = codes "accounts alice bob" ++ 10 ∷ [] ++ codes "alice load 12" ++ 10 ∷ [] ++ codes ":- module e." ++ 10 ∷ [] ++ codes "alice modules" ++ 10 ∷ [] ++ codes "alice journal 1 64" ++ 10 ∷ [] ++ codes "alice reset" ++ 10 ∷ [] ++ codes "alice journal 1 64" ++ 10 ∷ [] ++ codes "alice modules" ++ 10 ∷ [] ++ codes "alice load 12" ++ 10 ∷ [] ++ codes ":- module e." ++ 10 ∷ [] ++ codes "alice journal 1 64" ++ 10 ∷ []

-- the bytes of reset_keeps_names.expected
abbrev pub reset_keeps_names_output : List ℕ
reset_keeps_names_output = codes "alice + loaded e" ++ 10 ∷ [] ++ codes "alice + 1" ++ 10 ∷ [] ++ codes "alice e 12 0" ++ 10 ∷ [] ++ codes "alice + 2" ++ 10 ∷ [] ++ codes "alice journal 3 0 0" ++ 10 ∷ [] ++ codes "alice load 3a2d206d6f64756c6520652e" ++ 10 ∷ [] ++ codes "alice + reset" ++ 10 ∷ [] ++ codes "alice + 2" ++ 10 ∷ [] ++ codes "alice journal 3 0 1" ++ 10 ∷ [] ++ codes "alice name e" ++ 10 ∷ [] ++ codes "alice + 0" ++ 10 ∷ [] ++ codes "alice + loaded e" ++ 10 ∷ [] ++ codes "alice + 3" ++ 10 ∷ [] ++ codes "alice journal 3 0 1" ++ 10 ∷ [] ++ codes "alice name e" ++ 10 ∷ [] ++ codes "alice load 3a2d206d6f64756c6520652e" ++ 10 ∷ []

-- the bytes of reset_of_another_account.script
abbrev pub reset_of_another_account_script : List ℕ
reset_of_another_account_script = codes "accounts alice bob" ++ 10 ∷ [] ++ codes "alice start 9 0 9 X := Y" ++ 10 ∷ [] ++ codes "bob start 9 0 9 X := Y" ++ 10 ∷ [] ++ codes "bob login" ++ 10 ∷ [] ++ codes "bob reset" ++ 10 ∷ [] ++ codes "bob status 1" ++ 10 ∷ [] ++ codes "alice status 1" ++ 10 ∷ [] ++ codes "alice journal 1 64" ++ 10 ∷ [] ++ codes "bob journal 1 64" ++ 10 ∷ []

-- the bytes of reset_of_another_account.expected
abbrev pub reset_of_another_account_output : List ℕ
reset_of_another_account_output = codes "alice + shoen 1" ++ 10 ∷ [] ++ codes "bob + shoen 1" ++ 10 ∷ [] ++ codes "bob + welcome bob" ++ 10 ∷ [] ++ codes "bob + reset" ++ 10 ∷ [] ++ codes "bob - 4 noshoen" ++ 10 ∷ [] ++ codes "alice + running 0 9 1" ++ 10 ∷ [] ++ codes "alice + 2" ++ 10 ∷ [] ++ codes "alice journal 3 0 0" ++ 10 ∷ [] ++ codes "alice start 9 0 9 ':='(_1,_2)" ++ 10 ∷ [] ++ codes "bob + 1" ++ 10 ∷ [] ++ codes "bob journal 3 1 0" ++ 10 ∷ []

-- the bytes of sessions_stay_through_a_reset.script
abbrev pub sessions_stay_through_a_reset_script : List ℕ
sessions_stay_through_a_reset_script = codes "accounts alice bob" ++ 10 ∷ [] ++ codes "alice login" ++ 10 ∷ [] ++ codes "alice login" ++ 10 ∷ [] ++ codes "alice journal 1 64" ++ 10 ∷ [] ++ codes "alice start 1 0 1 true" ++ 10 ∷ [] ++ codes "alice reset" ++ 10 ∷ [] ++ codes "alice journal 1 64" ++ 10 ∷ [] ++ codes "alice login" ++ 10 ∷ [] ++ codes "alice login" ++ 10 ∷ [] ++ codes "alice login" ++ 10 ∷ [] ++ codes "alice logout" ++ 10 ∷ [] ++ codes "alice journal 1 64" ++ 10 ∷ []

-- the bytes of sessions_stay_through_a_reset.expected
abbrev pub sessions_stay_through_a_reset_output : List ℕ
sessions_stay_through_a_reset_output = codes "alice + welcome alice" ++ 10 ∷ [] ++ codes "alice + welcome alice" ++ 10 ∷ [] ++ codes "alice + 1" ++ 10 ∷ [] ++ codes "alice journal 3 2 0" ++ 10 ∷ [] ++ codes "alice + shoen 1" ++ 10 ∷ [] ++ codes "alice + reset" ++ 10 ∷ [] ++ codes "alice + 1" ++ 10 ∷ [] ++ codes "alice journal 3 2 0" ++ 10 ∷ [] ++ codes "alice + welcome alice" ++ 10 ∷ [] ++ codes "alice + welcome alice" ++ 10 ∷ [] ++ codes "alice - 12 sessions" ++ 10 ∷ [] ++ codes "alice + bye" ++ 10 ∷ [] ++ codes "alice + 1" ++ 10 ∷ [] ++ codes "alice journal 3 3 0" ++ 10 ∷ []

-- the bytes of sixteen_accounts_interleaved.script
abbrev pub sixteen_accounts_interleaved_script : List ℕ
sixteen_accounts_interleaved_script = codes "accounts a0 a1 a2 a3 a4 a5 a6 a7 a8 a9 a10 a11 a12 a13 a14 a15" ++ 10 ∷ [] ++ codes "a3 start 4 0 1 X = v3" ++ 10 ∷ [] ++ codes "a8 start 9 0 1 X = v8" ++ 10 ∷ [] ++ codes "a13 start 14 0 1 X = v13" ++ 10 ∷ [] ++ codes "a2 start 3 0 1 X = v2" ++ 10 ∷ [] ++ codes "a7 start 8 0 1 X = v7" ++ 10 ∷ [] ++ codes "a12 start 13 0 1 X = v12" ++ 10 ∷ [] ++ codes "a1 start 2 0 1 X = v1" ++ 10 ∷ [] ++ codes "a6 start 7 0 1 X = v6" ++ 10 ∷ [] ++ codes "a11 start 12 0 1 X = v11" ++ 10 ∷ [] ++ codes "a0 start 1 0 1 X = v0" ++ 10 ∷ [] ++ codes "a5 start 6 0 1 X = v5" ++ 10 ∷ [] ++ codes "a10 start 11 0 1 X = v10" ++ 10 ∷ [] ++ codes "a15 start 16 0 1 X = v15" ++ 10 ∷ [] ++ codes "a4 start 5 0 1 X = v4" ++ 10 ∷ [] ++ codes "a9 start 10 0 1 X = v9" ++ 10 ∷ [] ++ codes "a14 start 15 0 1 X = v14" ++ 10 ∷ [] ++ codes "a2 run 9" ++ 10 ∷ [] ++ codes "a9 run 9" ++ 10 ∷ [] ++ codes "a0 run 9" ++ 10 ∷ [] ++ codes "a7 run 9" ++ 10 ∷ [] ++ codes "a14 run 9" ++ 10 ∷ [] ++ codes "a5 run 9" ++ 10 ∷ [] ++ codes "a12 run 9" ++ 10 ∷ [] ++ codes "a3 run 9" ++ 10 ∷ [] ++ codes "a10 run 9" ++ 10 ∷ [] ++ codes "a1 run 9" ++ 10 ∷ [] ++ codes "a8 run 9" ++ 10 ∷ [] ++ codes "a15 run 9" ++ 10 ∷ [] ++ codes "a6 run 9" ++ 10 ∷ [] ++ codes "a13 run 9" ++ 10 ∷ [] ++ codes "a4 run 9" ++ 10 ∷ [] ++ codes "a11 run 9" ++ 10 ∷ [] ++ codes "a3 value 1" ++ 10 ∷ [] ++ codes "a8 value 1" ++ 10 ∷ [] ++ codes "a13 value 1" ++ 10 ∷ [] ++ codes "a2 value 1" ++ 10 ∷ [] ++ codes "a7 value 1" ++ 10 ∷ [] ++ codes "a12 value 1" ++ 10 ∷ [] ++ codes "a1 value 1" ++ 10 ∷ [] ++ codes "a6 value 1" ++ 10 ∷ [] ++ codes "a11 value 1" ++ 10 ∷ [] ++ codes "a0 value 1" ++ 10 ∷ [] ++ codes "a5 value 1" ++ 10 ∷ [] ++ codes "a10 value 1" ++ 10 ∷ [] ++ codes "a15 value 1" ++ 10 ∷ [] ++ codes "a4 value 1" ++ 10 ∷ [] ++ codes "a9 value 1" ++ 10 ∷ [] ++ codes "a14 value 1" ++ 10 ∷ []

-- the bytes of sixteen_accounts_interleaved.expected
abbrev pub sixteen_accounts_interleaved_output : List ℕ
sixteen_accounts_interleaved_output = codes "a3 + shoen 1" ++ 10 ∷ [] ++ codes "a8 + shoen 1" ++ 10 ∷ [] ++ codes "a13 + shoen 1" ++ 10 ∷ [] ++ codes "a2 + shoen 1" ++ 10 ∷ [] ++ codes "a7 + shoen 1" ++ 10 ∷ [] ++ codes "a12 + shoen 1" ++ 10 ∷ [] ++ codes "a1 + shoen 1" ++ 10 ∷ [] ++ codes "a6 + shoen 1" ++ 10 ∷ [] ++ codes "a11 + shoen 1" ++ 10 ∷ [] ++ codes "a0 + shoen 1" ++ 10 ∷ [] ++ codes "a5 + shoen 1" ++ 10 ∷ [] ++ codes "a10 + shoen 1" ++ 10 ∷ [] ++ codes "a15 + shoen 1" ++ 10 ∷ [] ++ codes "a4 + shoen 1" ++ 10 ∷ [] ++ codes "a9 + shoen 1" ++ 10 ∷ [] ++ codes "a14 + shoen 1" ++ 10 ∷ [] ++ codes "a2 + 1" ++ 10 ∷ [] ++ codes "a9 + 1" ++ 10 ∷ [] ++ codes "a0 + 1" ++ 10 ∷ [] ++ codes "a7 + 1" ++ 10 ∷ [] ++ codes "a14 + 1" ++ 10 ∷ [] ++ codes "a5 + 1" ++ 10 ∷ [] ++ codes "a12 + 1" ++ 10 ∷ [] ++ codes "a3 + 1" ++ 10 ∷ [] ++ codes "a10 + 1" ++ 10 ∷ [] ++ codes "a1 + 1" ++ 10 ∷ [] ++ codes "a8 + 1" ++ 10 ∷ [] ++ codes "a15 + 1" ++ 10 ∷ [] ++ codes "a6 + 1" ++ 10 ∷ [] ++ codes "a13 + 1" ++ 10 ∷ [] ++ codes "a4 + 1" ++ 10 ∷ [] ++ codes "a11 + 1" ++ 10 ∷ [] ++ codes "a3 + '='(v3,v3)" ++ 10 ∷ [] ++ codes "a8 + '='(v8,v8)" ++ 10 ∷ [] ++ codes "a13 + '='(v13,v13)" ++ 10 ∷ [] ++ codes "a2 + '='(v2,v2)" ++ 10 ∷ [] ++ codes "a7 + '='(v7,v7)" ++ 10 ∷ [] ++ codes "a12 + '='(v12,v12)" ++ 10 ∷ [] ++ codes "a1 + '='(v1,v1)" ++ 10 ∷ [] ++ codes "a6 + '='(v6,v6)" ++ 10 ∷ [] ++ codes "a11 + '='(v11,v11)" ++ 10 ∷ [] ++ codes "a0 + '='(v0,v0)" ++ 10 ∷ [] ++ codes "a5 + '='(v5,v5)" ++ 10 ∷ [] ++ codes "a10 + '='(v10,v10)" ++ 10 ∷ [] ++ codes "a15 + '='(v15,v15)" ++ 10 ∷ [] ++ codes "a4 + '='(v4,v4)" ++ 10 ∷ [] ++ codes "a9 + '='(v9,v9)" ++ 10 ∷ [] ++ codes "a14 + '='(v14,v14)" ++ 10 ∷ []

-- the bytes of thirty_three_accounts.script
abbrev pub thirty_three_accounts_script : List ℕ
thirty_three_accounts_script = codes "accounts a0 a1 a2 a3 a4 a5 a6 a7 a8 a9 a10 a11 a12 a13 a14 a15 a16 a17 a18 a19 a20 a21 a22 a23 a24 a25 a26 a27 a28 a29 a30 a31 b" ++ 10 ∷ [] ++ codes "a0 run 0" ++ 10 ∷ []

-- the bytes of thirty_three_accounts.expected
abbrev pub thirty_three_accounts_output : List ℕ
thirty_three_accounts_output = codes "! accounts" ++ 10 ∷ []

-- the bytes of thirty_two_accounts.script
abbrev pub thirty_two_accounts_script : List ℕ
thirty_two_accounts_script = codes "accounts a0 a1 a2 a3 a4 a5 a6 a7 a8 a9 a10 a11 a12 a13 a14 a15 a16 a17 a18 a19 a20 a21 a22 a23 a24 a25 a26 a27 a28 a29 a30 a31" ++ 10 ∷ [] ++ codes "a0 run 0" ++ 10 ∷ [] ++ codes "a31 run 0" ++ 10 ∷ []

-- the bytes of thirty_two_accounts.expected
abbrev pub thirty_two_accounts_output : List ℕ
thirty_two_accounts_output = codes "a0 + 0" ++ 10 ∷ [] ++ codes "a31 + 0" ++ 10 ∷ []

-- the bytes of truncated_load.script
abbrev pub truncated_load_script : List ℕ
truncated_load_script = codes "accounts alice" ++ 10 ∷ [] ++ codes "alice start 10 0 10 true" ++ 10 ∷ [] ++ codes "alice load 50" ++ 10 ∷ [] ++ codes "xxxxxxxxxxxxxxxxxxxxxxxxxxxxxxxxxxxxxxxxxxxxxxxxx"

-- the bytes of truncated_load.expected
abbrev pub truncated_load_output : List ℕ
truncated_load_output = codes "alice + shoen 1" ++ 10 ∷ [] ++ codes "! truncated" ++ 10 ∷ []

-- the bytes of truncated_load_of_another_name.script
abbrev pub truncated_load_of_another_name_script : List ℕ
truncated_load_of_another_name_script = codes "accounts alice bob" ++ 10 ∷ [] ++ codes "carol load 13" ++ 10 ∷ [] ++ codes ":- module e."

-- the bytes of truncated_load_of_another_name.expected
abbrev pub truncated_load_of_another_name_output : List ℕ
truncated_load_of_another_name_output = codes "! truncated" ++ 10 ∷ []

-- the bytes of value_is_cut.script
abbrev pub value_is_cut_script : List ℕ
value_is_cut_script = codes "accounts alice bob" ++ 10 ∷ [] ++ codes "alice start 9 0 9 X = [aa,aa,a,a,a,a,a,a,a,a,a,a,a,a,a,a,a,a,a,a,a,a,a,a,a,a,a,a,a,a,a,a,a,a,a,a,a,a,a,a,a,a,a,a,a,a,a,a,a,a,a,a,a,a,a,a,a,a,a,a,a,a,a,a,a,a,a,a,a,a,a,a,a,a,a,a,a,a,a,a,a,a,a,a,a,a,a,a,a,a,a,a,a,a,a,a,a,a,a,a,a,a,a,a,a,a,a,a,a,a,a,a,a,a,a,a,a,a,a,a,a,a,a,a,a,a,a,a,a,a,a,a,a,a,a,a,a,a,a,a,a,a,a,a,a,a,a,a,a,a,a,a,a,a,a,a,a,a,a,a,a,a,a,a,a,a,a,a,a,a,a,a,a,a,a,a,a,a,a,a,a,a,a,a,a,a,a,a,a,a,a,a,a,a,a,a,a,a,a,a,a,a,a,a,a,a,a,a,a,a,a,a,a,a,a,a,a,a,a,a,a,a,a,a,a,a,a,a,a,a,a,a,a,a,a,a,a,a,a,a,a,a,a,a,a,a,a,a,a,a,a,a,a,a,a,a,a,a,a,a,a,a,a,a,a,a,a,a,a,a,a,a,a,a,a,a,a,a,a,a,a,a,a,a,a,a,a,a,a,a,a,a,a,a,a,a,a,a,a,a,a,a,a,a,a,a,a,a,a,a,a,a,a,a,a,a,a,a,a,a,a,a,a,a,a,a,a,a,a,a,a,a,a,a,a,a,a,a,a,a,a,a,a,a,a,a,a,a,a,a,a,a,a,a,a,a,a,a,a,a,a,a,a,a,a,a,a,a,a,a,a,a,a,a,a,a,a,a,a,a,a,a,a,a,a,a,a,a,a,a,a,a,a,a,a,a,a,a,a,a,a,a,a,a,a,a,a,a,a,a,a,a,a,a,a,a,a,a,a,a,a,a,a,a,a,a,a,a,a,a,a,a,a,a,a,a,a,a,a,a,a,a,a,a,a,a,a,a,a,a,a,a,a,a,a,a,a,a,a,a,a,a,a,a,a,a,a,a,a,a,a,a,a,a,a,a,a,a,a,a,a,a,a,a,a,a,a,a,a,a,a,a,a,a,a,a,a,a,a,a,a,a,a,a,a,a,a,a,a,a,a,a,a,a,a,a,a,a,a,a,a,a,a,a,a,a,a,a,a,a,a,a,a,a,a,a,a,a,a,a,a,a,a,a,a,a,a,a,a,a,a,a,a,a,a,a,a,a,a,a,a,a,a,a,a,a,a,a,a,a,a,a,a,a,a,a,a,a,a,a,a,a,a,a,a,a,a,a,a,a,a,a,a,a,a,a,a,a,a,a,a,a,a,a,a,a,a,a,a,a,a,a,a,a,a,a,a,a,a,a,a,a,a,a,a,a,a,a,a,a,a,a,a,a,a,a,a,a,a,a,a,a,a,a,a,a,a,a,a,a,a,a,a,a,a,a,a,a,a,a,a,a,a,a,a,a,a,a,a,a,a,a,a,a,a,a,a,a,a,a,a,a,a,a,a,a,a,a,a,a,a,a,a,a,a,a,a,a,a,a,a,a,a,a,a,a,a,a,a,a,a,a,a,a,a,a,a,a,a,a,a,a,a,a,a,a,a,a,a,a,a,a,a,a,a,a,a,a,a,a,a,a,a,a,a,a,a,a,a,a,a,a,a,a,a,a,a,a,a,a,a,a,a,a,a,a,a,a,a,a,a,a,a,a,a,a,a,a,a,a,a,a,a,a,a,a,a,a,a,a,a,a,a,a,a,a,a,a,a,a,a,a,a,a,a,a,a,a,a,a,a,a,a,a,a,a,a,a,a,a,a,a,a,a,a,a,a,a,a,a,a,a,a,a,a,a,a,a,a,a,a,a,a,a,a,a,a,a,a,a,a,a,a,a,a,a,a,a,a,a,a,a,a,a,a,a,a,a,a,a,a,a,a,a,a,a,a,a,a,a,a,a,a,a,a,a,a,a,a,a,a,a,a,a,a,a,a,a,a,a,a,a,a,a,a,a,a,a,a,a,a,a,a,a,a,a,a,a,a,a,a,a,a,a,a,a,a,a,a,a,a,a,a,a,a,a,a,a,a,a,a,a,a,a,a,a,a,a,a,a,a,a,a,a,a,a,a,a,a,a,a,a,a,a,a,a,a,a,a,a,a,a,a,a,a,a,a,a,a,a,a,a,a,a,a,a,a,a,a,a,a,a,a,a,a,a,a,a,a,a,a,a,a,a,a,a,a,a,a,a,a,a,a,a,a,a,a,a,a,a,a,a,a,a,a,a,a,a,a,a,a,a,a,a,a,a,a,a,a,a,a,a,a,a,a,a,a,a,a,a,a,a,a,a,a,a,a,a,a,a,a,a,a,a,a,a,a,a,a,a,a,a,a,a,a,a,a,a,a,a,a,a,a,a,a,a,a,a,a,a,a,a,a,a,a,a,a,a,a,a,a,a,a,a,a,a,a,a,a,a,a,a,a,a,a,a,a,a,a,a,a,a,a,a,a,a,a,a,a,a,a,a,a,a,a,a,a,a,a,a,a,a,a,a,a,a,a,a,a,a,a,a,a,a,a,a,a,a,a,a,a,a,a,a,a,a,a,a,a,a,a,a,a,a,a,a,a,a,a,a,a,a,a,a,a,a,a,a,a,a,a,a,a,a,a,a,a,a,a,a,a,a,a,a,a,a,a,a,a,a,a,a,a,a,a,a,a,a,a,a,a,a,a,a,a,a,a,a,a,a,a,a,a,a,a,a,a,a,a,a,a,a,a,a,a,a,a,a,a,a,a,a,a,a,a,a,a,a,a,a,a,a,a,a,a,a,a,a,a,a,a,a,a,a,a,a,a,a,a,a,a,a,a,a,a,a,a,a,a,a,a,a,a,a,a,a,a,a,a,a,a,a,a,a,a,a,a,a,a,a,a,a,a,a,a,a,a,a,a,a,a,a,a,a,a,a,a,a,a,a,a,a,a,a,a,a,a,a,a,a,a,a,a,a,a,a,a,a,a,a,a,a,a,a,a,a,a,a,a,a,a,a,a,a,a,a,a,a,a,a,a,a,a,a,a,a,a,a,a,a,a,a,a,a,a,a,a,a,a,a,a,a,a,a,a,a,a,a,a,a,a,a,a,a,a,a,a,a,a,a,a,a,a,a,a,a,a,a,a,a,a,a,a,a,a,a,a,a,a,a,a,a,a,a,a,a,a,a,a,a,a,a,a,a,a,a,a,a,a,a,a,a,a,a,a,a,a,a,a,a,a,a,a,a,a,a,a,a,a,a,a,a,a,a,a,a,a,a,a,a,a,a,a,a,a,a,a,a,a,a,a,a,a,a,a,a,a,a,a,a,a,a,a,a,a,a,a,a,a,a,a,a,a,a,a,a,a,a,a,a,a,a,a,a,a,a,a,a,a,a,a,a,a,a,a,a,a,a,a,a,a,a,a,a,a,a,a,a,a,a,a,a,a,a,a,a,a,a,a,a,a,a,a,a,a,a,a,a,a,a,a,a,a,a,a,a,a,a,a,a,a,a,a,a,a,a,a,a,a,a,a,a,a,a,a,a,a,a,a,a,a,a,a,a,a,a,a,a,a,a,a,a,a,a,a,a,a,a,a,a,a,a,a,a,a,a,a,a,a,a,a,a,a,a,a,a,a,a,a,a,a,a,a,a,a,a,a,a,a,a,a,a,a,a,a,a,a,a,a,a,a,a,a,a,a,a,a,a,a,a,a,a,a,a,a,a,a,a,a,a,a,a,a,a,a,a,a,a,a,a,a,a,a,a,a,a,a,a,a,a,a,a,a,a,a,a,a,a,a,a,a,a,a,a,a,a,a,a,a,a,a,a,a,a,a,a,a,a,a,a,a,a,a,a,a,a,a,a,a,a,a,a,a,a,a,a,a,a,a,a,a,a,a,a,a,a,a,a,a,a,a,a,a,a,a,a,a,a,a,a,a,a,a,a,a,a,a,a,a,a,a,a,a,a,a,a,a,a,a,a,a,a,a,a,a,a,a,a,a,a,a,a,a,a,a,a,a,a,a,a,a,a,a,a,a,a,a,a,a,a,a,a,a,a,a,a,a,a,a,a,a,a,a,a,a,a,a,a,a,a,a,a,a,a,a,a,a,a,a,a,a,a,a,a,a,a,a,a,a,a,a,a,a,a,a,a,a,a,a,a,a,a,a,a,a,a,a,a,a,a,a,a,a,a,a,a,a,a,a,a,a,a,a,a,a,a,a,a,a,a,a,a,a,a,a,a,a,a,a,a,a,a,a,a,a,a,a,a,a,a,a,a,a,a,a,a,a,a,a,a,a,a,a,a,a,a,a,a,a,a,a,a,a,a,a,a,a,a,a,a,a,a,a,a,a,a,a,a,a,a,a,a,a,a,a,a,a,a,a,a,a,a,a,a,a,a,a,a,a,a,a,a,a,a,a,a,a,a,a,a,a,a,a,a,a]" ++ 10 ∷ [] ++ codes "alice value 1" ++ 10 ∷ []

-- the bytes of value_is_cut.expected
abbrev pub value_is_cut_output : List ℕ
value_is_cut_output = codes "alice + shoen 1" ++ 10 ∷ [] ++ codes "alice + '='(_1,[aa,aa,a,a,a,a,a,a,a,a,a,a,a,a,a,a,a,a,a,a,a,a,a,a,a,a,a,a,a,a,a,a,a,a,a,a,a,a,a,a,a,a,a,a,a,a,a,a,a,a,a,a,a,a,a,a,a,a,a,a,a,a,a,a,a,a,a,a,a,a,a,a,a,a,a,a,a,a,a,a,a,a,a,a,a,a,a,a,a,a,a,a,a,a,a,a,a,a,a,a,a,a,a,a,a,a,a,a,a,a,a,a,a,a,a,a,a,a,a,a,a,a,a,a,a,a,a,a,a,a,a,a,a,a,a,a,a,a,a,a,a,a,a,a,a,a,a,a,a,a,a,a,a,a,a,a,a,a,a,a,a,a,a,a,a,a,a,a,a,a,a,a,a,a,a,a,a,a,a,a,a,a,a,a,a,a,a,a,a,a,a,a,a,a,a,a,a,a,a,a,a,a,a,a,a,a,a,a,a,a,a,a,a,a,a,a,a,a,a,a,a,a,a,a,a,a,a,a,a,a,a,a,a,a,a,a,a,a,a,a,a,a,a,a,a,a,a,a,a,a,a,a,a,a,a,a,a,a,a,a,a,a,a,a,a,a,a,a,a,a,a,a,a,a,a,a,a,a,a,a,a,a,a,a,a,a,a,a,a,a,a,a,a,a,a,a,a,a,a,a,a,a,a,a,a,a,a,a,a,a,a,a,a,a,a,a,a,a,a,a,a,a,a,a,a,a,a,a,a,a,a,a,a,a,a,a,a,a,a,a,a,a,a,a,a,a,a,a,a,a,a,a,a,a,a,a,a,a,a,a,a,a,a,a,a,a,a,a,a,a,a,a,a,a,a,a,a,a,a,a,a,a,a,a,a,a,a,a,a,a,a,a,a,a,a,a,a,a,a,a,a,a,a,a,a,a,a,a,a,a,a,a,a,a,a,a,a,a,a,a,a,a,a,a,a,a,a,a,a,a,a,a,a,a,a,a,a,a,a,a,a,a,a,a,a,a,a,a,a,a,a,a,a,a,a,a,a,a,a,a,a,a,a,a,a,a,a,a,a,a,a,a,a,a,a,a,a,a,a,a,a,a,a,a,a,a,a,a,a,a,a,a,a,a,a,a,a,a,a,a,a,a,a,a,a,a,a,a,a,a,a,a,a,a,a,a,a,a,a,a,a,a,a,a,a,a,a,a,a,a,a,a,a,a,a,a,a,a,a,a,a,a,a,a,a,a,a,a,a,a,a,a,a,a,a,a,a,a,a,a,a,a,a,a,a,a,a,a,a,a,a,a,a,a,a,a,a,a,a,a,a,a,a,a,a,a,a,a,a,a,a,a,a,a,a,a,a,a,a,a,a,a,a,a,a,a,a,a,a,a,a,a,a,a,a,a,a,a,a,a,a,a,a,a,a,a,a,a,a,a,a,a,a,a,a,a,a,a,a,a,a,a,a,a,a,a,a,a,a,a,a,a,a,a,a,a,a,a,a,a,a,a,a,a,a,a,a,a,a,a,a,a,a,a,a,a,a,a,a,a,a,a,a,a,a,a,a,a,a,a,a,a,a,a,a,a,a,a,a,a,a,a,a,a,a,a,a,a,a,a,a,a,a,a,a,a,a,a,a,a,a,a,a,a,a,a,a,a,a,a,a,a,a,a,a,a,a,a,a,a,a,a,a,a,a,a,a,a,a,a,a,a,a,a,a,a,a,a,a,a,a,a,a,a,a,a,a,a,a,a,a,a,a,a,a,a,a,a,a,a,a,a,a,a,a,a,a,a,a,a,a,a,a,a,a,a,a,a,a,a,a,a,a,a,a,a,a,a,a,a,a,a,a,a,a,a,a,a,a,a,a,a,a,a,a,a,a,a,a,a,a,a,a,a,a,a,a,a,a,a,a,a,a,a,a,a,a,a,a,a,a,a,a,a,a,a,a,a,a,a,a,a,a,a,a,a,a,a,a,a,a,a,a,a,a,a,a,a,a,a,a,a,a,a,a,a,a,a,a,a,a,a,a,a,a,a,a,a,a,a,a,a,a,a,a,a,a,a,a,a,a,a,a,a,a,a,a,a,a,a,a,a,a,a,a,a,a,a,a,a,a,a,a,a,a,a,a,a,a,a,a,a,a,a,a,a,a,a,a,a,a,a,a,a,a,a,a,a,a,a,a,a,a,a,a,a,a,a,a,a,a,a,a,a,a,a,a,a,a,a,a,a,a,a,a,a,a,a,a,a,a,a,a,a,a,a,a,a,a,a,a,a,a,a,a,a,a,a,a,a,a,a,a,a,a,a,a,a,a,a,a,a,a,a,a,a,a,a,a,a,a,a,a,a,a,a,a,a,a,a,a,a,a,a,a,a,a,a,a,a,a,a,a,a,a,a,a,a,a,a,a,a,a,a,a,a,a,a,a,a,a,a,a,a,a,a,a,a,a,a,a,a,a,a,a,a,a,a,a,a,a,a,a,a,a,a,a,a,a,a,a,a,a,a,a,a,a,a,a,a,a,a,a,a,a,a,a,a,a,a,a,a,a,a,a,a,a,a,a,a,a,a,a,a,a,a,a,a,a,a,a,a,a,a,a,a,a,a,a,a,a,a,a,a,a,a,a,a,a,a,a,a,a,a,a,a,a,a,a,a,a,a,a,a,a,a,a,a,a,a,a,a,a,a,a,a,a,a,a,a,a,a,a,a,a,a,a,a,a,a,a,a,a,a,a,a,a,a,a,a,a,a,a,a,a,a,a,a,a,a,a,a,a,a,a,a,a,a,a,a,a,a,a,a,a,a,a,a,a,a,a,a,a,a,a,a,a,a,a,a,a,a,a,a,a,a,a,a,a,a,a,a,a,a,a,a,a,a,a,a,a,a,a,a,a,a,a,a,a,a,a,a,a,a,a,a,a,a,a,a,a,a,a,a,a,a,a,a,a,a,a,a,a,a,a,a,a,a,a,a,a,a,a,a,a,a,a,a,a,a,a,a,a,a,a,a,a,a,a,a,a,a,a,a,a,a,a,a,a,a,a,a,a,a,a,a,a,a,a,a,a,a,a,a,a,a,a,a,a,a,a,a,a,a,a,a,a,a,a,a,a,a,a,a,a,a,a,a,a,a,a,a,a,a,a,a,a,a,a,a,a,a,a,a,a,a,a,a,a,a,a,a,a,a,a,a,a,a,a,a,a,a,a,a,a,a,a,a,a,a,a,a,a,a,a,a,a,a,a,a,a,a,a,a,a,a,a,a,a,a,a,a,a,a,a,a,a,a,a,a,a,a,a,a,a,a,a,a,a,a,a,a,a,a,a,a,a,a,a,a,a,a,a,a,a,a,a,a,a,a,a,a,a,a,a,a,a,a,a,a,a,a,a,a,a,a,a,a,a,a,a,a,a,a,a,a,a,a,a,a,a,a,a,a,a,a,a,a,a,a,a,a,a,a,a,a,a,a,a,a,a,a,a,a,a,a,a,a,a,a,a,a,a,a,a,a,a,a,a,a,a,a,a,a,a,a,a,a,a,a,a,a,a,a,a,a,a,a,a,a,a,a,a,a,a,a,a,a,a,a,a,a,a,a,a,a,a,a,a,a,a,a,a,a,a,a,a,a,a,a,a,a,a,a,a,a,a,a,a,a,a,a,a,a,a,a,a,a,a,a,a,a,a,a,a,a,a,a,a,a,a,a,a,a,a,a,a,a,a,a,a,a,a,a,a,a,a,a,a,a,a,a,a,a,a,a,a,a,a,a,a,a,a,a,a,a,a,a,a,a,a,a,a,a,a,a,a,a,a,a,a,a,a,a,a,a,a,a,a,a,a,a,a,a,a,a,a,a,a,a,a,a,a,a,a,a,a,a,a,a,a,a,a,a,a,a,a,a,a,a,a,a,a,a,a,a,a,a,a,a,a,a,a,a,a,a,a,a,a,a,a,a,a,a,a,a,a,a,a,a,a,a,a,a,a,a,a,a,a,a,a,a,a,a,a,a,a,a,a,a,a,a,a,a,a,a,a,a,a,a,a,a,a,a,a,a,a,a,a,a,a,a,a,a,a,a,a,a,a,a,a,a,a,a,a,a,a,a,a,a,a,a,a,a,a,a,a,a,a,a,a,a,a,a,a,a,a,a,a,a,a,a,a,a,a,a,a,a,a,a,a,a,a,a,a,a,a,a,a,a,a,a,a,a,a,a,a,a,a,a,a,a,a,a,a,a,a,a,a,a,a,a,a,a,a,a,a,a,a,a,a,a,a,a,a,a,a,a,a,a,a,a,a,a,a,a,a,a,a,a,a,a,a,a,a,a,a,a,a,a,a,a,a,a,a,a,a,a,a,a,a,a,a,a,a,a,a,a,a,a,a,a,a,a,a,a,a,a,a,a,a,a,a,a,a,a,a,a,a,a,a,a,a,a,a,a,a,a,a,a,a,a,a,a,a,a,a,a,a,a,a,a,a,a,a,a,a,a,a,a,a,a,a,a,a,a,a,a,a,a,a,a,a,a,a]..." ++ 10 ∷ []

-- the bytes of value_of_4000_bytes.script
abbrev pub value_of_4000_bytes_script : List ℕ
value_of_4000_bytes_script = codes "accounts alice bob" ++ 10 ∷ [] ++ codes "alice start 9 0 9 X = [aa,a,a,a,a,a,a,a,a,a,a,a,a,a,a,a,a,a,a,a,a,a,a,a,a,a,a,a,a,a,a,a,a,a,a,a,a,a,a,a,a,a,a,a,a,a,a,a,a,a,a,a,a,a,a,a,a,a,a,a,a,a,a,a,a,a,a,a,a,a,a,a,a,a,a,a,a,a,a,a,a,a,a,a,a,a,a,a,a,a,a,a,a,a,a,a,a,a,a,a,a,a,a,a,a,a,a,a,a,a,a,a,a,a,a,a,a,a,a,a,a,a,a,a,a,a,a,a,a,a,a,a,a,a,a,a,a,a,a,a,a,a,a,a,a,a,a,a,a,a,a,a,a,a,a,a,a,a,a,a,a,a,a,a,a,a,a,a,a,a,a,a,a,a,a,a,a,a,a,a,a,a,a,a,a,a,a,a,a,a,a,a,a,a,a,a,a,a,a,a,a,a,a,a,a,a,a,a,a,a,a,a,a,a,a,a,a,a,a,a,a,a,a,a,a,a,a,a,a,a,a,a,a,a,a,a,a,a,a,a,a,a,a,a,a,a,a,a,a,a,a,a,a,a,a,a,a,a,a,a,a,a,a,a,a,a,a,a,a,a,a,a,a,a,a,a,a,a,a,a,a,a,a,a,a,a,a,a,a,a,a,a,a,a,a,a,a,a,a,a,a,a,a,a,a,a,a,a,a,a,a,a,a,a,a,a,a,a,a,a,a,a,a,a,a,a,a,a,a,a,a,a,a,a,a,a,a,a,a,a,a,a,a,a,a,a,a,a,a,a,a,a,a,a,a,a,a,a,a,a,a,a,a,a,a,a,a,a,a,a,a,a,a,a,a,a,a,a,a,a,a,a,a,a,a,a,a,a,a,a,a,a,a,a,a,a,a,a,a,a,a,a,a,a,a,a,a,a,a,a,a,a,a,a,a,a,a,a,a,a,a,a,a,a,a,a,a,a,a,a,a,a,a,a,a,a,a,a,a,a,a,a,a,a,a,a,a,a,a,a,a,a,a,a,a,a,a,a,a,a,a,a,a,a,a,a,a,a,a,a,a,a,a,a,a,a,a,a,a,a,a,a,a,a,a,a,a,a,a,a,a,a,a,a,a,a,a,a,a,a,a,a,a,a,a,a,a,a,a,a,a,a,a,a,a,a,a,a,a,a,a,a,a,a,a,a,a,a,a,a,a,a,a,a,a,a,a,a,a,a,a,a,a,a,a,a,a,a,a,a,a,a,a,a,a,a,a,a,a,a,a,a,a,a,a,a,a,a,a,a,a,a,a,a,a,a,a,a,a,a,a,a,a,a,a,a,a,a,a,a,a,a,a,a,a,a,a,a,a,a,a,a,a,a,a,a,a,a,a,a,a,a,a,a,a,a,a,a,a,a,a,a,a,a,a,a,a,a,a,a,a,a,a,a,a,a,a,a,a,a,a,a,a,a,a,a,a,a,a,a,a,a,a,a,a,a,a,a,a,a,a,a,a,a,a,a,a,a,a,a,a,a,a,a,a,a,a,a,a,a,a,a,a,a,a,a,a,a,a,a,a,a,a,a,a,a,a,a,a,a,a,a,a,a,a,a,a,a,a,a,a,a,a,a,a,a,a,a,a,a,a,a,a,a,a,a,a,a,a,a,a,a,a,a,a,a,a,a,a,a,a,a,a,a,a,a,a,a,a,a,a,a,a,a,a,a,a,a,a,a,a,a,a,a,a,a,a,a,a,a,a,a,a,a,a,a,a,a,a,a,a,a,a,a,a,a,a,a,a,a,a,a,a,a,a,a,a,a,a,a,a,a,a,a,a,a,a,a,a,a,a,a,a,a,a,a,a,a,a,a,a,a,a,a,a,a,a,a,a,a,a,a,a,a,a,a,a,a,a,a,a,a,a,a,a,a,a,a,a,a,a,a,a,a,a,a,a,a,a,a,a,a,a,a,a,a,a,a,a,a,a,a,a,a,a,a,a,a,a,a,a,a,a,a,a,a,a,a,a,a,a,a,a,a,a,a,a,a,a,a,a,a,a,a,a,a,a,a,a,a,a,a,a,a,a,a,a,a,a,a,a,a,a,a,a,a,a,a,a,a,a,a,a,a,a,a,a,a,a,a,a,a,a,a,a,a,a,a,a,a,a,a,a,a,a,a,a,a,a,a,a,a,a,a,a,a,a,a,a,a,a,a,a,a,a,a,a,a,a,a,a,a,a,a,a,a,a,a,a,a,a,a,a,a,a,a,a,a,a,a,a,a,a,a,a,a,a,a,a,a,a,a,a,a,a,a,a,a,a,a,a,a,a,a,a,a,a,a,a,a,a,a,a,a,a,a,a,a,a,a,a,a,a,a,a,a,a,a,a,a,a,a,a,a,a,a,a,a,a,a,a,a,a,a,a,a,a,a,a,a,a,a,a,a,a,a,a,a,a,a,a,a,a,a,a,a,a,a,a,a,a,a,a,a,a,a,a,a,a,a,a,a,a,a,a,a,a,a,a,a,a,a,a,a,a,a,a,a,a,a,a,a,a,a,a,a,a,a,a,a,a,a,a,a,a,a,a,a,a,a,a,a,a,a,a,a,a,a,a,a,a,a,a,a,a,a,a,a,a,a,a,a,a,a,a,a,a,a,a,a,a,a,a,a,a,a,a,a,a,a,a,a,a,a,a,a,a,a,a,a,a,a,a,a,a,a,a,a,a,a,a,a,a,a,a,a,a,a,a,a,a,a,a,a,a,a,a,a,a,a,a,a,a,a,a,a,a,a,a,a,a,a,a,a,a,a,a,a,a,a,a,a,a,a,a,a,a,a,a,a,a,a,a,a,a,a,a,a,a,a,a,a,a,a,a,a,a,a,a,a,a,a,a,a,a,a,a,a,a,a,a,a,a,a,a,a,a,a,a,a,a,a,a,a,a,a,a,a,a,a,a,a,a,a,a,a,a,a,a,a,a,a,a,a,a,a,a,a,a,a,a,a,a,a,a,a,a,a,a,a,a,a,a,a,a,a,a,a,a,a,a,a,a,a,a,a,a,a,a,a,a,a,a,a,a,a,a,a,a,a,a,a,a,a,a,a,a,a,a,a,a,a,a,a,a,a,a,a,a,a,a,a,a,a,a,a,a,a,a,a,a,a,a,a,a,a,a,a,a,a,a,a,a,a,a,a,a,a,a,a,a,a,a,a,a,a,a,a,a,a,a,a,a,a,a,a,a,a,a,a,a,a,a,a,a,a,a,a,a,a,a,a,a,a,a,a,a,a,a,a,a,a,a,a,a,a,a,a,a,a,a,a,a,a,a,a,a,a,a,a,a,a,a,a,a,a,a,a,a,a,a,a,a,a,a,a,a,a,a,a,a,a,a,a,a,a,a,a,a,a,a,a,a,a,a,a,a,a,a,a,a,a,a,a,a,a,a,a,a,a,a,a,a,a,a,a,a,a,a,a,a,a,a,a,a,a,a,a,a,a,a,a,a,a,a,a,a,a,a,a,a,a,a,a,a,a,a,a,a,a,a,a,a,a,a,a,a,a,a,a,a,a,a,a,a,a,a,a,a,a,a,a,a,a,a,a,a,a,a,a,a,a,a,a,a,a,a,a,a,a,a,a,a,a,a,a,a,a,a,a,a,a,a,a,a,a,a,a,a,a,a,a,a,a,a,a,a,a,a,a,a,a,a,a,a,a,a,a,a,a,a,a,a,a,a,a,a,a,a,a,a,a,a,a,a,a,a,a,a,a,a,a,a,a,a,a,a,a,a,a,a,a,a,a,a,a,a,a,a,a,a,a,a,a,a,a,a,a,a,a,a,a,a,a,a,a,a,a,a,a,a,a,a,a,a,a,a,a,a,a,a,a,a,a,a,a,a,a,a,a,a,a,a,a,a,a,a,a,a,a,a,a,a,a,a,a,a,a,a,a,a,a,a,a,a,a,a,a,a,a,a,a,a,a,a,a,a,a,a,a,a,a,a,a,a,a,a,a,a,a,a,a,a,a,a,a,a,a,a,a,a,a,a,a,a,a,a,a,a,a,a,a,a,a,a,a,a,a,a,a,a,a,a,a,a,a,a,a,a,a,a,a,a,a,a,a,a,a,a,a,a,a,a,a,a,a,a,a,a,a,a,a,a,a,a,a,a,a,a,a,a,a,a,a,a,a,a,a,a,a,a,a,a,a,a,a,a,a,a,a,a,a,a,a,a,a,a,a,a,a,a,a,a,a,a,a,a,a,a,a,a,a,a,a,a,a,a,a,a,a,a,a,a,a,a,a,a,a,a,a,a,a,a,a,a,a,a,a,a,a,a,a,a,a,a,a,a,a,a,a,a,a,a,a,a,a,a,a,a,a,a,a,a,a,a,a,a,a,a,a,a,a,a,a,a,a,a,a,a,a,a,a,a,a,a,a,a,a,a,a,a,a,a,a,a,a,a,a,a,a,a,a,a,a,a,a,a,a,a,a,a,a,a,a,a,a,a,a,a,a,a,a,a,a,a]" ++ 10 ∷ [] ++ codes "alice value 1" ++ 10 ∷ []

-- the bytes of value_of_4000_bytes.expected
abbrev pub value_of_4000_bytes_output : List ℕ
value_of_4000_bytes_output = codes "alice + shoen 1" ++ 10 ∷ [] ++ codes "alice + '='(_1,[aa,a,a,a,a,a,a,a,a,a,a,a,a,a,a,a,a,a,a,a,a,a,a,a,a,a,a,a,a,a,a,a,a,a,a,a,a,a,a,a,a,a,a,a,a,a,a,a,a,a,a,a,a,a,a,a,a,a,a,a,a,a,a,a,a,a,a,a,a,a,a,a,a,a,a,a,a,a,a,a,a,a,a,a,a,a,a,a,a,a,a,a,a,a,a,a,a,a,a,a,a,a,a,a,a,a,a,a,a,a,a,a,a,a,a,a,a,a,a,a,a,a,a,a,a,a,a,a,a,a,a,a,a,a,a,a,a,a,a,a,a,a,a,a,a,a,a,a,a,a,a,a,a,a,a,a,a,a,a,a,a,a,a,a,a,a,a,a,a,a,a,a,a,a,a,a,a,a,a,a,a,a,a,a,a,a,a,a,a,a,a,a,a,a,a,a,a,a,a,a,a,a,a,a,a,a,a,a,a,a,a,a,a,a,a,a,a,a,a,a,a,a,a,a,a,a,a,a,a,a,a,a,a,a,a,a,a,a,a,a,a,a,a,a,a,a,a,a,a,a,a,a,a,a,a,a,a,a,a,a,a,a,a,a,a,a,a,a,a,a,a,a,a,a,a,a,a,a,a,a,a,a,a,a,a,a,a,a,a,a,a,a,a,a,a,a,a,a,a,a,a,a,a,a,a,a,a,a,a,a,a,a,a,a,a,a,a,a,a,a,a,a,a,a,a,a,a,a,a,a,a,a,a,a,a,a,a,a,a,a,a,a,a,a,a,a,a,a,a,a,a,a,a,a,a,a,a,a,a,a,a,a,a,a,a,a,a,a,a,a,a,a,a,a,a,a,a,a,a,a,a,a,a,a,a,a,a,a,a,a,a,a,a,a,a,a,a,a,a,a,a,a,a,a,a,a,a,a,a,a,a,a,a,a,a,a,a,a,a,a,a,a,a,a,a,a,a,a,a,a,a,a,a,a,a,a,a,a,a,a,a,a,a,a,a,a,a,a,a,a,a,a,a,a,a,a,a,a,a,a,a,a,a,a,a,a,a,a,a,a,a,a,a,a,a,a,a,a,a,a,a,a,a,a,a,a,a,a,a,a,a,a,a,a,a,a,a,a,a,a,a,a,a,a,a,a,a,a,a,a,a,a,a,a,a,a,a,a,a,a,a,a,a,a,a,a,a,a,a,a,a,a,a,a,a,a,a,a,a,a,a,a,a,a,a,a,a,a,a,a,a,a,a,a,a,a,a,a,a,a,a,a,a,a,a,a,a,a,a,a,a,a,a,a,a,a,a,a,a,a,a,a,a,a,a,a,a,a,a,a,a,a,a,a,a,a,a,a,a,a,a,a,a,a,a,a,a,a,a,a,a,a,a,a,a,a,a,a,a,a,a,a,a,a,a,a,a,a,a,a,a,a,a,a,a,a,a,a,a,a,a,a,a,a,a,a,a,a,a,a,a,a,a,a,a,a,a,a,a,a,a,a,a,a,a,a,a,a,a,a,a,a,a,a,a,a,a,a,a,a,a,a,a,a,a,a,a,a,a,a,a,a,a,a,a,a,a,a,a,a,a,a,a,a,a,a,a,a,a,a,a,a,a,a,a,a,a,a,a,a,a,a,a,a,a,a,a,a,a,a,a,a,a,a,a,a,a,a,a,a,a,a,a,a,a,a,a,a,a,a,a,a,a,a,a,a,a,a,a,a,a,a,a,a,a,a,a,a,a,a,a,a,a,a,a,a,a,a,a,a,a,a,a,a,a,a,a,a,a,a,a,a,a,a,a,a,a,a,a,a,a,a,a,a,a,a,a,a,a,a,a,a,a,a,a,a,a,a,a,a,a,a,a,a,a,a,a,a,a,a,a,a,a,a,a,a,a,a,a,a,a,a,a,a,a,a,a,a,a,a,a,a,a,a,a,a,a,a,a,a,a,a,a,a,a,a,a,a,a,a,a,a,a,a,a,a,a,a,a,a,a,a,a,a,a,a,a,a,a,a,a,a,a,a,a,a,a,a,a,a,a,a,a,a,a,a,a,a,a,a,a,a,a,a,a,a,a,a,a,a,a,a,a,a,a,a,a,a,a,a,a,a,a,a,a,a,a,a,a,a,a,a,a,a,a,a,a,a,a,a,a,a,a,a,a,a,a,a,a,a,a,a,a,a,a,a,a,a,a,a,a,a,a,a,a,a,a,a,a,a,a,a,a,a,a,a,a,a,a,a,a,a,a,a,a,a,a,a,a,a,a,a,a,a,a,a,a,a,a,a,a,a,a,a,a,a,a,a,a,a,a,a,a,a,a,a,a,a,a,a,a,a,a,a,a,a,a,a,a,a,a,a,a,a,a,a,a,a,a,a,a,a,a,a,a,a,a,a,a,a,a,a,a,a,a,a,a,a,a,a,a,a,a,a,a,a,a,a,a,a,a,a,a,a,a,a,a,a,a,a,a,a,a,a,a,a,a,a,a,a,a,a,a,a,a,a,a,a,a,a,a,a,a,a,a,a,a,a,a,a,a,a,a,a,a,a,a,a,a,a,a,a,a,a,a,a,a,a,a,a,a,a,a,a,a,a,a,a,a,a,a,a,a,a,a,a,a,a,a,a,a,a,a,a,a,a,a,a,a,a,a,a,a,a,a,a,a,a,a,a,a,a,a,a,a,a,a,a,a,a,a,a,a,a,a,a,a,a,a,a,a,a,a,a,a,a,a,a,a,a,a,a,a,a,a,a,a,a,a,a,a,a,a,a,a,a,a,a,a,a,a,a,a,a,a,a,a,a,a,a,a,a,a,a,a,a,a,a,a,a,a,a,a,a,a,a,a,a,a,a,a,a,a,a,a,a,a,a,a,a,a,a,a,a,a,a,a,a,a,a,a,a,a,a,a,a,a,a,a,a,a,a,a,a,a,a,a,a,a,a,a,a,a,a,a,a,a,a,a,a,a,a,a,a,a,a,a,a,a,a,a,a,a,a,a,a,a,a,a,a,a,a,a,a,a,a,a,a,a,a,a,a,a,a,a,a,a,a,a,a,a,a,a,a,a,a,a,a,a,a,a,a,a,a,a,a,a,a,a,a,a,a,a,a,a,a,a,a,a,a,a,a,a,a,a,a,a,a,a,a,a,a,a,a,a,a,a,a,a,a,a,a,a,a,a,a,a,a,a,a,a,a,a,a,a,a,a,a,a,a,a,a,a,a,a,a,a,a,a,a,a,a,a,a,a,a,a,a,a,a,a,a,a,a,a,a,a,a,a,a,a,a,a,a,a,a,a,a,a,a,a,a,a,a,a,a,a,a,a,a,a,a,a,a,a,a,a,a,a,a,a,a,a,a,a,a,a,a,a,a,a,a,a,a,a,a,a,a,a,a,a,a,a,a,a,a,a,a,a,a,a,a,a,a,a,a,a,a,a,a,a,a,a,a,a,a,a,a,a,a,a,a,a,a,a,a,a,a,a,a,a,a,a,a,a,a,a,a,a,a,a,a,a,a,a,a,a,a,a,a,a,a,a,a,a,a,a,a,a,a,a,a,a,a,a,a,a,a,a,a,a,a,a,a,a,a,a,a,a,a,a,a,a,a,a,a,a,a,a,a,a,a,a,a,a,a,a,a,a,a,a,a,a,a,a,a,a,a,a,a,a,a,a,a,a,a,a,a,a,a,a,a,a,a,a,a,a,a,a,a,a,a,a,a,a,a,a,a,a,a,a,a,a,a,a,a,a,a,a,a,a,a,a,a,a,a,a,a,a,a,a,a,a,a,a,a,a,a,a,a,a,a,a,a,a,a,a,a,a,a,a,a,a,a,a,a,a,a,a,a,a,a,a,a,a,a,a,a,a,a,a,a,a,a,a,a,a,a,a,a,a,a,a,a,a,a,a,a,a,a,a,a,a,a,a,a,a,a,a,a,a,a,a,a,a,a,a,a,a,a,a,a,a,a,a,a,a,a,a,a,a,a,a,a,a,a,a,a,a,a,a,a,a,a,a,a,a,a,a,a,a,a,a,a,a,a,a,a,a,a,a,a,a,a,a,a,a,a,a,a,a,a,a,a,a,a,a,a,a,a,a,a,a,a,a,a,a,a,a,a,a,a,a,a,a,a,a,a,a,a,a,a,a,a,a,a,a,a,a,a,a,a,a,a,a,a,a,a,a,a,a,a,a,a,a,a,a,a,a,a,a,a,a,a,a,a,a,a,a,a,a,a,a,a,a,a,a,a,a,a,a,a,a,a,a,a,a,a,a,a,a,a,a,a,a,a,a,a,a,a,a,a,a,a,a,a,a,a,a,a,a,a,a,a,a,a,a,a,a,a,a,a,a,a,a,a,a,a,a,a,a,a,a,a,a,a,a,a,a,a,a,a,a,a,a,a,a,a,a,a,a,a,a,a,a,a,a,a,a,a,a,a,a,a,a,a,a,a,a,a,a,a,a,a,a,a,a,a,a,a,a,a,a,a,a,a,a,a,a,a,a,a,a,a,a])" ++ 10 ∷ []

-- the bytes of words_and_line_ends.script
abbrev pub words_and_line_ends_script : List ℕ
words_and_line_ends_script = codes "  accounts" ++ 9 ∷ [] ++ codes "alice  " ++ 13 ∷ [] ++ 10 ∷ [] ++ 10 ∷ [] ++ codes "  " ++ 9 ∷ [] ++ 10 ∷ [] ++ codes "alice  run " ++ 9 ∷ [] ++ codes " 1  " ++ 13 ∷ [] ++ 10 ∷ [] ++ codes "alice" ++ 13 ∷ [] ++ 10 ∷ [] ++ codes "alice run 00000000000000000001" ++ 10 ∷ [] ++ codes "alice value 1" ++ 10 ∷ [] ++ codes "alice value x" ++ 10 ∷ [] ++ codes "carol run 1" ++ 10 ∷ [] ++ codes " alice run 1" ++ 10 ∷ [] ++ codes "alice" ++ 9 ∷ [] ++ codes "run 1" ++ 10 ∷ [] ++ codes "alice run 0"

-- the bytes of words_and_line_ends.expected
abbrev pub words_and_line_ends_output : List ℕ
words_and_line_ends_output = codes "alice + 0" ++ 10 ∷ [] ++ codes "alice - 1 syntax" ++ 10 ∷ [] ++ codes "alice - 1 syntax" ++ 10 ∷ [] ++ codes "alice - 4 noshoen" ++ 10 ∷ [] ++ codes "alice - 1 syntax" ++ 10 ∷ [] ++ codes "! account" ++ 10 ∷ [] ++ codes "! account" ++ 10 ∷ [] ++ codes "! account" ++ 10 ∷ [] ++ codes "alice + 0" ++ 10 ∷ []

-- each of these example scripts has the output that stands beside it
pub record LineExamplesHold : Type 0 where
  pub account_name_of_16_bytes : output account_name_of_16_bytes_script ≡ account_name_of_16_bytes_output
  pub account_name_of_17_bytes : output account_name_of_17_bytes_script ≡ account_name_of_17_bytes_output
  pub account_with_a_capital : output account_with_a_capital_script ≡ account_with_a_capital_output
  pub accounts_alone : output accounts_alone_script ≡ accounts_alone_output
  pub alice_beside_a_runaway_account : output alice_beside_a_runaway_account_script ≡ alice_beside_a_runaway_account_output
  pub alice_by_herself : output alice_by_herself_script ≡ alice_by_herself_output
  pub append_beside_another_account : output append_beside_another_account_script ≡ append_beside_another_account_output
  pub bad_load_lines : output bad_load_lines_script ≡ bad_load_lines_output
  pub bad_source : output bad_source_script ≡ bad_source_output
  pub blank_first_line : output blank_first_line_script ≡ blank_first_line_output
  pub blank_lines : output blank_lines_script ≡ blank_lines_output
  pub blanks_between_accounts : output blanks_between_accounts_script ≡ blanks_between_accounts_output
  pub bytes_behind_a_load : output bytes_behind_a_load_script ≡ bytes_behind_a_load_output
  pub commands_that_are_none : output commands_that_are_none_script ≡ commands_that_are_none_output
  pub doubled_account : output doubled_account_script ≡ doubled_account_output
  pub four_sessions : output four_sessions_script ≡ four_sessions_output
  pub integers_are_no_atoms : output integers_are_no_atoms_script ≡ integers_are_no_atoms_output
  pub journal_by_pages : output journal_by_pages_script ≡ journal_by_pages_output
  pub journal_names_in_quotes : output journal_names_in_quotes_script ≡ journal_names_in_quotes_output
  pub journal_of_a_start : output journal_of_a_start_script ≡ journal_of_a_start_output
  pub journal_of_each_event : output journal_of_each_event_script ≡ journal_of_each_event_output
  pub journal_of_reductions : output journal_of_reductions_script ≡ journal_of_reductions_output
  pub journal_prints_goals : output journal_prints_goals_script ≡ journal_prints_goals_output
  pub last_line_without_a_feed : output last_line_without_a_feed_script ≡ last_line_without_a_feed_output
  pub lines_of_4096_bytes : output lines_of_4096_bytes_script ≡ lines_of_4096_bytes_output
  pub load_of_no_bytes : output load_of_no_bytes_script ≡ load_of_no_bytes_output
  pub load_without_a_last_feed : output load_without_a_last_feed_script ≡ load_without_a_last_feed_output
  pub loaded_twice : output loaded_twice_script ≡ loaded_twice_output
  pub loads_of_other_names : output loads_of_other_names_script ≡ loads_of_other_names_output
  pub loads_of_others_are_skipped : output loads_of_others_are_skipped_script ≡ loads_of_others_are_skipped_output
  pub module_name_in_quotes : output module_name_in_quotes_script ≡ module_name_in_quotes_output
  pub module_without_clauses : output module_without_clauses_script ≡ module_without_clauses_output
  pub modules_are_listed : output modules_are_listed_script ≡ modules_are_listed_output
  pub modules_loaded_at_that_moment : output modules_loaded_at_that_moment_script ≡ modules_loaded_at_that_moment_output
  pub modules_of_two_accounts : output modules_of_two_accounts_script ≡ modules_of_two_accounts_output
  pub names_before_the_first_space : output names_before_the_first_space_script ≡ names_before_the_first_space_output
  pub names_from_127_and_128_codes : output names_from_127_and_128_codes_script ≡ names_from_127_and_128_codes_output
  pub names_from_codes : output names_from_codes_script ≡ names_from_codes_output
  pub names_in_order_of_first_use : output names_in_order_of_first_use_script ≡ names_in_order_of_first_use_output
  pub names_in_quotes : output names_in_quotes_script ≡ names_in_quotes_output
  pub names_of_127_and_128_bytes : output names_of_127_and_128_bytes_script ≡ names_of_127_and_128_bytes_output
  pub no_accounts : output no_accounts_script ≡ no_accounts_output
  pub no_clause_for_a_goal_that_waits : output no_clause_for_a_goal_that_waits_script ≡ no_clause_for_a_goal_that_waits_output
  pub no_cyclic_terms : output no_cyclic_terms_script ≡ no_cyclic_terms_output
  pub numbers_of_19_digits : output numbers_of_19_digits_script ≡ numbers_of_19_digits_output
  pub one_text_in_two_accounts : output one_text_in_two_accounts_script ≡ one_text_in_two_accounts_output
  pub quiet_or_not : output quiet_or_not_script ≡ quiet_or_not_output
  pub quiet_with_many_blanks : output quiet_with_many_blanks_script ≡ quiet_with_many_blanks_output
  pub refused_reduction_leaves_the_journal : output refused_reduction_leaves_the_journal_script ≡ refused_reduction_leaves_the_journal_output
  pub reset_after_each_event : output reset_after_each_event_script ≡ reset_after_each_event_output
  pub reset_keeps_names : output reset_keeps_names_script ≡ reset_keeps_names_output
  pub reset_of_another_account : output reset_of_another_account_script ≡ reset_of_another_account_output
  pub sessions_stay_through_a_reset : output sessions_stay_through_a_reset_script ≡ sessions_stay_through_a_reset_output
  pub sixteen_accounts_interleaved : output sixteen_accounts_interleaved_script ≡ sixteen_accounts_interleaved_output
  pub thirty_three_accounts : output thirty_three_accounts_script ≡ thirty_three_accounts_output
  pub thirty_two_accounts : output thirty_two_accounts_script ≡ thirty_two_accounts_output
  pub truncated_load : output truncated_load_script ≡ truncated_load_output
  pub truncated_load_of_another_name : output truncated_load_of_another_name_script ≡ truncated_load_of_another_name_output
  pub value_is_cut : output value_is_cut_script ≡ value_is_cut_output
  pub value_of_4000_bytes : output value_of_4000_bytes_script ≡ value_of_4000_bytes_output
  pub words_and_line_ends : output words_and_line_ends_script ≡ words_and_line_ends_output
