-- The rows of streams, computed.
use Rattle.std.specs.Prelude.{◌≡◌, codes, [], ◌∷◌, ◌++◌, refl, replicate}
use Rattle.std.specs.Fmt.{digits}
use Rattle.kl1_model.specs.Record.{other_line}
use Rattle.kl1_model.specs.Event.{syntax}
use Rattle.kl1_model_server.specs.Cut.{cut_within, cut_of}
use Rattle.kl1_model_server.specs.Inputs.{login, refused}
use Rattle.kl1_model_laws.specs.StreamRows.{come, asks, leaves, quiet_asked, logout_asked, load_asked, StreamRowsHold}

nothing_row : come [] ≡ asks []
unfolding digits cut_within
nothing_row = refl

unfinished_line_row : come (codes "quiet") ≡ leaves (codes "quiet")
unfolding digits cut_within
unfinished_line_row = refl

return_at_a_cut_row : come (codes "quiet" ++ 13 ∷ []) ≡ leaves (codes "quiet" ++ 13 ∷ [])
unfolding digits cut_within
return_at_a_cut_row = refl

line_row : come (codes "quiet" ++ 10 ∷ []) ≡ asks (quiet_asked ∷ [])
unfolding digits cut_within
line_row = refl

line_with_a_return_row : come (codes "quiet" ++ 13 ∷ 10 ∷ []) ≡ asks (quiet_asked ∷ [])
unfolding digits cut_within
line_with_a_return_row = refl

line_and_a_front_row : come (codes "quiet" ++ 10 ∷ codes "run 1") ≡ record { asked = quiet_asked ∷ []; left = codes "run 1" }
unfolding digits cut_within
line_and_a_front_row = refl

empty_line_row : come (10 ∷ []) ≡ asks (refused syntax ∷ [])
unfolding digits cut_within
empty_line_row = refl

return_alone_row : come (13 ∷ 10 ∷ []) ≡ asks (refused syntax ∷ [])
unfolding digits cut_within
return_alone_row = refl

blank_line_row : come (codes " " ++ 9 ∷ 10 ∷ []) ≡ asks (refused syntax ∷ [])
unfolding digits cut_within
blank_line_row = refl

unknown_word_row : come (codes "halt" ++ 10 ∷ []) ≡ asks (refused syntax ∷ [])
unfolding digits cut_within
unknown_word_row = refl

line_of_4096_bytes_row : come (codes "quiet" ++ replicate 4091 32 ++ 10 ∷ []) ≡ asks (quiet_asked ∷ [])
unfolding digits cut_within
line_of_4096_bytes_row = refl

line_of_4096_bytes_with_a_return_row : come (codes "quiet" ++ replicate 4091 32 ++ 13 ∷ 10 ∷ []) ≡ asks (quiet_asked ∷ [])
unfolding digits cut_within
line_of_4096_bytes_with_a_return_row = refl

line_of_4097_bytes_row : come (codes "quiet" ++ replicate 4092 32 ++ 10 ∷ []) ≡ asks (refused syntax ∷ [])
unfolding digits cut_within
line_of_4097_bytes_row = refl

line_of_4097_bytes_with_a_return_row : come (codes "quiet" ++ replicate 4092 32 ++ 13 ∷ 10 ∷ []) ≡ asks (refused syntax ∷ [])
unfolding digits cut_within
line_of_4097_bytes_with_a_return_row = refl

line_of_4096_bytes_with_two_returns_row : come (codes "quiet" ++ replicate 4091 32 ++ 13 ∷ 13 ∷ 10 ∷ []) ≡ asks (refused syntax ∷ [])
unfolding digits cut_within
line_of_4096_bytes_with_two_returns_row = refl

front_of_4097_bytes_row : come (replicate 4096 97 ++ 13 ∷ []) ≡ leaves (replicate 4096 97 ++ 13 ∷ [])
unfolding digits cut_within
front_of_4097_bytes_row = refl

front_of_4098_bytes_row : come (replicate 4098 97) ≡ leaves (replicate 4098 97)
unfolding digits cut_within
front_of_4098_bytes_row = refl

front_of_4099_bytes_row : come (replicate 4098 97 ++ codes "b") ≡ leaves (replicate 4098 97)
unfolding digits cut_within
front_of_4099_bytes_row = refl

load_row : come (codes "load 3" ++ 10 ∷ codes "abc" ++ 10 ∷ []) ≡ asks (load_asked (codes "abc") ∷ [])
unfolding digits cut_within
load_row = refl

load_with_returns_row : come (codes "load 3" ++ 13 ∷ 10 ∷ codes "abc" ++ 13 ∷ 10 ∷ []) ≡ asks (load_asked (codes "abc") ∷ [])
unfolding digits cut_within
load_with_returns_row = refl

load_of_a_line_feed_row : come (codes "load 3" ++ 10 ∷ codes "ab" ++ 10 ∷ 10 ∷ []) ≡ asks (load_asked (codes "ab" ++ 10 ∷ []) ∷ [])
unfolding digits cut_within
load_of_a_line_feed_row = refl

load_and_a_line_row : come (codes "load 3" ++ 10 ∷ codes "abc" ++ 10 ∷ codes "quiet" ++ 10 ∷ []) ≡ asks (load_asked (codes "abc") ∷ quiet_asked ∷ [])
unfolding digits cut_within
load_and_a_line_row = refl

line_of_a_load_row : come (codes "load 3" ++ 10 ∷ []) ≡ leaves (codes "load 3" ++ 10 ∷ [])
unfolding digits cut_within
line_of_a_load_row = refl

front_of_a_load_row : come (codes "load 3" ++ 10 ∷ codes "ab") ≡ leaves (codes "load 3" ++ 10 ∷ codes "ab")
unfolding digits cut_within
front_of_a_load_row = refl

load_without_its_end_row : come (codes "load 3" ++ 10 ∷ codes "abc") ≡ leaves (codes "load 3" ++ 10 ∷ codes "abc")
unfolding digits cut_within
load_without_its_end_row = refl

load_with_a_return_at_a_cut_row : come (codes "load 3" ++ 10 ∷ codes "abc" ++ 13 ∷ []) ≡ leaves (codes "load 3" ++ 10 ∷ codes "abc" ++ 13 ∷ [])
unfolding digits cut_within
load_with_a_return_at_a_cut_row = refl

load_is_kept_as_it_is_written_row : come (codes " load" ++ 9 ∷ codes "003 " ++ 13 ∷ 10 ∷ codes "ab") ≡ leaves (codes "load 3" ++ 10 ∷ codes "ab")
unfolding digits cut_within
load_is_kept_as_it_is_written_row = refl

front_of_a_spoiled_load_row : come (codes "load 3" ++ 10 ∷ codes "abcdefg") ≡ leaves (codes "load 3" ++ 10 ∷ codes "abcde")
unfolding digits cut_within
front_of_a_spoiled_load_row = refl

spoiled_load_row : come (codes "load 3" ++ 10 ∷ codes "abcx" ++ 10 ∷ codes "quiet" ++ 10 ∷ []) ≡ asks (refused syntax ∷ quiet_asked ∷ [])
unfolding digits cut_within
spoiled_load_row = refl

byte_after_a_return_row : come (codes "load 3" ++ 10 ∷ codes "abc" ++ 13 ∷ codes "x" ++ 10 ∷ codes "quiet" ++ 10 ∷ []) ≡ asks (refused syntax ∷ quiet_asked ∷ [])
unfolding digits cut_within
byte_after_a_return_row = refl

two_returns_after_a_load_row : come (codes "load 3" ++ 10 ∷ codes "abc" ++ 13 ∷ 13 ∷ 10 ∷ codes "quiet" ++ 10 ∷ []) ≡ asks (refused syntax ∷ quiet_asked ∷ [])
unfolding digits cut_within
two_returns_after_a_load_row = refl

load_of_nothing_row : come (codes "load 0" ++ 10 ∷ 10 ∷ []) ≡ asks (load_asked [] ∷ [])
unfolding digits cut_within
load_of_nothing_row = refl

load_of_nothing_with_a_return_row : come (codes "load 0" ++ 10 ∷ 13 ∷ 10 ∷ []) ≡ asks (load_asked [] ∷ [])
unfolding digits cut_within
load_of_nothing_with_a_return_row = refl

spoiled_load_of_nothing_row : come (codes "load 0" ++ 10 ∷ codes "x" ++ 10 ∷ []) ≡ asks (refused syntax ∷ [])
unfolding digits cut_within
spoiled_load_of_nothing_row = refl

load_of_65537_bytes_row : come (codes "load 65537" ++ 10 ∷ codes "quiet" ++ 10 ∷ []) ≡ asks (refused syntax ∷ quiet_asked ∷ [])
unfolding digits cut_within
load_of_65537_bytes_row = refl

load_of_no_number_row : come (codes "load" ++ 10 ∷ codes "quiet" ++ 10 ∷ []) ≡ asks (refused syntax ∷ quiet_asked ∷ [])
unfolding digits cut_within
load_of_no_number_row = refl

load_of_two_numbers_row : come (codes "load 2 3" ++ 10 ∷ codes "quiet" ++ 10 ∷ []) ≡ asks (refused syntax ∷ quiet_asked ∷ [])
unfolding digits cut_within
load_of_two_numbers_row = refl

load_of_20_digits_row : come (codes "load 00000000000000000003" ++ 10 ∷ codes "quiet" ++ 10 ∷ []) ≡ asks (refused syntax ∷ quiet_asked ∷ [])
unfolding digits cut_within
load_of_20_digits_row = refl

load_line_of_4096_bytes_row : come (codes "load 1" ++ replicate 4090 32 ++ 10 ∷ codes "x" ++ 10 ∷ []) ≡ asks (load_asked (codes "x") ∷ [])
unfolding digits cut_within
load_line_of_4096_bytes_row = refl

load_line_of_4097_bytes_row : come (codes "load 1" ++ replicate 4091 32 ++ 10 ∷ codes "x" ++ 10 ∷ []) ≡ asks (refused syntax ∷ refused syntax ∷ [])
unfolding digits cut_within
load_line_of_4097_bytes_row = refl

login_of_two_words_row : come (codes "login a k" ++ 10 ∷ []) ≡ asks (login (codes "a") (codes "k") ∷ [])
unfolding digits cut_within
login_of_two_words_row = refl

login_with_blanks_row : come (codes " login" ++ 9 ∷ codes " a  k " ++ 13 ∷ 10 ∷ []) ≡ asks (login (codes "a") (codes "k") ∷ [])
unfolding digits cut_within
login_with_blanks_row = refl

login_alone_row : come (codes "login" ++ 10 ∷ []) ≡ asks (refused syntax ∷ [])
unfolding digits cut_within
login_alone_row = refl

login_without_a_key_row : come (codes "login a" ++ 10 ∷ []) ≡ asks (refused syntax ∷ [])
unfolding digits cut_within
login_without_a_key_row = refl

login_of_three_words_row : come (codes "login a b c" ++ 10 ∷ []) ≡ asks (refused syntax ∷ [])
unfolding digits cut_within
login_of_three_words_row = refl

login_of_no_account_row : come (codes "login Bob k" ++ 10 ∷ []) ≡ asks (login (codes "Bob") (codes "k") ∷ [])
unfolding digits cut_within
login_of_no_account_row = refl

login_of_4097_bytes_row : come (codes "login a k" ++ replicate 4088 32 ++ 10 ∷ []) ≡ asks (refused syntax ∷ [])
unfolding digits cut_within
login_of_4097_bytes_row = refl

logout_row : come (codes "logout" ++ 10 ∷ []) ≡ asks (logout_asked ∷ [])
unfolding digits cut_within
logout_row = refl

returns_in_a_line_row : cut_of (codes "a" ++ 13 ∷ codes "b" ++ 13 ∷ 13 ∷ 10 ∷ []) ≡ record { requests = other_line (codes "a" ++ 13 ∷ codes "b" ++ 13 ∷ []) ∷ []; rest = [] }
unfolding digits cut_within
returns_in_a_line_row = refl

-- all of them
pub stream_rows_hold : StreamRowsHold
stream_rows_hold = record { nothing = nothing_row; unfinished_line = unfinished_line_row; return_at_a_cut = return_at_a_cut_row; line = line_row; line_with_a_return = line_with_a_return_row; line_and_a_front = line_and_a_front_row; empty_line = empty_line_row; return_alone = return_alone_row; blank_line = blank_line_row; unknown_word = unknown_word_row; line_of_4096_bytes = line_of_4096_bytes_row; line_of_4096_bytes_with_a_return = line_of_4096_bytes_with_a_return_row; line_of_4097_bytes = line_of_4097_bytes_row; line_of_4097_bytes_with_a_return = line_of_4097_bytes_with_a_return_row; line_of_4096_bytes_with_two_returns = line_of_4096_bytes_with_two_returns_row; front_of_4097_bytes = front_of_4097_bytes_row; front_of_4098_bytes = front_of_4098_bytes_row; front_of_4099_bytes = front_of_4099_bytes_row; load = load_row; load_with_returns = load_with_returns_row; load_of_a_line_feed = load_of_a_line_feed_row; load_and_a_line = load_and_a_line_row; line_of_a_load = line_of_a_load_row; front_of_a_load = front_of_a_load_row; load_without_its_end = load_without_its_end_row; load_with_a_return_at_a_cut = load_with_a_return_at_a_cut_row; load_is_kept_as_it_is_written = load_is_kept_as_it_is_written_row; front_of_a_spoiled_load = front_of_a_spoiled_load_row; spoiled_load = spoiled_load_row; byte_after_a_return = byte_after_a_return_row; two_returns_after_a_load = two_returns_after_a_load_row; load_of_nothing = load_of_nothing_row; load_of_nothing_with_a_return = load_of_nothing_with_a_return_row; spoiled_load_of_nothing = spoiled_load_of_nothing_row; load_of_65537_bytes = load_of_65537_bytes_row; load_of_no_number = load_of_no_number_row; load_of_two_numbers = load_of_two_numbers_row; load_of_20_digits = load_of_20_digits_row; load_line_of_4096_bytes = load_line_of_4096_bytes_row; load_line_of_4097_bytes = load_line_of_4097_bytes_row; login_of_two_words = login_of_two_words_row; login_with_blanks = login_with_blanks_row; login_alone = login_alone_row; login_without_a_key = login_without_a_key_row; login_of_three_words = login_of_three_words_row; login_of_no_account = login_of_no_account_row; login_of_4097_bytes = login_of_4097_bytes_row; logout = logout_row; returns_in_a_line = returns_in_a_line_row }
