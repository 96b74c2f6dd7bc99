-- Rows of streams: what bytes of a session ask for, and what is left of them.
use Rattle.std.specs.Prelude.{◌≡◌, ℕ, codes, List, [], ◌∷◌, ◌++◌, replicate}
use Rattle.kl1_model.specs.declared.rules.Rules.TheVariants.{Three}
use Rattle.kl1_model.specs.Record.{other_line}
use Rattle.kl1_model.specs.Event as event
use Rattle.kl1_model.specs.Event.{syntax}
use Rattle.kl1_model_server.specs.Command.{does}
use Rattle.kl1_model_server.specs.Cut.{cut_of}
use Rattle.kl1_model_server.specs.Inputs.{Input, login, command, refused, inputs, rest}

-- what bytes come to: the inputs that they are, and their rest
pub record Come : Type 0 where
  pub asked : List Input
  pub left : List ℕ

-- what these bytes come to for a server whose accounts keep to the third rules
abbrev pub come : List ℕ → Come
come bytes = record { asked = inputs Three bytes; left = rest bytes }

-- these inputs, and nothing left
abbrev pub asks : List Input → Come
asks is = record { asked = is; left = [] }

-- no input, and these bytes left
abbrev pub leaves : List ℕ → Come
leaves bytes = record { asked = []; left = bytes }

-- the command `quiet`
abbrev pub quiet_asked : Input
quiet_asked = command (does (event.read event.is_quiet))

-- the command `logout`
abbrev pub logout_asked : Input
logout_asked = command (does event.logout)

-- a load of a source
abbrev pub load_asked : List ℕ → Input
load_asked text = command (does (event.load text))

-- the rows
pub record StreamRowsHold : Type 0 where
  -- nothing asks for nothing
  pub nothing : come [] ≡ asks []
  -- a line without its end is kept
  pub unfinished_line : come (codes "quiet") ≡ leaves (codes "quiet")
  -- so is a carriage return at a cut, which may stand before a line feed
  pub return_at_a_cut : come (codes "quiet" ++ 13 ∷ []) ≡ leaves (codes "quiet" ++ 13 ∷ [])
  -- a line ends with a line feed
  pub line : come (codes "quiet" ++ 10 ∷ []) ≡ asks (quiet_asked ∷ [])
  -- and a carriage return before it is dropped
  pub line_with_a_return : come (codes "quiet" ++ 13 ∷ 10 ∷ []) ≡ asks (quiet_asked ∷ [])
  -- what follows is kept
  pub line_and_a_front : come (codes "quiet" ++ 10 ∷ codes "run 1") ≡ record { asked = quiet_asked ∷ []; left = codes "run 1" }
  -- a blank line is no command in a session
  pub empty_line : come (10 ∷ []) ≡ asks (refused syntax ∷ [])
  -- nor is a carriage return alone
  pub return_alone : come (13 ∷ 10 ∷ []) ≡ asks (refused syntax ∷ [])
  -- nor are blanks
  pub blank_line : come (codes " " ++ 9 ∷ 10 ∷ []) ≡ asks (refused syntax ∷ [])
  -- nor is another word
  pub unknown_word : come (codes "halt" ++ 10 ∷ []) ≡ asks (refused syntax ∷ [])
  -- a line may have 4,096 bytes
  pub line_of_4096_bytes : come (codes "quiet" ++ replicate 4091 32 ++ 10 ∷ []) ≡ asks (quiet_asked ∷ [])
  -- and a carriage return more
  pub line_of_4096_bytes_with_a_return : come (codes "quiet" ++ replicate 4091 32 ++ 13 ∷ 10 ∷ []) ≡ asks (quiet_asked ∷ [])
  -- a line of 4,097 bytes is refused
  pub line_of_4097_bytes : come (codes "quiet" ++ replicate 4092 32 ++ 10 ∷ []) ≡ asks (refused syntax ∷ [])
  -- also with a carriage return
  pub line_of_4097_bytes_with_a_return : come (codes "quiet" ++ replicate 4092 32 ++ 13 ∷ 10 ∷ []) ≡ asks (refused syntax ∷ [])
  -- only one of two carriage returns is dropped
  pub line_of_4096_bytes_with_two_returns : come (codes "quiet" ++ replicate 4091 32 ++ 13 ∷ 13 ∷ 10 ∷ []) ≡ asks (refused syntax ∷ [])
  -- 4,097 bytes are kept, since the last may be the carriage return
  pub front_of_4097_bytes : come (replicate 4096 97 ++ 13 ∷ []) ≡ leaves (replicate 4096 97 ++ 13 ∷ [])
  -- so are 4,098
  pub front_of_4098_bytes : come (replicate 4098 97) ≡ leaves (replicate 4098 97)
  -- and no more
  pub front_of_4099_bytes : come (replicate 4098 97 ++ codes "b") ≡ leaves (replicate 4098 97)
  -- a load takes its bytes, and all up to the next line feed
  pub load : come (codes "load 3" ++ 10 ∷ codes "abc" ++ 10 ∷ []) ≡ asks (load_asked (codes "abc") ∷ [])
  -- a carriage return may stand there
  pub load_with_returns : come (codes "load 3" ++ 13 ∷ 10 ∷ codes "abc" ++ 13 ∷ 10 ∷ []) ≡ asks (load_asked (codes "abc") ∷ [])
  -- a line feed among the bytes of a load is one of them
  pub load_of_a_line_feed : come (codes "load 3" ++ 10 ∷ codes "ab" ++ 10 ∷ 10 ∷ []) ≡ asks (load_asked (codes "ab" ++ 10 ∷ []) ∷ [])
  -- a line follows a load
  pub load_and_a_line : come (codes "load 3" ++ 10 ∷ codes "abc" ++ 10 ∷ codes "quiet" ++ 10 ∷ []) ≡ asks (load_asked (codes "abc") ∷ quiet_asked ∷ [])
  -- the line of a load is kept until its bytes are there
  pub line_of_a_load : come (codes "load 3" ++ 10 ∷ []) ≡ leaves (codes "load 3" ++ 10 ∷ [])
  -- with those that are
  pub front_of_a_load : come (codes "load 3" ++ 10 ∷ codes "ab") ≡ leaves (codes "load 3" ++ 10 ∷ codes "ab")
  -- a load ends with a line feed
  pub load_without_its_end : come (codes "load 3" ++ 10 ∷ codes "abc") ≡ leaves (codes "load 3" ++ 10 ∷ codes "abc")
  -- before which a carriage return may stand
  pub load_with_a_return_at_a_cut : come (codes "load 3" ++ 10 ∷ codes "abc" ++ 13 ∷ []) ≡ leaves (codes "load 3" ++ 10 ∷ codes "abc" ++ 13 ∷ [])
  -- a load is kept with one blank and no leading zeros
  pub load_is_kept_as_it_is_written : come (codes " load" ++ 9 ∷ codes "003 " ++ 13 ∷ 10 ∷ codes "ab") ≡ leaves (codes "load 3" ++ 10 ∷ codes "ab")
  -- two bytes are kept after those of a load
  pub front_of_a_spoiled_load : come (codes "load 3" ++ 10 ∷ codes "abcdefg") ≡ leaves (codes "load 3" ++ 10 ∷ codes "abcde")
  -- other bytes after those of a load refuse it, once
  pub spoiled_load : come (codes "load 3" ++ 10 ∷ codes "abcx" ++ 10 ∷ codes "quiet" ++ 10 ∷ []) ≡ asks (refused syntax ∷ quiet_asked ∷ [])
  -- also after a carriage return
  pub byte_after_a_return : come (codes "load 3" ++ 10 ∷ codes "abc" ++ 13 ∷ codes "x" ++ 10 ∷ codes "quiet" ++ 10 ∷ []) ≡ asks (refused syntax ∷ quiet_asked ∷ [])
  -- and so does a second carriage return
  pub two_returns_after_a_load : come (codes "load 3" ++ 10 ∷ codes "abc" ++ 13 ∷ 13 ∷ 10 ∷ codes "quiet" ++ 10 ∷ []) ≡ asks (refused syntax ∷ quiet_asked ∷ [])
  -- a load may be of no bytes
  pub load_of_nothing : come (codes "load 0" ++ 10 ∷ 10 ∷ []) ≡ asks (load_asked [] ∷ [])
  -- also before a carriage return
  pub load_of_nothing_with_a_return : come (codes "load 0" ++ 10 ∷ 13 ∷ 10 ∷ []) ≡ asks (load_asked [] ∷ [])
  -- but before no other byte
  pub spoiled_load_of_nothing : come (codes "load 0" ++ 10 ∷ codes "x" ++ 10 ∷ []) ≡ asks (refused syntax ∷ [])
  -- a load of 65,537 bytes is refused, and lines follow it
  pub load_of_65537_bytes : come (codes "load 65537" ++ 10 ∷ codes "quiet" ++ 10 ∷ []) ≡ asks (refused syntax ∷ quiet_asked ∷ [])
  -- so is one without a number
  pub load_of_no_number : come (codes "load" ++ 10 ∷ codes "quiet" ++ 10 ∷ []) ≡ asks (refused syntax ∷ quiet_asked ∷ [])
  -- one with two
  pub load_of_two_numbers : come (codes "load 2 3" ++ 10 ∷ codes "quiet" ++ 10 ∷ []) ≡ asks (refused syntax ∷ quiet_asked ∷ [])
  -- and one of 20 digits
  pub load_of_20_digits : come (codes "load 00000000000000000003" ++ 10 ∷ codes "quiet" ++ 10 ∷ []) ≡ asks (refused syntax ∷ quiet_asked ∷ [])
  -- the line of a load may have 4,096 bytes
  pub load_line_of_4096_bytes : come (codes "load 1" ++ replicate 4090 32 ++ 10 ∷ codes "x" ++ 10 ∷ []) ≡ asks (load_asked (codes "x") ∷ [])
  -- but no more
  pub load_line_of_4097_bytes : come (codes "load 1" ++ replicate 4091 32 ++ 10 ∷ codes "x" ++ 10 ∷ []) ≡ asks (refused syntax ∷ refused syntax ∷ [])
  -- a login has a name and a key
  pub login_of_two_words : come (codes "login a k" ++ 10 ∷ []) ≡ asks (login (codes "a") (codes "k") ∷ [])
  -- with blanks round each word
  pub login_with_blanks : come (codes " login" ++ 9 ∷ codes " a  k " ++ 13 ∷ 10 ∷ []) ≡ asks (login (codes "a") (codes "k") ∷ [])
  -- without them it is refused
  pub login_alone : come (codes "login" ++ 10 ∷ []) ≡ asks (refused syntax ∷ [])
  -- also without the key
  pub login_without_a_key : come (codes "login a" ++ 10 ∷ []) ≡ asks (refused syntax ∷ [])
  -- and with a third word
  pub login_of_three_words : come (codes "login a b c" ++ 10 ∷ []) ≡ asks (refused syntax ∷ [])
  -- whose name it is, is asked later
  pub login_of_no_account : come (codes "login Bob k" ++ 10 ∷ []) ≡ asks (login (codes "Bob") (codes "k") ∷ [])
  -- a login of 4,097 bytes is refused
  pub login_of_4097_bytes : come (codes "login a k" ++ replicate 4088 32 ++ 10 ∷ []) ≡ asks (refused syntax ∷ [])
  -- a logout is a command
  pub logout : come (codes "logout" ++ 10 ∷ []) ≡ asks (logout_asked ∷ [])
  -- no other carriage return is dropped
  pub returns_in_a_line : cut_of (codes "a" ++ 13 ∷ codes "b" ++ 13 ∷ 13 ∷ 10 ∷ []) ≡ record { requests = other_line (codes "a" ++ 13 ∷ codes "b" ++ 13 ∷ []) ∷ []; rest = [] }
