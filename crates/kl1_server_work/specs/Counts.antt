-- The numbers among the words of the server, and what it tells at the end.
use Rattle.std.specs.Prelude.{ℕ, nat_le, ◌&&◌, if◌then◌else◌, List, [], ◌∷◌, ◌++◌, length, codes, decimal, Option, Some, None, option_map, option_and_then}
use Rattle.std.specs.List.{list_all}
use Rattle.kl1_model.specs.Token.{is_digit, number_of}
use Rattle.kl1_server_work.specs.declared.words.TheConstants.{MOST_ACCEPT, MOST_WORKERS}

-- the number from 1 to `most` that a word is: digits, at least one
abbrev pub count_in : ℕ → List ℕ → Option ℕ
count_in most w = if nat_le 1 (length w) && list_all is_digit w && nat_le 1 (number_of w) && nat_le (number_of w) most then Some (number_of w) else None

-- what a server is asked for: its file of accounts, where it listens, how many workers it has, and how many connections it accepts
pub record Asked : Type 0 where
  pub file : List ℕ
  pub address : List ℕ
  pub workers : ℕ
  pub accept : ℕ

abbrev pub asked : List ℕ → List ℕ → ℕ → ℕ → Asked
asked file address workers accept = record { file = file; address = address; workers = workers; accept = accept }

-- what the words FILE, ADDRESS, WORKERS and ACCEPT ask for, if the last two are numbers that they may be
abbrev pub asked_by : List ℕ → List ℕ → List ℕ → List ℕ → Option Asked
asked_by file address workers accept = option_and_then (λ w. option_map (λ a. asked file address w a) (count_in MOST_ACCEPT accept)) (count_in MOST_WORKERS workers)

-- how many connections were accepted, and how many events and steps were done
abbrev pub served_line : ℕ → ℕ → ℕ → List ℕ
served_line accepted events steps = codes "served " ++ decimal accepted ++ codes " events " ++ decimal events ++ codes " steps " ++ decimal steps ++ 10 ∷ []
