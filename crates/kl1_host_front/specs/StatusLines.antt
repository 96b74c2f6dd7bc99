-- What is told of a host that runs: a line for each of its numbers, and one for each account.
use Rattle.std.specs.Prelude.{ℕ, Bool, if◌then◌else◌, List, [], ◌∷◌, ◌++◌, codes, decimal}
use Rattle.kl1_host_front.specs.declared.status_lines.Number.{Number}

-- a number with its name
pub record Named : Type 0 where
  pub name : List ℕ
  pub number : ℕ

abbrev pub number_view : Number → Named
number_view n = record { name = n.name.now; number = n.number }

-- a name, a space and a number
abbrev pub number_words : Named → List ℕ
number_words n = n.name ++ 32 ∷ decimal n.number

-- a line for each number
abbrev pub host_lines : List Named → List ℕ
host_lines [] = []
host_lines (n ∷ ns) = number_words n ++ 10 ∷ host_lines ns

-- numbers, each with a space in front
abbrev pub numbers_words : List Named → List ℕ
numbers_words [] = []
numbers_words (n ∷ ns) = 32 ∷ number_words n ++ numbers_words ns

-- the end of an account's line
abbrev pub state_of : Bool → List ℕ
state_of is_stopped = if is_stopped then codes " stopped" ++ 10 ∷ [] else codes " runs" ++ 10 ∷ []

-- the line of an account
abbrev pub account_line : List ℕ → List Named → Bool → List ℕ
account_line name numbers is_stopped = codes "account " ++ name ++ numbers_words numbers ++ state_of is_stopped
