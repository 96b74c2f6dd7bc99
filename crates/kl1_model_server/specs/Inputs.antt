-- The inputs of a stream, and its rest.
use Rattle.std.specs.Prelude.{ℕ, nat_le, nat_lt, ◌&&◌, if◌then◌else◌, List, length, map, codes, bytes_eq, Option, Some, None}
use Rattle.kl1_model.specs.declared.limits.TheConstants.{MOST_COMMAND_BYTES}
use Rattle.kl1_model.specs.declared.rules.Rules.{Rules}
use Rattle.kl1_model.specs.Line.{word_in, behind_word_in, is_blank_line}
use Rattle.kl1_model.specs.Record.{Request, other_line}
use Rattle.kl1_model.specs.Event.{Refusal, syntax}
use Rattle.kl1_model_server.specs.Command.{Command, parse, command_of}
use Rattle.kl1_model_server.specs.Cut.{Cut, cut_of}

-- what a session is asked: to log in by a name and a key; a command; or what is none, which is refused
pub data Input : Type 0 where
  login : List ℕ → List ℕ → Input
  command : Command → Input
  refused : Refusal → Input

-- a login, from what is after the word for it: a name and a key, and nothing else
abbrev pub login_in : List ℕ → Input
login_in line =
    let after = behind_word_in line in
    if nat_lt 0 (length (word_in after)) && is_blank_line (behind_word_in after) then login (word_in line) (word_in after) else refused syntax

-- the input that a command is, if there is one
abbrev pub input_by : Option Command → Input
input_by None = refused syntax
input_by (Some c) = command c

-- the input that a request is, by the rules of the server's accounts: a line whose first word is `login` is a login with a name and a key, or is refused
abbrev pub input_of : Rules → Request → Input
input_of rules (other_line line) =
    if nat_le (length line) MOST_COMMAND_BYTES && bytes_eq (word_in line) (codes "login") then login_in (behind_word_in line) else input_by (parse rules line)
input_of rules request = input_by (command_of rules request)

-- the inputs of a cut
abbrev pub inputs_in : Rules → Cut → List Input
inputs_in rules c = map (input_of rules) c.requests

-- the inputs of a stream: its complete lines and loads
abbrev pub inputs : Rules → List ℕ → List Input
inputs rules bytes = inputs_in rules (cut_of bytes)

-- what is left of a stream after its inputs
abbrev pub rest : List ℕ → List ℕ
rest bytes = (cut_of bytes).rest
