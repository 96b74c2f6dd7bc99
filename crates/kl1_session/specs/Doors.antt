-- Who is let in, and what becomes of what a session is asked.
use Rattle.std.specs.Prelude.{ℕ, List, Option, Some, None}
use Rattle.kl1_model.specs.Event as event
use Rattle.kl1_model.specs.Event.{Refusal}
use Rattle.kl1_model_server.specs.Command.{Command, does}
use Rattle.kl1_model_server.specs.Inputs.{Input, login, command, refused}

-- who is let in: the account, by its number from 0, to which a name and a key let in
abbrev pub Opens : Type 0
Opens = List ℕ → List ℕ → Option ℕ

-- what becomes of an input: it is refused; it is refused as a login, or since there is none; a session of an account, by number,
-- begins, or ends; or a command is done to that account
pub data Action : Type 0 where
  refuse : Refusal → Action
  refuse_login : Action
  log_in : ℕ → Action
  log_out : ℕ → Action
  perform : ℕ → Command → Action

-- a login of one who isn't logged in, by the account to which it lets in
abbrev pub entering : Option ℕ → Action
entering None = refuse_login
entering (Some n) = log_in n

-- a command of one who is logged in to account `n`: a second login is refused, and a logout ends the session
abbrev pub doing : ℕ → Command → Action
doing n (does event.login) = refuse_login
doing n (does event.logout) = log_out n
doing n c = perform n c

-- what becomes of an input of `visitor`, who is logged in to the account with that number, or to none
abbrev pub action_of : Opens → Option ℕ → Input → Action
action_of opens visitor (refused r) = refuse r
action_of opens None (login name key) = entering (opens name key)
action_of opens None (command c) = refuse_login
action_of opens (Some n) (login name key) = refuse_login
action_of opens (Some n) (command c) = doing n c
