-- A conversation: what the inputs of a connection come to, one after another.
use Rattle.std.specs.Prelude.{◌≡◌, ◌||◌, ℕ, Bool, true, false, if◌then◌else◌, List, [], ◌∷◌, ◌++◌, codes, Option, Some, None}
use Rattle.kl1_model.specs.Event as event
use Rattle.kl1_model_server.specs.Command.{Command, does, reply_lines, written_line, written_lines}
use Rattle.kl1_model_server.specs.Inputs.{Input}
use Rattle.kl1_user_events.specs.declared.reply.Reply.TheVariants as reply
use Rattle.kl1_command.specs.declared.performed.Performed.{Performed}
use Rattle.kl1_command.specs.declared.performed.Performed.TheVariants as performed
use Rattle.kl1_session.specs.Doors.{Opens, Action, refuse, refuse_login, log_in, log_out, perform, action_of}
use Rattle.kl1_session.specs.Replies.{told}

-- a command that was done to an account, by its number from 0, and what was answered
pub record Done : Type 0 where
  pub account : ℕ
  pub command : Command
  pub answer : Performed

-- what inputs come to: what is done for them, what is told, to which account the visitor is logged in then, and whether a logout
-- was done, after which no input is answered
pub record Turn : Type 0 where
  pub done : List Done
  pub told : List ℕ
  pub visitor : Option ℕ
  pub is_last : Bool

-- nothing is done or told
abbrev pub silence : Option ℕ → Turn
silence visitor = record { done = []; told = []; visitor = visitor; is_last = false }

-- nothing is done, and this is told
abbrev pub refusing : Option ℕ → List ℕ → Turn
refusing visitor text = record { done = []; told = text; visitor = visitor; is_last = false }

-- a command is done to an account, and what is answered is told
abbrev pub performing : ℕ → Command → Performed → Option ℕ → Bool → Turn
performing n c answer visitor is_last = record { done = record { account = n; command = c; answer = answer } ∷ []; told = told answer; visitor = visitor; is_last = is_last }

-- whether an answer lets in, and whether it is that to a logout
abbrev pub is_welcome : Performed → Bool
is_welcome (performed.Whole (reply.Welcome name)) = true
is_welcome answer = false

abbrev pub is_bye : Performed → Bool
is_bye (performed.Whole reply.Bye) = true
is_bye answer = false

-- how an action is answered to who is logged in so: a command may have any answer, a login that isn't answered by `welcome` lets
-- nobody in, and a logout that isn't answered by `bye` leaves the session open
abbrev pub Answers : Option ℕ → Action → Turn → Type 0
Answers visitor (refuse r) turn = turn ≡ refusing visitor (written_lines (reply_lines (event.refused r)))
Answers visitor refuse_login turn = turn ≡ refusing visitor (written_line (codes "- 11 login"))
Answers visitor (log_in n) turn = (answer : Performed) × (turn ≡ performing n (does event.login) answer (if is_welcome answer then Some n else visitor) false)
Answers visitor (log_out n) turn = (answer : Performed) × (turn ≡ performing n (does event.logout) answer (if is_bye answer then None else visitor) (is_bye answer))
Answers visitor (perform n c) turn = (answer : Performed) × (turn ≡ performing n c answer visitor false)

-- what comes to one turn, and then to another
abbrev pub both : Turn → Turn → Turn
both t u = record { done = t.done ++ u.done; told = t.told ++ u.told; visitor = u.visitor; is_last = t.is_last || u.is_last }

-- what inputs of who is logged in so come to, one after another: of each what `action_of` says, by the login that the answers before it
-- leave; and none after a logout
abbrev pub Converses : Opens → Option ℕ → List Input → Turn → Type 0
Converses opens visitor [] turn = turn ≡ silence visitor
Converses opens visitor (i ∷ is) turn =
    (first : Turn) × (rest : Turn) × Answers visitor (action_of opens visitor i) first × (first.is_last ≡ true → is ≡ []) × Converses opens first.visitor is rest × (turn ≡ both first rest)

-- the list of what was done goes on with a logout if a session is open, and else stays as it is
abbrev pub Closes : Option ℕ → List Done → List Done → Type 0
Closes None before after = after ≡ before
Closes (Some n) before after = (answer : Performed) × (after ≡ before ++ record { account = n; command = does event.logout; answer = answer } ∷ [])
