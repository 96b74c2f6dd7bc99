-- Actions in the definitions.
use Rattle.std.specs.Prelude.{ℕ, ◌<◌, ⊤, Option, IfSome}
use Rattle.kl1_user_events.specs.Views.{refusal_of}
use Rattle.kl1_command.specs.Commands.{command_view}
use Rattle.kl1_session.specs.Doors as doors
use Rattle.kl1_session.specs.declared.action.Action.{Action}
use Rattle.kl1_session.specs.declared.action.Action.TheVariants as action

-- the action that this one is
abbrev pub action_view : Action → doors.Action
action_view (action.Refuse r) = doors.refuse (refusal_of r)
action_view action.RefuseLogin = doors.refuse_login
action_view (action.LogIn n) = doors.log_in n
action_view (action.LogOut n) = doors.log_out n
action_view (action.Perform n c) = doors.perform n (command_view c.now)

-- the account of an action, if it has one, is one of n
abbrev pub IsOfOne : ℕ → Action → Type 0
IsOfOne n (action.Refuse r) = ⊤
IsOfOne n action.RefuseLogin = ⊤
IsOfOne n (action.LogIn account) = account < n
IsOfOne n (action.LogOut account) = account < n
IsOfOne n (action.Perform account c) = account < n

-- who is logged in is so to one of n accounts
abbrev pub IsVisitor : ℕ → Option ℕ → Type 0
IsVisitor n visitor = IfSome visitor (λ account. account < n)
