-- What a request that is let in asks to be done.
use Rattle.std.specs.Prelude.{◌≡◌, ℕ, Bool, true, false, if◌then◌else◌, List, codes, Option, Some, None, option_and_then, IsUtf8}
use Rattle.serde_json.specs.Find.{get, as_str}
use Rattle.serde_json.specs.Read.{read}
use Rattle.serde_json.specs.View.{view}
use Rattle.serde_json.specs.declared.value.Value.{Value}
use Rattle.kl1_model.specs.declared.rules.Rules.TheVariants.{Five}
use Rattle.kl1_model.specs.Event as event
use Rattle.kl1_model_server.specs.Command as model
use Rattle.kl1_model_server.specs.Command.{Command, parse}
use Rattle.kl1_command.specs.Commands.{command_view}
use Rattle.kl1_host_door.specs.declared.ask.Ask.{Ask}
use Rattle.kl1_host_door.specs.declared.ask.Ask.TheVariants as ask
use Rattle.kl1_host_door.specs.declared.refusal.Refusal.{Refusal}
use Rattle.kl1_host_door.specs.declared.refusal.Refusal.TheVariants.{BadBody}
use Rattle.kl1_host_door.specs.declared.door.Allowed.{Allowed}
use Rattle.kl1_host_door.specs.declared.door.Allowed.TheVariants as allowed
use Rattle.kl1_host_web.specs.declared.wish.Wish.{Wish}
use Rattle.kl1_host_web.specs.declared.wish.Wish.TheVariants as wish

-- what is asked to be done: it is refused; it is a line that is no command; a name and a key are to let in; a session of an account is
-- to be closed; a command is to be done to an account; a source is to be loaded into one; it is to be told which
-- account this is; or something is to be shown, of an account or of none. Nothing of this is a session's name or its token.
pub data Wanted : Type 0 where
  refuse : Refusal → Wanted
  syntax : Wanted
  enter : List ℕ → List ℕ → Wanted
  leave : ℕ → Wanted
  do_to : ℕ → Command → Wanted
  load_into : ℕ → List ℕ → Wanted
  tell : ℕ → Wanted
  show_of : ℕ → Ask → Wanted
  show_all : Ask → Wanted

-- what this wish asks
abbrev pub wish_view : Wish → Wanted
wish_view (wish.Refuse why) = refuse why
wish_view wish.Syntax = syntax
wish_view (wish.Enter name key) = enter name.items key.items
wish_view (wish.Leave account) = leave account
wish_view (wish.Do account command) = do_to account (command_view command)
wish_view (wish.Load account source) = load_into account source.items
wish_view (wish.Tell account) = tell account
wish_view (wish.Show account ask) = show_of account ask
wish_view (wish.Open ask) = show_all ask

-- the value that a body is, if it is in UTF-8 and JSON
abbrev pub IsRead : List ℕ → Option Value → Type 0
IsRead body None = IsUtf8 body → read body ≡ None
IsRead body (Some value) = IsUtf8 body × (read body ≡ Some (view value))

-- the text that a member of a value is, if there is a value
abbrev pub text_in : List ℕ → Option Value → Option (List ℕ)
text_in name None = None
text_in name (Some value) = option_and_then as_str (get name (view value))

-- a login by the name and the key of a value
abbrev pub login_in : Option Value → Wanted
login_in value = elim (text_in (codes "name") value) [
  | None ↦ refuse BadBody
  | Some name ↦ elim (text_in (codes "key") value) [ None ↦ refuse BadBody | Some key ↦ enter name key ]
]

-- whether a command may come from a browser: logins, logouts and loads come otherwise
abbrev pub is_plain : Command → Bool
is_plain (model.does event.login) = false
is_plain (model.does event.logout) = false
is_plain (model.does (event.load source)) = false
is_plain c = true

-- a command that was parsed, done to an account
abbrev pub plain : ℕ → Option Command → Wanted
plain account None = syntax
plain account (Some c) = if is_plain c then do_to account c else syntax

-- the command that the line of a value is by the rules of a host's accounts, done to an account
abbrev pub command_in : ℕ → Option Value → Wanted
command_in account value = elim (text_in (codes "line") value) [ None ↦ refuse BadBody | Some line ↦ plain account (parse Five line) ]

-- the load of the text of a value into an account
abbrev pub load_in : ℕ → Option Value → Wanted
load_in account value = elim (text_in (codes "text") value) [ None ↦ refuse BadBody | Some text ↦ load_into account text ]

-- what is asked of the account of this number
abbrev pub owned : ℕ → Ask → Option Value → Wanted
owned account ask.Session value = tell account
owned account ask.Logout value = leave account
owned account ask.Command value = command_in account value
owned account ask.Load value = load_in account value
owned account a value = show_of account a

-- what is asked without a session
abbrev pub anyone : Ask → Option Value → Wanted
anyone ask.Login value = login_in value
anyone a value = show_all a

-- what a request that is let in wants, by the value of its body
abbrev pub wanted : Allowed → Option Value → Wanted
wanted (allowed.Anyone a) value = anyone a value
wanted (allowed.Owner id account a) value = owned account a value

-- this is what a request that is let in wants, by its body
abbrev pub IsWish : Allowed → List ℕ → Wish → Type 0
IsWish a body w = (value : Option Value) × IsRead body value × (wish_view w ≡ wanted a value)
