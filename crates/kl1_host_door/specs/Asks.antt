-- What a request asks for.
use Rattle.std.specs.Prelude.{ℕ, ◌==◌, nat_eq, Bool, true, false, not, if◌then◌else◌, List, [], ◌∷◌, length, drop, bytes_eq, codes, Option, Some, None, Result, Ok, Err}
use Rattle.std.specs.List.{starts_with, list_any}
use Rattle.kl1_model.specs.Line.{number_in}
use Rattle.kl1_host_door.specs.declared.refusal.Refusal.{Refusal}
use Rattle.kl1_host_door.specs.declared.refusal.Refusal.TheVariants as refusal
use Rattle.kl1_host_door.specs.declared.ask.Method.{Method}
use Rattle.kl1_host_door.specs.declared.ask.Method.TheVariants.{Get, Post}
use Rattle.kl1_host_door.specs.declared.ask.Ask.{Ask}
use Rattle.kl1_host_door.specs.declared.ask.Ask.TheVariants.{File, Login, Session, Logout, Command, Load, Account, Shoens, Waiting, Metrics, Health}

-- the method that a word names
abbrev pub method_in : List ℕ → Option Method
method_in word = if bytes_eq word (codes "GET") then Some Get else if bytes_eq word (codes "POST") then Some Post else None

-- whether something changes by what is asked for
abbrev pub is_change : Ask → Bool
is_change File = false
is_change Login = true
is_change Session = false
is_change Logout = true
is_change Command = true
is_change Load = true
is_change Account = false
is_change (Shoens from) = false
is_change Waiting = false
is_change Metrics = false
is_change Health = false

-- whether something is asked for by its method: what changes something by POST, all else by GET
abbrev pub fits : Method → Ask → Bool
fits Get ask = not (is_change ask)
fits Post ask = is_change ask

-- the path at which something stands; files have their own
abbrev pub path_of : Ask → List ℕ
path_of File = []
path_of Login = codes "/api/login"
path_of Session = codes "/api/session"
path_of Logout = codes "/api/logout"
path_of Command = codes "/api/command"
path_of Load = codes "/api/load"
path_of Account = codes "/api/account"
path_of (Shoens from) = codes "/api/shoens"
path_of Waiting = codes "/api/waiting"
path_of Metrics = codes "/metrics"
path_of Health = codes "/healthz"

-- what stands at paths of its own
abbrev pub named : List Ask
named = Login ∷ Session ∷ Logout ∷ Command ∷ Load ∷ Account ∷ Shoens 1 ∷ Waiting ∷ Metrics ∷ Health ∷ []

-- what of these stands at a path; a file if none does
abbrev pub ask_among : List ℕ → List Ask → Ask
ask_among path [] = File
ask_among path (a ∷ others) = if bytes_eq path (path_of a) then a else ask_among path others

-- what stands at a path
abbrev pub ask_at : List ℕ → Ask
ask_at path = ask_among path named

-- what is asked for, if it is by its method
abbrev pub ask_by : Method → Ask → Result Ask Refusal
ask_by method ask = if fits method ask then Ok ask else Err refusal.Method

-- the page of shoens that these digits ask for
abbrev pub page_by : Method → List ℕ → Result Ask Refusal
page_by method digits = elim (number_in digits) [ None ↦ Err refusal.Query | Some from ↦ ask_by method (Shoens from) ]

-- the path of a page of shoens up to the number of its first
abbrev pub shoens_from : List ℕ
shoens_from = codes "/api/shoens?from="

-- what a request by a method asks for of a target: a path, or a page of shoens by the number of the first; nothing else may stand
-- after a question mark
abbrev pub ask_of : Method → List ℕ → Result Ask Refusal
ask_of method target =
    if starts_with nat_eq target shoens_from then page_by method (drop (length shoens_from) target)
    else if list_any (λ b. b == 63) target then Err refusal.Query
    else ask_by method (ask_at target)
