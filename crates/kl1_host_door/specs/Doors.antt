-- Who is let in, and to what.
use Rattle.std.specs.Prelude.{ℕ, nat_eq, nat_lt, Bool, false, not, ◌&&◌, ◌||◌, if◌then◌else◌, List, [], slice_get, bytes_eq, codes, Option, Some, None, Result, Ok, Err}
use Rattle.std.specs.List.{list_any, starts_with}
use Rattle.kl1_session.specs.Files.{Entry}
use Rattle.kl1_host_door.specs.declared.refusal.Refusal.{Refusal}
use Rattle.kl1_host_door.specs.declared.refusal.Refusal.TheVariants as refusal
use Rattle.kl1_host_door.specs.declared.ask.Ask.{Ask}
use Rattle.kl1_host_door.specs.declared.ask.Ask.TheVariants.{File, Login, Session, Logout, Command, Load, Account, Shoens, Waiting, Metrics, Health}
use Rattle.kl1_host_door.specs.declared.field.Field.{Field}
use Rattle.kl1_host_door.specs.declared.head.Head.{Head}
use Rattle.kl1_host_door.specs.declared.session.WebSession.{WebSession}
use Rattle.kl1_host_door.specs.declared.door.Site.{Site}
use Rattle.kl1_host_door.specs.declared.door.Allowed.{Allowed}
use Rattle.kl1_host_door.specs.declared.door.Allowed.TheVariants as allowed
use Rattle.kl1_host_door.specs.declared.door.Right.{Right}
use Rattle.kl1_host_door.specs.declared.door.Right.TheVariants as right
use Rattle.kl1_host_door.specs.Fields.{value_of, are_single}
use Rattle.kl1_host_door.specs.Asks.{method_in, ask_of}
use Rattle.kl1_host_door.specs.Sessions.{session_of, owner_of}

-- whether the host is known by this name
abbrev pub is_host : List Site → List ℕ → Bool
is_host sites host = list_any (λ site. bytes_eq site.host.items host) sites

-- whether a page of this name comes from there
abbrev pub is_origin : List Site → List ℕ → List ℕ → Bool
is_origin sites host origin = list_any (λ site. bytes_eq site.host.items host && bytes_eq site.origin.items origin) sites

-- whether a page of this name comes by https
abbrev pub is_by_https : List Site → List ℕ → Bool
is_by_https sites host = list_any (λ site. bytes_eq site.host.items host && starts_with nat_eq site.origin.items (codes "https:")) sites

-- whether a request is of a page that comes by https
abbrev pub is_secure : Head → List Site → Bool
is_secure head sites = elim (value_of (codes "host") head.fields.items) [ None ↦ false | Some host ↦ is_by_https sites host ]

-- why a request isn't one to the host from its own page, or from none
abbrev pub site_refusal : List Field → List Site → Option Refusal
site_refusal fields sites = elim (value_of (codes "host") fields) [
  | None ↦ Some refusal.NoHost
  | Some host ↦ if is_host sites host
      then elim (value_of (codes "origin") fields) [
        | None ↦ None
        | Some origin ↦ if is_origin sites host origin then None else Some refusal.OtherOrigin
      ]
      else Some refusal.OtherHost
]

-- who may have what is asked for: files and a login anyone, what the host has done the machine itself, and all that is of an account who
-- has the cookie of one of its sessions and that session's token
abbrev pub right_of : Ask → Right
right_of File = right.Anyone
right_of Login = right.Anyone
right_of Session = right.Owner
right_of Logout = right.Owner
right_of Command = right.Owner
right_of Load = right.Owner
right_of Account = right.Owner
right_of (Shoens from) = right.Owner
right_of Waiting = right.Owner
right_of Metrics = right.Machine
right_of Health = right.Machine

-- what the key of an account is known by
abbrev pub mark_at : List Entry → ℕ → List ℕ
mark_at entries account = elim (slice_get entries account) [ None ↦ [] | Some entry ↦ entry.key ]

-- a session lets in nobody whose last request was before a second, or whose account doesn't have the key by which it was opened; and each other
-- one to its account
abbrev pub by_session : Ask → WebSession → ℕ → List Entry → Result Allowed Refusal
by_session ask session since entries =
    if nat_lt session.last since || not (bytes_eq (mark_at entries session.account) session.mark)
    then Err refusal.Nobody
    else Ok (allowed.Owner session.id session.account ask)

-- who has the cookie of a session and its token is let in to its account. A browser sends the cookie to each port of a host's name, and the
-- token only to who asks as the page does: so a cookie alone lets in to nothing.
abbrev pub by_owner : Ask → List Field → List WebSession → ℕ → List Entry → Result Allowed Refusal
by_owner ask fields sessions since entries = elim (owner_of fields sessions) [
  | None ↦ elim (session_of fields sessions) [ None ↦ Err refusal.Nobody | Some session ↦ Err refusal.Token ]
  | Some session ↦ by_session ask session since entries
]

-- by the right that is wanted
abbrev pub by_right : Right → Ask → List Field → List WebSession → Bool → ℕ → List Entry → Result Allowed Refusal
by_right right.Anyone ask fields sessions is_local since entries = Ok (allowed.Anyone ask)
by_right right.Machine ask fields sessions is_local since entries = if is_local then Ok (allowed.Anyone ask) else Err refusal.NotLocal
by_right right.Owner ask fields sessions is_local since entries = by_owner ask fields sessions since entries

-- who may have what is asked for is let in
abbrev pub admitted : Ask → List Field → List WebSession → Bool → ℕ → List Entry → Result Allowed Refusal
admitted ask fields sessions is_local since entries = by_right (right_of ask) ask fields sessions is_local since entries

-- what a head asks for
abbrev pub ask_in : Head → Result Ask Refusal
ask_in head = elim (method_in head.method.items) [ None ↦ Err refusal.Method | Some method ↦ ask_of method head.target.items ]

-- what a request may have: nothing if a field stands twice by which it is let in, if it names another host, or if it comes from the
-- page of another; and else what it asks for, if it may have that by a session whose last request wasn't before a second, and which was opened
-- by the key that stands at its account among these
abbrev pub authorized : Head → List WebSession → List Site → Bool → ℕ → List Entry → Result Allowed Refusal
authorized head sessions sites is_local since entries =
    if are_single head.fields.items
    then elim (site_refusal head.fields.items sites) [
      | None ↦ elim (ask_in head) [ Err why ↦ Err why | Ok ask ↦ admitted ask head.fields.items sessions is_local since entries ]
      | Some why ↦ Err why
    ]
    else Err refusal.Repeated
