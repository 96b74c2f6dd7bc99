-- Which session a request is of.
use Rattle.std.specs.Prelude.{ℕ, ◌==◌, nat_eq, nat_le, Bool, true, false, ◌&&◌, ◌||◌, if◌then◌else◌, List, [], ◌∷◌, length, take, drop, bytes_eq, codes, Option, Some, None}
use Rattle.std.specs.List.{starts_with}
use Rattle.kl1_host_door.specs.declared.limits.TheConstants.{SECRET_BYTES}
use Rattle.kl1_host_door.specs.declared.field.Field.{Field}
use Rattle.kl1_host_door.specs.declared.session.WebSession.{WebSession}
use Rattle.kl1_host_door.specs.Fields.{value_of}

-- how the cookie of a session begins
abbrev pub cookie_name : List ℕ
cookie_name = codes "kl1="

-- what stands before that if the page came by https
abbrev pub by_https : List ℕ
by_https = codes "__Host-"

-- whether a cookie ends before this
abbrev pub is_end : List ℕ → Bool
is_end [] = true
is_end (b ∷ bs) = b == 59

-- whether what stands after the name of a cookie is the name of this session
abbrev pub is_of : List ℕ → WebSession → Bool
is_of text session = nat_le SECRET_BYTES (length text) && bytes_eq (take SECRET_BYTES text) session.id && is_end (drop SECRET_BYTES text)

-- the first session of which this is the name
abbrev pub session_at : List ℕ → List WebSession → Option WebSession
session_at text [] = None
session_at text (s ∷ ss) = if is_of text s then Some s else session_at text ss

-- whether a request has the token of this session
abbrev pub has_token : List Field → WebSession → Bool
has_token fields session = elim (value_of (codes "x-kl1-token") fields) [ None ↦ false | Some token ↦ bytes_eq token session.token ]

-- what is looked for among the sessions that cookies tell: whether one is there, and whether it is one whose token a request has
abbrev pub is_sought : Bool → List Field → WebSession → Bool
is_sought owned fields session = if owned then has_token fields session else true

-- the session that is sought, if it is the one of which this is the name
abbrev pub sought_at : Bool → List Field → List WebSession → List ℕ → Option WebSession
sought_at owned fields sessions text = elim (session_at text sessions) [ None ↦ None | Some s ↦ if is_sought owned fields s then Some s else None ]

-- a cookie without what stands before its name if the page came by https
abbrev pub bare : List ℕ → List ℕ
bare text = if starts_with nat_eq text by_https then drop (length by_https) text else text

-- the session that is sought, if its cookie stands in front of a text, where one may begin or not
abbrev pub sought_here : Bool → List Field → List WebSession → Bool → List ℕ → Option WebSession
sought_here owned fields sessions begins text =
    if begins && starts_with nat_eq (bare text) cookie_name then sought_at owned fields sessions (drop (length cookie_name) (bare text)) else None

-- the session that is sought by what is left of a header: cookies begin at its front, and after a semicolon and blanks, and each cookie
-- `kl1` is looked at
abbrev pub sought_from : Bool → List Field → List WebSession → Bool → List ℕ → Option WebSession
sought_from owned fields sessions begins [] = None
sought_from owned fields sessions begins (b ∷ bs) =
    elim (sought_here owned fields sessions begins (b ∷ bs)) [
      | None ↦ sought_from owned fields sessions (b == 59 || (begins && b == 32)) bs
      | Some s ↦ Some s
    ]

-- the session that is sought by the cookies of a request
abbrev pub sought : Bool → List Field → List WebSession → Option WebSession
sought owned fields sessions =
    elim (value_of (codes "cookie") fields) [ None ↦ None | Some header ↦ sought_from owned fields sessions true header ]

-- the first session whose name a cookie of a request tells
abbrev pub session_of : List Field → List WebSession → Option WebSession
session_of fields sessions = sought false fields sessions

-- the first session whose name a cookie of a request tells and whose token the request has. A browser sends the cookies of every port of a
-- host's name, so a cookie of this name may be somebody else's.
abbrev pub owner_of : List Field → List WebSession → Option WebSession
owner_of fields sessions = sought true fields sessions
