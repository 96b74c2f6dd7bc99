-- How long the body of a request is.
use Rattle.std.specs.Prelude.{ℕ, nat_le, Bool, true, false, ◌||◌, if◌then◌else◌, List, bytes_eq, codes, Some, None, Result, Ok, Err}
use Rattle.kl1_model.specs.Line.{number_in}
use Rattle.kl1_host_door.specs.declared.limits.TheConstants.{MOST_BODY_BYTES, MOST_STRANGER_BYTES}
use Rattle.kl1_host_door.specs.declared.refusal.Refusal.{Refusal}
use Rattle.kl1_host_door.specs.declared.refusal.Refusal.TheVariants.{Repeated, Chunked, NoLength, BadLength, LargeBody}
use Rattle.kl1_host_door.specs.declared.head.Head.{Head}
use Rattle.kl1_host_door.specs.declared.door.Allowed.{Allowed}
use Rattle.kl1_host_door.specs.declared.door.Allowed.TheVariants.{Anyone, Owner}
use Rattle.kl1_host_door.specs.Fields.{value_of, is_single}

-- the length that a text tells, if a body may have it
abbrev pub by_length : List ℕ → Result ℕ Refusal
by_length text = elim (number_in text) [ None ↦ Err BadLength | Some n ↦ if nat_le n MOST_BODY_BYTES then Ok n else Err LargeBody ]

-- whether a request by this method may come without a body and without its length
abbrev pub needs_no_body : List ℕ → Bool
needs_no_body method = bytes_eq method (codes "GET") || bytes_eq method (codes "HEAD")

-- how many bytes of a body come after a head: as many as it tells, and without that none after a GET or a HEAD
abbrev pub body_bytes : Head → Result ℕ Refusal
body_bytes h =
    if is_single (codes "content-length") h.fields.items
    then elim (value_of (codes "transfer-encoding") h.fields.items) [
      | None ↦ elim (value_of (codes "content-length") h.fields.items) [
        | None ↦ if needs_no_body h.method.items then Ok 0 else Err NoLength
        | Some text ↦ by_length text
      ]
      | Some text ↦ Err Chunked
    ]
    else Err Repeated

-- whether n bytes are as few as a body may have of a request that isn't let in to an account; for this reason it isn't
abbrev pub within : ℕ → Refusal → Result Bool Refusal
within n why = if nat_le n MOST_STRANGER_BYTES then Ok false else Err why

-- whether a request is let in to an account, whose body of n bytes is read, by what it may have; or why that isn't read: a request that isn't let
-- in has none that is longer than a login's
abbrev pub may_send : ℕ → Result Allowed Refusal → Result Bool Refusal
may_send n (Ok (Owner id account ask)) = Ok true
may_send n (Ok (Anyone ask)) = within n LargeBody
may_send n (Err why) = within n why
