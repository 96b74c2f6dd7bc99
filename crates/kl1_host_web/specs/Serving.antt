-- What the requests of a connection come to, one after another, and what accounts are asked for each.
use Rattle.std.specs.Prelude.{◌≡◌, ◌<◌, ◌≤◌, ◌-◌, ◌^◌, ◌⊎◌, ⊤, ℕ, ◌==◌, nat_lt, Bool, true, false, not, if◌then◌else◌, ◌++◌, List, [], ◌∷◌, length, map, bytes_eq, codes, Option, Some, None, Result, Ok, Err, IfOk, IsErr}
use Rattle.std.specs.declared.alloc.AllocError.{AllocError}
use Rattle.std.specs.Char.{to_ascii_lowercase}
use Rattle.std.specs.Io.KnownBytes.{Consumes}
use Rattle.serde_json.specs.declared.value.Value.{Value}
use Rattle.kl1_model.specs.Event as event
use Rattle.kl1_model_server.specs.Command.{does}
use Rattle.kl1_command.specs.declared.performed.Performed.{Performed}
use Rattle.httparse.specs.Spans.{RequestOverflows}
use Rattle.kl1_host_door.specs.declared.limits.TheConstants.{MOST_HEAD_BYTES, MOST_FIELDS}
use Rattle.kl1_host_door.specs.declared.refusal.Refusal.{Refusal}
use Rattle.kl1_host_door.specs.declared.refusal.Refusal.TheVariants as refusal
use Rattle.kl1_host_door.specs.declared.answer.Answer.{Answer}
use Rattle.kl1_host_door.specs.declared.session.WebSession.{WebSession}
use Rattle.kl1_host_door.specs.declared.door.Site.{Site}
use Rattle.kl1_host_door.specs.declared.door.Allowed.{Allowed}
use Rattle.kl1_host_door.specs.declared.door.Allowed.TheVariants as allowed
use Rattle.kl1_host_door.specs.declared.head.Head.{Head}
use Rattle.kl1_host_door.specs.Heads.{IsHead}
use Rattle.kl1_host_door.specs.Bodies.{body_bytes, may_send}
use Rattle.kl1_host_door.specs.Fields.{value_of}
use Rattle.kl1_host_door.specs.Doors.{authorized, is_secure}
use Rattle.kl1_host_door.specs.declared.book.SessionTest.TheVariants as test
use Rattle.kl1_host_door.specs.declared.book.BookStep.TheVariants.{Takes, Looks}
use Rattle.kl1_host_door.specs.Books.{passes, first_of, seen_by}
use Rattle.kl1_host_web.specs.Asking.{Asked, did, changed, let_in, House}
use Rattle.kl1_host_web.specs.Wishes.{IsRead, wanted}
use Rattle.kl1_host_web.specs.Telling.{Grants, IsRefusal}
use Rattle.kl1_host_web.specs.Beginning.{Begun}
use Rattle.kl1_host_web.specs.declared.incoming.Incoming.{Incoming}
use Rattle.kl1_host_web.specs.declared.incoming.Incoming.TheVariants as incoming
use Rattle.kl1_host_web.specs.declared.outcome.Outcome.{Outcome}
use Rattle.kl1_host_web.specs.declared.outcome.Outcome.TheVariants as outcome
use Rattle.kl1_host_web.specs.declared.serve.Served.{Served}
use Rattle.kl1_host_web.specs.declared.serve.Served.TheVariants as served

-- ---- sessions whose browsers made no request for too long

-- the book of sessions was searched for one of an account whose last request is more than `idle` seconds before a second that the machine told;
-- this, the first there is, was found, and this was noted
pub record Seeks (tells : ℕ → Type 0) (idle account : ℕ) (found : Option WebSession) (note : Asked) : Type 0 where
  pub second : ℕ
  pub told : tells second
  pub sessions : List WebSession
  pub is_first : found ≡ first_of (passes (test.IsIdle account (second - idle))) sessions
  pub noted : note ≡ changed (Takes (test.IsIdle account (second - idle))) sessions

-- a session that was found, what was noted of that, and what was answered to a logout of its account
pub record Ending : Type 0 where
  pub session : WebSession
  pub note : Asked
  pub answer : Performed

-- a logout of an account, if it is one of n
abbrev pub logout_of : ℕ → ℕ → Performed → List Asked
logout_of n account answer = if nat_lt account n then did account (does event.logout) answer ∷ [] else []

-- sessions were found in the book one after another, here the last of them first, and its account was logged out of for each
abbrev pub EndsEach : (ℕ → Type 0) → ℕ → ℕ → ℕ → List Ending → List Asked → List Asked → Type 0
EndsEach tells idle account n [] before after = after ≡ before
EndsEach tells idle account n (e ∷ earlier) before after =
    (middle : List Asked) × EndsEach tells idle account n earlier before middle × Seeks tells idle account (Some e.session) e.note
    × (after ≡ middle ++ e.note ∷ logout_of n e.session.account e.answer)

-- sessions of an account that were found were ended, until none was found; accounts were asked nothing else
pub record EndsIdle (tells : ℕ → Type 0) (idle account n : ℕ) (before after : List Asked) : Type 0 where
  pub ended : List Ending
  pub middle : List Asked
  pub each : EndsEach tells idle account n ended before middle
  pub note : Asked
  pub none : Seeks tells idle account None note
  pub rest : after ≡ middle ++ note ∷ []

-- the book of sessions was searched for one of an account; this, the first there is, was found, and this was noted
pub record SeeksOf (account : ℕ) (found : Option WebSession) (note : Asked) : Type 0 where
  pub sessions : List WebSession
  pub is_first : found ≡ first_of (passes (test.IsOf account)) sessions
  pub noted : note ≡ changed (Takes (test.IsOf account)) sessions

-- sessions of an account were taken out of the book one after another, here the last of them first
abbrev pub ForgetsEach : ℕ → List WebSession → List Asked → List Asked → Type 0
ForgetsEach account [] before after = after ≡ before
ForgetsEach account (s ∷ earlier) before after =
    (middle : List Asked) × (note : Asked) × ForgetsEach account earlier before middle × SeeksOf account (Some s) note × (after ≡ middle ++ note ∷ [])

-- the sessions of an account were taken out of the book until none was found, so many of them; nothing else was asked
pub record Forgets (account count : ℕ) (before after : List Asked) : Type 0 where
  pub found : List WebSession
  pub middle : List Asked
  pub each : ForgetsEach account found before middle
  pub counted : count < 2 ^ 64 - 1 → count ≡ length found
  pub note : Asked
  pub none : SeeksOf account None note
  pub rest : after ≡ middle ++ note ∷ []

-- ---- one request that is let in

-- what a request of this head may have was looked up in the book of sessions, which had these, at a second that the machine told: a session lets in
-- nobody whose last request is more than `idle` seconds before it, or whose account doesn't have the key by which it was opened. If the request is of
-- one of them, that was noted there.
pub record Admits (tells : ℕ → Type 0) (house : House) (idle : ℕ) (sites : List Site) (is_local : Bool) (head : Head) (before after : List Asked) (result : Result Allowed Refusal) : Type 0 where
  pub second : ℕ
  pub told : tells second
  pub sessions : List WebSession
  pub is : result ≡ authorized head sessions sites is_local (second - idle) house.entries
  pub noted : after ≡ before ++ changed (seen_by second result) sessions ∷ []

-- the session by which a request was let in is taken out of the book, which has these; nothing is if it was let in by none
abbrev pub closing : Allowed → List WebSession → List Asked
closing (allowed.Anyone a) sessions = []
closing (allowed.Owner id account a) sessions = changed (Takes (test.IsCalled id)) sessions ∷ []

-- what is still asked after a request was granted, and its answer: only the session of a browser may still begin, or that by which the
-- request was let in end
abbrev pub Ends : (ℕ → Type 0) → (List ℕ → Type 0) → House → Allowed → Result Outcome AllocError → List Asked → List Asked → Result Answer AllocError → Type 0
Ends tells gives house a (Err e) before after result = (after ≡ before) × IsErr result
Ends tells gives house a (Ok (outcome.Told answer)) before after result = (after ≡ before) × (result ≡ Ok answer)
Ends tells gives house a (Ok (outcome.Opens account)) before after result = Begun tells gives house account before after result
Ends tells gives house a (Ok (outcome.Closes answer)) before after result =
    (sessions : List WebSession) × (after ≡ before ++ closing a sessions) × (result ≡ answer)

-- what a request wants by its body was granted, and it was answered so
pub record Performs (tells : ℕ → Type 0) (gives : List ℕ → Type 0) (house : House) (a : Allowed) (path body : List ℕ) (before after : List Asked) (result : Result Answer AllocError) : Type 0 where
  pub value : Option Value
  pub reads : IsRead body value
  pub outcome : Result Outcome AllocError
  pub middle : List Asked
  pub grants : Grants house path (wanted a value) before middle outcome
  pub ends : Ends tells gives house a outcome middle after result

-- memory was refused before anything was asked
pub record Fails (before after : List Asked) (result : Result Answer AllocError) : Type 0 where
  pub asked : after ≡ before
  pub fails : IsErr result

-- nothing was asked, and the answer refuses for this reason
pub record Denies (why : Refusal) (before after : List Asked) (result : Result Answer AllocError) : Type 0 where
  pub asked : after ≡ before
  pub refusal : IfOk result (IsRefusal why)

-- whether a request is of no account, or of one of n
abbrev pub is_within : ℕ → Allowed → Bool
is_within n (allowed.Anyone a) = true
is_within n (allowed.Owner id account a) = nat_lt account n

-- what comes of a request for a path that is let in, to an account that there is or isn't
abbrev pub AnswersWithin : (ℕ → Type 0) → (List ℕ → Type 0) → Bool → House → Allowed → List ℕ → List ℕ → List Asked → List Asked → Result Answer AllocError → Type 0
AnswersWithin tells gives true house a path body before after result = Fails before after result ⊎ Performs tells gives house a path body before after result
AnswersWithin tells gives false house a path body before after result = Denies refusal.Nobody before after result

-- what comes of a request for a path that may have this
abbrev pub Answers : (ℕ → Type 0) → (List ℕ → Type 0) → House → Result Allowed Refusal → List ℕ → List ℕ → List Asked → List Asked → Result Answer AllocError → Type 0
Answers tells gives house (Err why) path body before after result = Denies why before after result
Answers tells gives house (Ok a) path body before after result = AnswersWithin tells gives (is_within house.accounts a) house a path body before after result

-- ---- what comes in

-- bytes that aren't read yet begin with these, as far as they are known
abbrev pub IsFront : List ℕ → Option (List ℕ) → Type 0
IsFront front None = ⊤
IsFront front (Some text) = (rest : List ℕ) × (text ≡ front ++ rest)

-- why there is no head at the front of what came in: whatever follows, it has more fields than a head may have; or it has more bytes
abbrev pub IsNoHead : Refusal → List ℕ → Type 0
IsNoHead refusal.BadHead front = RequestOverflows MOST_FIELDS front
IsNoHead refusal.LargeHead front = MOST_HEAD_BYTES < length front
IsNoHead why front = ⊥

-- bytes that aren't read yet begin with no head, for this reason
pub record HasNoHead (why : Refusal) (old : Option (List ℕ)) : Type 0 where
  pub bytes : List ℕ
  pub front : IsFront bytes old
  pub refused : IsNoHead why bytes

-- bytes that aren't read yet begin with a head that doesn't tell the length of a body that it may have
pub record HasNoBody (why : Refusal) (old : Option (List ℕ)) : Type 0 where
  pub bytes : List ℕ
  pub head : Head
  pub front : IsFront bytes old
  pub is : IsHead bytes head
  pub refused : body_bytes head ≡ Err why

-- bytes that aren't read yet begin with a head, and the others are left
pub record HasHead (head : Head) (old new : Option (List ℕ)) : Type 0 where
  pub bytes : List ℕ
  pub is : IsHead bytes head
  pub few : length bytes ≤ MOST_HEAD_BYTES
  pub consumes : Consumes old new bytes

-- what comes in is a head; or there is none, as it is told; or nothing more comes
abbrev pub ComesIn : Option (List ℕ) → Option (List ℕ) → Incoming → Type 0
ComesIn old new (incoming.Head head) = HasHead head old new
ComesIn old new (incoming.Refused why) = HasNoHead why old
ComesIn old new incoming.Ended = ⊤

-- bytes that aren't read yet begin with a body of n bytes, and the others are left
pub record HasBody (n : ℕ) (body : List ℕ) (old new : Option (List ℕ)) : Type 0 where
  pub long : length body ≡ n
  pub consumes : Consumes old new body

-- ---- the requests of a connection

-- whether a body of n bytes is read after a head was looked up in the book of sessions, which had these: who isn't let in has no long one read
pub record LooksUp (tells : ℕ → Type 0) (house : House) (idle : ℕ) (sites : List Site) (is_local : Bool) (head : Head) (n : ℕ) (before after : List Asked) (result : Result Bool Refusal) : Type 0 where
  pub second : ℕ
  pub told : tells second
  pub sessions : List WebSession
  pub is : result ≡ may_send n (authorized head sessions sites is_local (second - idle) house.entries)
  pub noted : after ≡ before ++ changed Looks sessions ∷ []

-- that a request was let in was told, if it was
abbrev pub TellsIn : Result Bool Refusal → List Asked → List Asked → Type 0
TellsIn (Ok true) before after = after ≡ before ++ let_in ∷ []
TellsIn (Ok false) before after = after ≡ before
TellsIn (Err why) before after = after ≡ before

-- it was looked up whether a body is read, and told of those requests that were let in
pub record LooksAt (tells : ℕ → Type 0) (house : House) (idle : ℕ) (sites : List Site) (is_local : Bool) (head : Head) (n : ℕ) (before after : List Asked) (result : Result Bool Refusal) : Type 0 where
  pub looked : List Asked
  pub looks : LooksUp tells house idle sites is_local head n before looked result
  pub tells_in : TellsIn result looked after

-- a request by its head and its body, and what was answered; without memory for an answer nothing
pub record Exchange : Type 0 where
  pub head : Head
  pub body : List ℕ
  pub answer : Result Answer AllocError

-- the bytes that aren't read yet begin with the head of this request and its body, and the others are left
pub record IsNext (x : Exchange) (old new : Option (List ℕ)) : Type 0 where
  pub bytes : List ℕ
  pub head : IsHead bytes x.head
  pub few : length bytes ≤ MOST_HEAD_BYTES
  pub long : body_bytes x.head ≡ Ok (length x.body)
  pub consumes : Consumes old new (bytes ++ x.body)

-- a request of this head and this body was attended to: what it may have was looked up in the book of sessions; and then there comes of it what
-- it may have
pub record Attends (tells : ℕ → Type 0) (gives : List ℕ → Type 0) (idle : ℕ) (house : House) (sites : List Site) (is_local : Bool) (head : Head) (body : List ℕ) (before after : List Asked) (result : Result Answer AllocError) : Type 0 where
  pub admitted : List Asked
  pub may_have : Result Allowed Refusal
  pub admits : Admits tells house idle sites is_local head before admitted may_have
  pub answers : Answers tells gives house may_have head.target.items body admitted after result

-- whether a field's value is this word; small and capital letters are the same
abbrev pub is_word : List ℕ → List ℕ → Bool
is_word word value = bytes_eq (map to_ascii_lowercase value) (map to_ascii_lowercase word)

-- whether a connection goes on after an answer to this head, by its version and by what it says. It doesn't after a HEAD: who asks so takes what comes
-- after the answer's head for the next answer.
abbrev pub goes_on : Head → Bool
goes_on head =
    if bytes_eq head.method.items (codes "HEAD") then false
    else elim (value_of (codes "connection") head.fields.items) [
      | None ↦ head.minor == 1
      | Some value ↦ if head.minor == 1 then not (is_word (codes "close") value) else is_word (codes "keep-alive") value
    ]

-- the next request was read, its body after it was looked up whether that is read, and attended to
pub record Exchanges (tells : ℕ → Type 0) (gives : List ℕ → Type 0) (idle : ℕ) (house : House) (sites : List Site) (is_local : Bool) (x : Exchange) (old new : Option (List ℕ)) (before after : List Asked) : Type 0 where
  pub next : IsNext x old new
  pub is_in : Bool
  pub looked : List Asked
  pub looks : LooksAt tells house idle sites is_local x.head (length x.body) before looked (Ok is_in)
  pub attends : Attends tells gives idle house sites is_local x.head x.body looked after x.answer

-- requests were read one after another, here the last of them first, and attended to; accounts were asked nothing else
abbrev pub Serves : (ℕ → Type 0) → (List ℕ → Type 0) → ℕ → House → List Site → Bool → List Exchange → Option (List ℕ) → Option (List ℕ) → List Asked → List Asked → Type 0
Serves tells gives idle house sites is_local [] old new before after = (new ≡ old) × (after ≡ before)
Serves tells gives idle house sites is_local (x ∷ earlier) old new before after =
    (middle : Option (List ℕ)) × (asked : List Asked)
    × Serves tells gives idle house sites is_local earlier old middle before asked × Exchanges tells gives idle house sites is_local x middle new asked after

-- bytes that aren't read yet begin with a head that tells the length of a body, which isn't read for this reason: the others are left
pub record KeepsOut (tells : ℕ → Type 0) (house : House) (idle : ℕ) (sites : List Site) (is_local : Bool) (why : Refusal) (old new : Option (List ℕ)) (before after : List Asked) : Type 0 where
  pub bytes : List ℕ
  pub head : Head
  pub count : ℕ
  pub is : IsHead bytes head
  pub consumes : Consumes old new bytes
  pub told : body_bytes head ≡ Ok count
  pub looks : LooksAt tells house idle sites is_local head count before after (Err why)

-- why the next request isn't attended to: it can't be read, and nothing was asked; or its body isn't read
abbrev pub IsUnread : (ℕ → Type 0) → House → ℕ → List Site → Bool → Refusal → Option (List ℕ) → Option (List ℕ) → List Asked → List Asked → Type 0
IsUnread tells house idle sites is_local why old new before after =
    ((after ≡ before) × (HasNoHead why old ⊎ HasNoBody why old)) ⊎ KeepsOut tells house idle sites is_local why old new before after

-- nothing was asked; or a head came whose body is read, as it was looked up, and no more came, or memory was refused for what did
abbrev pub AsksNoMore : (ℕ → Type 0) → House → ℕ → List Site → Bool → List Asked → List Asked → Type 0
AsksNoMore tells house idle sites is_local before after =
    (after ≡ before) ⊎ ((head : Head) × (n : ℕ) × (is_in : Bool) × LooksAt tells house idle sites is_local head n before after (Ok is_in))

-- what became of the next request: it was read and attended to, of a page that came by https or not, and the connection goes on or not; or it isn't
-- attended to for this reason, or nothing more comes; if memory was refused, either
abbrev pub Steps : (ℕ → Type 0) → (List ℕ → Type 0) → ℕ → House → List Site → Bool → Option (List ℕ) → Option (List ℕ) → List Asked → List Asked → Result Served AllocError → Type 0
Steps tells gives idle house sites is_local old new before after (Ok (served.Answered answer secure on)) =
    (head : Head) × (body : List ℕ) × (secure ≡ is_secure head sites) × (on ≡ goes_on head)
    × Exchanges tells gives idle house sites is_local (record { head = head; body = body; answer = Ok answer }) old new before after
Steps tells gives idle house sites is_local old new before after (Ok (served.Refused why)) = IsUnread tells house idle sites is_local why old new before after
Steps tells gives idle house sites is_local old new before after (Ok served.Ended) = AsksNoMore tells house idle sites is_local before after
Steps tells gives idle house sites is_local old new before after (Err e) =
    AsksNoMore tells house idle sites is_local before after
    ⊎ ((head : Head) × (body : List ℕ) × Exchanges tells gives idle house sites is_local (record { head = head; body = body; answer = Err e }) old new before after)
