-- What becomes of what is wanted.
use Rattle.std.specs.Prelude.{◌≡◌, ◌⊎◌, ◌<◌, ℕ, suc, Bool, true, false, if◌then◌else◌, ⊤, ◌++◌, List, [], ◌∷◌, map, codes, Option, Some, None, slice_get, Result, IfOk, IsOkAnd}
use Rattle.std.specs.Str.{is_utf8}
use Rattle.serde_json.specs.Data.{Data, null, number, unsigned, string, array, object, Items, no_items, item, member, no_members}
use Rattle.serde_json.specs.View.{items_of}
use Rattle.serde_json.specs.Written.{compact_text}
use Rattle.kl1_model.specs.Event as event
use Rattle.kl1_model.specs.Event.{is_quiet, modules}
use Rattle.kl1_model_server.specs.Command.{does}
use Rattle.kl1_model_server.specs.JournalText.{lines_of}
use Rattle.kl1_session.specs.Conversations.{is_welcome, is_bye}
use Rattle.kl1_session.specs.Replies.{told}
use Rattle.kl1_command.specs.declared.performed.Performed.{Performed}
use Rattle.kl1_user_events.specs.declared.shoen_view.ShoenView.{ShoenView}
use Rattle.kl1_host_door.specs.declared.limits.TheConstants.{SHOENS_A_PAGE}
use Rattle.kl1_host_door.specs.declared.ask.Ask.{Ask}
use Rattle.kl1_host_door.specs.declared.ask.Ask.TheVariants as ask
use Rattle.kl1_host_door.specs.declared.refusal.Refusal.{Refusal}
use Rattle.kl1_host_door.specs.declared.refusal.Refusal.TheVariants as refusal
use Rattle.kl1_host_door.specs.declared.answer.Answer.{Answer}
use Rattle.kl1_host_door.specs.declared.answer.Content.{Content}
use Rattle.kl1_host_door.specs.declared.answer.Content.TheVariants.{Json}
use Rattle.kl1_host_door.specs.declared.answer.Cookie.{Cookie}
use Rattle.kl1_host_door.specs.declared.answer.Cookie.TheVariants.{Kept, Cleared}
use Rattle.kl1_host_door.specs.declared.status.Status.TheVariants.{Good, Unavailable}
use Rattle.kl1_host_door.specs.Refusals.{status_of, words_of}
use Rattle.kl1_host_page.specs.Files.{file_at}
use Rattle.kl1_host_web.specs.Asking.{Asked, did, looked, House}
use Rattle.kl1_host_web.specs.Wishes.{Wanted, refuse, syntax, enter, leave, do_to, load_into, tell, show_of, show_all}
use Rattle.kl1_host_web.specs.declared.outcome.Outcome.{Outcome}
use Rattle.kl1_host_web.specs.declared.outcome.Outcome.TheVariants as outcome

-- what is told of a request that is refused: the words for the reason, and nothing else
abbrev pub refusal_text : Refusal → List ℕ
refusal_text why = compact_text (object (member (codes "error") (string (words_of why)) no_members))

-- an answer that refuses for this reason
pub record IsRefusal (why : Refusal) (answer : Answer) : Type 0 where
  pub status : answer.status ≡ status_of why
  pub content : answer.content ≡ Json
  pub cookie : answer.cookie ≡ Kept
  pub text : answer.body.items ≡ refusal_text why

-- an answer leaves the cookie of a browser as it is
abbrev pub KeepsCookie : Answer → Type 0
KeepsCookie answer = answer.cookie ≡ Kept

-- bytes as a text of JSON: nothing if they are none in UTF-8
abbrev pub shown : List ℕ → List ℕ
shown bytes = if is_utf8 bytes then bytes else []

-- bytes in JSON
abbrev pub text_data : List ℕ → Data
text_data bytes = string (shown bytes)

-- the lines of a text in JSON
abbrev pub lines_data : List ℕ → Data
lines_data text = array (items_of (map text_data (lines_of text).whole))

-- an answer tells what is told of a command, and nothing else
pub record IsReply (performed : Performed) (cookie : Cookie) (answer : Answer) : Type 0 where
  pub status : answer.status ≡ Good
  pub content : answer.content ≡ Json
  pub cookie_is : answer.cookie ≡ cookie
  pub text : answer.body.items ≡ compact_text (object (member (codes "reply") (lines_data (told performed)) no_members))

-- an answer tells what is told of a load, beside the reasons why it is refused
pub record IsLoad (performed : Performed) (answer : Answer) : Type 0 where
  pub status : answer.status ≡ Good
  pub content : answer.content ≡ Json
  pub cookie_is : answer.cookie ≡ Kept
  pub reasons : Items
  pub text : answer.body.items ≡ compact_text (object (member (codes "reasons") (array reasons) (member (codes "reply") (lines_data (told performed)) no_members)))

-- an answer tells that a line is no command
pub record IsSyntax (answer : Answer) : Type 0 where
  pub status : answer.status ≡ Good
  pub content : answer.content ≡ Json
  pub cookie_is : answer.cookie ≡ Kept
  pub text : answer.body.items ≡ compact_text (object (member (codes "reply") (array (item (string (codes "- 1 syntax")) no_items)) no_members))

-- the number of a shoen in JSON, if there is one
abbrev pub number_data : Option ShoenView → Data
number_data None = null
number_data (Some view) = number (unsigned view.number.0)

-- an answer tells a page of shoens from a number on, and the number of the first of the next page
pub record IsShoens (lists : ℕ → ℕ → List ShoenView → Type 0) (from : ℕ) (answer : Answer) : Type 0 where
  pub views : List ShoenView
  pub listed : lists from (suc SHOENS_A_PAGE) views
  pub status : answer.status ≡ Good
  pub content : answer.content ≡ Json
  pub cookie_is : answer.cookie ≡ Kept
  pub shoens : Items
  pub text : answer.body.items ≡ compact_text (object (member (codes "next") (number_data (slice_get views SHOENS_A_PAGE)) (member (codes "shoens") (array shoens) no_members)))

-- an answer tells what an account is called
pub record IsNamed (name : List ℕ) (answer : Answer) : Type 0 where
  pub status : answer.status ≡ Good
  pub content : answer.content ≡ Json
  pub cookie_is : answer.cookie ≡ Kept
  pub text : answer.body.items ≡ compact_text (object (member (codes "name") (string (shown name)) no_members))

-- an outcome is an answer alone, of which this is so
abbrev pub Tells : (Answer → Type 0) → Outcome → Type 0
Tells of (outcome.Told answer) = of answer
Tells of (outcome.Opens account) = ⊥
Tells of (outcome.Closes answer) = ⊥

-- an answer is in JSON, and leaves the cookie of a browser as it is
abbrev pub IsView : Answer → Type 0
IsView answer = (answer.content ≡ Json) × KeepsCookie answer

-- an outcome is an answer in JSON alone: no session of a browser begins or ends, and its cookie stays
abbrev pub IsTold : Outcome → Type 0
IsTold (outcome.Told answer) = IsView answer
IsTold (outcome.Opens account) = ⊥
IsTold (outcome.Closes answer) = ⊥

-- an answer says to try again: it keeps the cookie, and the browser's session with it
abbrev pub IsWait : Answer → Type 0
IsWait answer = (answer.status ≡ Unavailable) × IsView answer

-- an outcome is an answer that refuses for this reason
abbrev pub Refuses : Refusal → Outcome → Type 0
Refuses why (outcome.Told answer) = IsRefusal why answer
Refuses why (outcome.Opens account) = ⊥
Refuses why (outcome.Closes answer) = ⊥

-- if a session of a browser begins, it is of one of n accounts
abbrev pub IsOpenedIn : ℕ → Outcome → Type 0
IsOpenedIn n (outcome.Told answer) = ⊤
IsOpenedIn n (outcome.Opens account) = account < n
IsOpenedIn n (outcome.Closes answer) = ⊤

-- an outcome is that the session of a browser ends, and with it its cookie, as it is told of the logout if there is memory for that
abbrev pub IsClosed : Performed → Outcome → Type 0
IsClosed performed (outcome.Told answer) = ⊥
IsClosed performed (outcome.Opens account) = ⊥
IsClosed performed (outcome.Closes answer) = IfOk answer (IsReply performed Cleared)

-- an answer is a file of the page: what its bytes are, and its bytes
pub record IsFile (content : Content) (text : List ℕ) (answer : Answer) : Type 0 where
  pub status : answer.status ≡ Good
  pub content_is : answer.content ≡ content
  pub cookie : KeepsCookie answer
  pub text_is : answer.body.items ≡ text

-- an answer is what there is at a path: a file, or that there is none
abbrev pub IsPage : Option (Content × List ℕ) → Answer → Type 0
IsPage None answer = IsRefusal refusal.NoPage answer
IsPage (Some file) answer = IsFile file.0 file.1 answer

-- an answer shows what is of no account, at this path
abbrev pub ShowsAll : Ask → List ℕ → Answer → Type 0
ShowsAll ask.File path answer = IsPage (file_at path) answer
ShowsAll a path answer = KeepsCookie answer

-- an outcome is an answer that shows what is of no account, at this path
abbrev pub IsShown : Ask → List ℕ → Outcome → Type 0
IsShown a path (outcome.Told answer) = ShowsAll a path answer
IsShown a path (outcome.Opens account) = ⊥
IsShown a path (outcome.Closes answer) = ⊥

-- a login was answered, by `welcome` or not: the session of a browser begins only after `welcome`
abbrev pub Enters : Bool → ℕ → Outcome → Type 0
Enters true account o = o ≡ outcome.Opens account
Enters false account o = Refuses refusal.ManySessions o ⊎ Tells IsWait o

-- a logout was answered, by `bye` or not: the session of a browser ends after `bye`, also without memory, and only then
abbrev pub Leaves : {E : Type 0} → Bool → Performed → Result Outcome E → Type 0
Leaves true performed result = IsOkAnd result (IsClosed performed)
Leaves false performed result = IfOk result (Tells (IsReply performed Kept))

-- a login by a name and a key, by the account to which they let in: without one nothing is asked of any
abbrev pub Entered : {E : Type 0} → Option ℕ → List Asked → List Asked → Result Outcome E → Type 0
Entered None before after result = (after ≡ before) × IfOk result (Refuses refusal.WrongKey)
Entered (Some account) before after result =
    (answer : Performed) × (after ≡ before ++ did account (does event.login) answer ∷ [])
    × IfOk result (Enters (is_welcome answer) account)

-- what of an account is asked to show it: its modules and whether it is quiet are commands, the rest is looked at
abbrev pub Shows : ℕ → Ask → List Asked → List Asked → Type 0
Shows account ask.Account before after =
    (first : Performed) × (second : Performed)
    × (after ≡ before ++ did account (does (event.read is_quiet)) first ∷ did account (does (event.read modules)) second ∷ looked account ∷ [])
Shows account a before after = after ≡ before ++ looked account ∷ []

-- what becomes of what is wanted at a path: what is asked of accounts, in order, and how it ends. Only the account that is named is
-- asked, and no other; after an `Err`, by which memory was refused, the same was asked.
abbrev pub Grants : {E : Type 0} → House → List ℕ → Wanted → List Asked → List Asked → Result Outcome E → Type 0
Grants house path (refuse why) before after result = (after ≡ before) × IfOk result (Refuses why)
Grants house path syntax before after result = (after ≡ before) × IfOk result (Tells IsSyntax)
Grants house path (enter name key) before after result = Entered (house.opens name key) before after result
Grants house path (leave account) before after result =
    (answer : Performed) × (after ≡ before ++ did account (does event.logout) answer ∷ []) × Leaves (is_bye answer) answer result
Grants house path (do_to account command) before after result =
    (answer : Performed) × (after ≡ before ++ did account command answer ∷ []) × IfOk result (Tells (IsReply answer Kept))
Grants house path (load_into account source) before after result =
    (answer : Performed) × (after ≡ before ++ did account (does (event.load source)) answer ∷ []) × IfOk result (Tells (IsLoad answer))
Grants house path (tell account) before after result = (after ≡ before) × IfOk result (Tells (IsNamed (house.names account)))
Grants house path (show_of account a) before after result = Shows account a before after × IfOk result IsTold
Grants house path (show_all a) before after result = (after ≡ before) × IfOk result (IsShown a path)

-- the account of what is wanted, if it is of one, is one of n
abbrev pub IsOfOne : ℕ → Wanted → Type 0
IsOfOne n (refuse why) = ⊤
IsOfOne n syntax = ⊤
IsOfOne n (enter name key) = ⊤
IsOfOne n (leave account) = account < n
IsOfOne n (do_to account command) = account < n
IsOfOne n (load_into account source) = account < n
IsOfOne n (tell account) = account < n
IsOfOne n (show_of account a) = account < n
IsOfOne n (show_all a) = ⊤

-- what is shown of an account: of its shoens those that it has told from the number that is asked for on
abbrev pub Lists : {E : Type 0} → (ℕ → ℕ → ℕ → List ShoenView → Type 0) → ℕ → Ask → Result Outcome E → Type 0
Lists lists account (ask.Shoens from) result = IfOk result (Tells (IsShoens (lists account) from))
Lists lists account a result = ⊤

-- what is shown for what is wanted
abbrev pub ListsFor : {E : Type 0} → (ℕ → ℕ → ℕ → List ShoenView → Type 0) → Wanted → Result Outcome E → Type 0
ListsFor lists (show_of account a) result = Lists lists account a result
ListsFor lists w result = ⊤
