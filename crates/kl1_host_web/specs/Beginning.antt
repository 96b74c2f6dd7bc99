-- Sessions of browsers as they begin.
use Rattle.std.specs.Prelude.{◌≡◌, ℕ, true, false, ◌++◌, ◌⊎◌, List, [], ◌∷◌, take, drop, codes, Result, Ok, IfOk}
use Rattle.std.specs.declared.alloc.AllocError.{AllocError}
use Rattle.base64.specs.GeneralPurpose.{encode_of}
use Rattle.base64.specs.Engines.{url_safe_no_pad}
use Rattle.serde_json.specs.Data.{string, object, member, no_members}
use Rattle.serde_json.specs.Written.{compact_text}
use Rattle.kl1_model.specs.Event as event
use Rattle.kl1_model_server.specs.Command.{does}
use Rattle.kl1_command.specs.declared.performed.Performed.{Performed}
use Rattle.kl1_host_door.specs.declared.answer.Answer.{Answer}
use Rattle.kl1_host_door.specs.declared.answer.Content.TheVariants.{Json}
use Rattle.kl1_host_door.specs.declared.answer.Cookie.TheVariants.{Set}
use Rattle.kl1_host_door.specs.declared.status.Status.TheVariants.{Good}
use Rattle.kl1_host_door.specs.declared.session.WebSession.{WebSession}
use Rattle.kl1_host_door.specs.declared.book.BookStep.TheVariants.{Adds}
use Rattle.kl1_host_door.specs.Books.{has_room}
use Rattle.kl1_host_door.specs.Doors.{mark_at}
use Rattle.kl1_host_web.specs.Asking.{Asked, did, changed, House}
use Rattle.kl1_host_web.specs.Telling.{KeepsCookie, shown}

-- the name and the token of a session are two parts of bytes that a machine gave, each in base64, and it counts as asked for last at a second
-- that the machine told
pub record IsDrawn (tells : ℕ → Type 0) (gives : List ℕ → Type 0) (session : WebSession) : Type 0 where
  pub bytes : List ℕ
  pub given : gives bytes
  pub id : session.id ≡ encode_of url_safe_no_pad (take 24 bytes)
  pub token : session.token ≡ encode_of url_safe_no_pad (drop 24 bytes)
  pub told : tells session.last

-- what a browser is told of a session that begins: its cookie is the session's name, and the text tells its token, beside what its account is called
pub record IsWelcome (names : ℕ → List ℕ) (session : WebSession) (answer : Answer) : Type 0 where
  pub status : answer.status ≡ Good
  pub content : answer.content ≡ Json
  pub cookie : answer.cookie ≡ Set session.id
  pub text : answer.body.items ≡ compact_text (object (member (codes "name") (string (shown (names session.account))) (member (codes "token") (string (shown session.token)) no_members)))

-- a session of an account begins, with the mark of the key that stands there: it was drawn, there was room for it beside the others, and it was
-- added to them and told
pub record Begins (tells : ℕ → Type 0) (gives : List ℕ → Type 0) (house : House) (account : ℕ) (before after : List Asked) (result : Result Answer AllocError) : Type 0 where
  pub session : WebSession
  pub others : List WebSession
  pub answer : Answer
  pub of_account : session.account ≡ account
  pub mark : session.mark ≡ mark_at house.entries account
  pub drawn : IsDrawn tells gives session
  pub room : has_room others ≡ true
  pub asked : after ≡ before ++ changed (Adds session) others ∷ []
  pub is : result ≡ Ok answer
  pub told : IsWelcome house.names session answer

-- there is no room for a session of an account beside the others, and the account was logged out of
pub record HasNoRoom (account : ℕ) (before after : List Asked) (result : Result Answer AllocError) : Type 0 where
  pub session : WebSession
  pub others : List WebSession
  pub answer : Performed
  pub of_account : session.account ≡ account
  pub full : has_room others ≡ false
  pub asked : after ≡ before ++ changed (Adds session) others ∷ did account (does event.logout) answer ∷ []
  pub kept : IfOk result KeepsCookie

-- no session of an account begins, and the account was logged out of
pub record BeginsNot (account : ℕ) (before after : List Asked) (result : Result Answer AllocError) : Type 0 where
  pub answer : Performed
  pub asked : after ≡ before ++ did account (does event.logout) answer ∷ []
  pub kept : IfOk result KeepsCookie

-- what becomes of a login to an account whose session is open: the session of a browser begins; or it doesn't, and then that of the account
-- is closed again and the browser's cookie stays as it is
abbrev pub Begun : (ℕ → Type 0) → (List ℕ → Type 0) → House → ℕ → List Asked → List Asked → Result Answer AllocError → Type 0
Begun tells gives house account before after result =
    Begins tells gives house account before after result ⊎ (HasNoRoom account before after result ⊎ BeginsNot account before after result)
