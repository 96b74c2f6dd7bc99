-- The sessions of browsers that are open.
use Rattle.std.specs.Prelude.{◌≡◌, ◌<◌, ◌≤◌, ℕ, suc, ◌==◌, nat_lt, Bool, true, false, ◌&&◌, if◌then◌else◌, List, [], ◌∷◌, ◌++◌, length, remove, bytes_eq, Option, Some, None, Result, Ok, Err}
use Rattle.kl1_host_door.specs.declared.limits.TheConstants.{MOST_SESSIONS}
use Rattle.kl1_host_door.specs.declared.session.WebSession.{WebSession}
use Rattle.kl1_host_door.specs.declared.book.SessionTest.{SessionTest}
use Rattle.kl1_host_door.specs.declared.book.SessionTest.TheVariants as test
use Rattle.kl1_host_door.specs.declared.book.BookStep.{BookStep}
use Rattle.kl1_host_door.specs.declared.book.BookStep.TheVariants.{Adds, Takes, Touches, Looks}
use Rattle.kl1_host_door.specs.declared.refusal.Refusal.{Refusal}
use Rattle.kl1_host_door.specs.declared.door.Allowed.{Allowed}
use Rattle.kl1_host_door.specs.declared.door.Allowed.TheVariants.{Anyone, Owner}

-- whether a session passes a test: it has this name; it is of this account, and its last request was before this second; or it is of this
-- account
abbrev pub passes : SessionTest → WebSession → Bool
passes (test.IsCalled id) session = bytes_eq session.id id
passes (test.IsIdle account before) session = session.account == account && nat_lt session.last before
passes (test.IsOf account) session = session.account == account

-- a session whose last request is at this second
abbrev pub seen_at : ℕ → WebSession → WebSession
seen_at second session = record session { last = second }

-- the sessions after a request of the first with this name, at this second
abbrev pub touched : List ℕ → ℕ → List WebSession → List WebSession
touched id second [] = []
touched id second (s ∷ ss) = if bytes_eq s.id id then seen_at second s ∷ ss else s ∷ touched id second ss

-- whether there is room for one more session
abbrev pub has_room : List WebSession → Bool
has_room sessions = nat_lt (length sessions) MOST_SESSIONS

-- a session was added at the end, as there was room for it; or as many are open as may be, and there is nothing new
abbrev pub IsAdded : Bool → WebSession → List WebSession → List WebSession → Type 0
IsAdded true session old new = (length old < MOST_SESSIONS) × (new ≡ old ++ session ∷ [])
IsAdded false session old new = (MOST_SESSIONS ≤ length old) × (new ≡ old)

-- the place of the first session that passes a test, counted from a number on
abbrev pub place_from : (WebSession → Bool) → ℕ → List WebSession → Option ℕ
place_from test n [] = None
place_from test n (s ∷ ss) = if test s then Some n else place_from test (suc n) ss

-- the place of the first session that passes a test, from 0
abbrev pub place_of : (WebSession → Bool) → List WebSession → Option ℕ
place_of test sessions = place_from test 0 sessions

-- the first session that passes a test
abbrev pub first_of : (WebSession → Bool) → List WebSession → Option WebSession
first_of test [] = None
first_of test (s ∷ ss) = if test s then Some s else first_of test ss

-- the sessions without the first that passes a test
abbrev pub without_first : (WebSession → Bool) → List WebSession → List WebSession
without_first test sessions = elim (place_of test sessions) [ None ↦ sessions | Some n ↦ remove sessions n ]

-- what is done to the sessions for a request at a second, by what it may have: if it is of one of them that is noted
abbrev pub seen_by : ℕ → Result Allowed Refusal → BookStep
seen_by second (Ok (Anyone ask)) = Looks
seen_by second (Ok (Owner id account ask)) = Touches id second
seen_by second (Err why) = Looks

-- the sessions after this was done to them
abbrev pub after : BookStep → List WebSession → List WebSession
after (Adds session) sessions = if has_room sessions then sessions ++ session ∷ [] else sessions
after (Takes test) sessions = without_first (passes test) sessions
after (Touches id second) sessions = touched id second sessions
after Looks sessions = sessions
