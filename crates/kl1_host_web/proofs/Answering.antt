-- Answers in JSON.
use Rattle.std.proofs.Common.{◌≡◌, ◌<◌, ◌≤◌, ℕ, suc, length, get_or, ◌==◌, Bool, true, false, ◌||◌, if◌then◌else◌, List, [], ◌∷◌, ◌++◌, map, codes, IsUtf8, Option, Some, None, slice_get, Result, Ok, Err, IfOk, refl, sym, ap, ◌∙◌, append_assoc, append-nil}
use Rattle.std.proofs.lemmas.List.{map-append}
use Rattle.std.proofs.lemmas.Option.{slice_get_past, slice_get_read}
use Rattle.std.specs.declared.alloc.AllocError.{AllocError}
use Rattle.std.specs.Str.{is_utf8}
use Rattle.std.proofs.lemmas.Str.{IsUtf8-from_is_utf8, is_utf8-from_IsUtf8}
use Rattle.serde_json.specs.Data.{Data, null, number, unsigned, string, array, object, Items, no_items, item, member, no_members}
use Rattle.serde_json.specs.View.{view, items_of}
use Rattle.serde_json.specs.Written.{compact_text, has_float, items_have_float}
use Rattle.serde_json.specs.declared.value.Value.{Value}
use Rattle.kl1_model_server.specs.JournalText.{Lines, lines_of}
use Rattle.kl1_model_server.proofs.TextLines.{byte_first, line_first}
use Rattle.kl1_session.specs.Replies.{told}
use Rattle.kl1_command.specs.declared.performed.Performed.{Performed}
use Rattle.kl1_lines.specs.Places.{has_byte, IsSplit}
use Rattle.kl1_host_door.specs.declared.answer.Answer.{Answer}
use Rattle.kl1_host_door.specs.declared.answer.Content.TheVariants.{Json}
use Rattle.kl1_host_door.specs.declared.answer.Cookie.{Cookie}
use Rattle.kl1_host_door.specs.declared.answer.Cookie.TheVariants.{Kept, Set}
use Rattle.kl1_host_door.specs.declared.status.Status.{Status}
use Rattle.kl1_host_door.specs.declared.status.Status.TheVariants.{Good, Unavailable}
use Rattle.kl1_host_door.specs.declared.session.WebSession.{WebSession}
use Rattle.kl1_user_events.specs.declared.shoen_view.ShoenView.{ShoenView}
use Rattle.kl1_host_door.specs.declared.limits.TheConstants.{SHOENS_A_PAGE}
use Rattle.kl1_host_web.specs.Telling.{shown, text_data, lines_data, IsReply, IsLoad, IsSyntax, IsNamed, number_data, IsShoens, IsView, IsWait}
use Rattle.kl1_host_web.specs.Beginning.{IsWelcome}

-- ---- bytes as texts

pub shown_whole : (bytes text : List ℕ) → text ≡ bytes → IsUtf8 bytes → text ≡ shown bytes
shown_whole bytes text e u = rw (is_utf8-from_IsUtf8 bytes u) e

none_by : (bytes : List ℕ) (v : Bool) → (IsUtf8 bytes → ⊥) → is_utf8 bytes ≡ v → [] ≡ if◌then◌else◌ {A = List ℕ} v bytes []
none_by bytes true none e = absurd (none (IsUtf8-from_is_utf8 bytes e))
none_by bytes false none e = refl

pub shown_none : (bytes : List ℕ) → (IsUtf8 bytes → ⊥) → [] ≡ shown bytes
shown_none bytes none = none_by bytes (is_utf8 bytes) none refl

-- ---- lines

or_false : (a b : Bool) → (a || b) ≡ false → (a ≡ false) × (b ≡ false)
or_false true b e = absurd (cc)
or_false false b e = (refl, e)

-- the lines of a text by its first byte
lines_by : Bool → ℕ → Lines → Lines
lines_by x b ls = elim x [ true ↦ line_first ls | false ↦ byte_first b ls.whole ls.rest ]

split_by : (x : Bool) (b : ℕ) (bs : List ℕ) (ls : Lines) (tail : List (List ℕ)) → x ≡ false → ls.whole ≡ bs ∷ tail → (lines_by x b ls).whole ≡ (b ∷ bs) ∷ tail
unfolding lines_by
split_by true b bs ls tail e w = absurd (cc)
split_by false b bs ls tail e w = ap (λ (l : List (List ℕ)). (byte_first b l ls.rest).whole) w

none_first : (x : Bool) (b : ℕ) (ls : Lines) → x ≡ false → ls.whole ≡ [] → (lines_by x b ls).whole ≡ []
unfolding lines_by
none_first true b ls e w = absurd (cc)
none_first false b ls e w = ap (λ (l : List (List ℕ)). (byte_first b l ls.rest).whole) w

split_at : (line after : List ℕ) → has_byte 10 line ≡ false → (lines_of (line ++ 10 ∷ after)).whole ≡ line ∷ (lines_of after).whole
unfolding lines_by
split_at [] after e = refl
split_at (b ∷ bs) after e =
    let both = or_false (b == 10) (has_byte 10 bs) e in
    split_by (b == 10) b bs (lines_of (bs ++ 10 ∷ after)) (lines_of after).whole both.0 (split_at bs after both.1)

-- a text of a line and what is after it has this line and those after it
pub split_whole : (text line after : List ℕ) → IsSplit text line after → (lines_of text).whole ≡ line ∷ (lines_of after).whole
split_whole text line after s = ap (λ t. (lines_of t).whole) s.is ∙ split_at line after s.none

-- a text without a line feed has no line
pub no_whole : (text : List ℕ) → has_byte 10 text ≡ false → (lines_of text).whole ≡ []
unfolding lines_by
no_whole [] e = refl
no_whole (b ∷ bs) e =
    let both = or_false (b == 10) (has_byte 10 bs) e in
    none_first (b == 10) b (lines_of bs) both.0 (no_whole bs both.1)

-- one more line is a value
pub one_line : (lines new : List Value) (v : Value) (rest line after : List ℕ) (all : List Data) → new ≡ lines ++ v ∷ [] → view v ≡ text_data line → IsSplit rest line after → map view lines ++ map text_data (lines_of rest).whole ≡ all → map view new ++ map text_data (lines_of after).whole ≡ all
one_line lines new v rest line after all pushed is split so_far =
    ap (λ l. map view l ++ map text_data (lines_of after).whole) pushed
    ∙ ap (λ l. l ++ map text_data (lines_of after).whole) (map-append view lines (v ∷ []))
    ∙ append_assoc (map view lines) (view v ∷ []) (map text_data (lines_of after).whole)
    ∙ ap (λ d. map view lines ++ d ∷ map text_data (lines_of after).whole) is
    ∙ ap (λ l. map view lines ++ map text_data l) (sym (split_whole rest line after split))
    ∙ so_far

-- all lines are values
pub all_lines : (lines : List Value) (rest text : List ℕ) → has_byte 10 rest ≡ false → map view lines ++ map text_data (lines_of rest).whole ≡ map text_data (lines_of text).whole → map view lines ≡ map text_data (lines_of text).whole
all_lines lines rest text none so_far =
    sym (append-nil (map view lines)) ∙ ap (λ l. map view lines ++ map text_data l) (sym (no_whole rest none)) ∙ so_far

-- ---- what is told

texts_float : (ls : List (List ℕ)) → items_have_float (items_of (map text_data ls)) ≡ false
texts_float [] = refl
texts_float (l ∷ ls) = texts_float ls

pub reply_is : (performed : Performed) (cookie : Cookie) (v : Value) (result : Result Answer AllocError) → view v ≡ object (member (codes "reply") (lines_data (told performed)) no_members) → IfOk result (λ answer. (answer.status ≡ Good) × (answer.cookie ≡ cookie)) → IfOk result (λ answer. answer.content ≡ Json) → IfOk result (λ answer. has_float (view v) ≡ false → answer.body.items ≡ compact_text (view v)) → IfOk result (IsReply performed cookie)
reply_is performed cookie v (Ok answer) built head content text =
    let none : has_float (view v) ≡ false = ap has_float built ∙ rw (texts_float (lines_of (told performed)).whole) refl in
    record { status = head.0; content = content; cookie_is = head.1; text = text none ∙ ap compact_text built }
reply_is performed cookie v (Err e) built head content text = tt

pub load_is : (performed : Performed) (v : Value) (reasons : Items) (result : Result Answer AllocError) → view v ≡ object (member (codes "reasons") (array reasons) (member (codes "reply") (lines_data (told performed)) no_members)) → items_have_float reasons ≡ false → IfOk result (λ answer. (answer.status ≡ Good) × (answer.cookie ≡ Kept)) → IfOk result (λ answer. answer.content ≡ Json) → IfOk result (λ answer. has_float (view v) ≡ false → answer.body.items ≡ compact_text (view v)) → IfOk result (IsLoad performed)
load_is performed v reasons (Ok answer) built exact head content text =
    let none : has_float (view v) ≡ false = ap has_float built ∙ rw (exact, texts_float (lines_of (told performed)).whole) refl in
    record { status = head.0; content = content; cookie_is = head.1; reasons = reasons; text = text none ∙ ap compact_text built }
load_is performed v reasons (Err e) built exact head content text = tt

pub syntax_is : (v : Value) (result : Result Answer AllocError) → view v ≡ object (member (codes "reply") (array (item (string (codes "- 1 syntax")) no_items)) no_members) → IfOk result (λ answer. (answer.status ≡ Good) × (answer.cookie ≡ Kept)) → IfOk result (λ answer. answer.content ≡ Json) → IfOk result (λ answer. has_float (view v) ≡ false → answer.body.items ≡ compact_text (view v)) → IfOk result IsSyntax
syntax_is v (Ok answer) built head content text = record { status = head.0; content = content; cookie_is = head.1; text = text (ap has_float built) ∙ ap compact_text built }
syntax_is v (Err e) built head content text = tt

pub welcome_is : (names : ℕ → List ℕ) (session : WebSession) (v : Value) (result : Result Answer AllocError) → view v ≡ object (member (codes "name") (string (shown (names session.account))) (member (codes "token") (string (shown session.token)) no_members)) → IfOk result (λ answer. (answer.status ≡ Good) × (answer.cookie ≡ Set session.id)) → IfOk result (λ answer. answer.content ≡ Json) → IfOk result (λ answer. has_float (view v) ≡ false → answer.body.items ≡ compact_text (view v)) → IfOk result (IsWelcome names session)
welcome_is names session v (Ok answer) built head content text = record { status = head.0; content = content; cookie = head.1; text = text (ap has_float built) ∙ ap compact_text built }
welcome_is names session v (Err e) built head content text = tt

pub named_is : (name : List ℕ) (v : Value) (result : Result Answer AllocError) → view v ≡ object (member (codes "name") (string (shown name)) no_members) → IfOk result (λ answer. (answer.status ≡ Good) × (answer.cookie ≡ Kept)) → IfOk result (λ answer. answer.content ≡ Json) → IfOk result (λ answer. has_float (view v) ≡ false → answer.body.items ≡ compact_text (view v)) → IfOk result (IsNamed name)
named_is name v (Ok answer) built head content text = record { status = head.0; content = content; cookie_is = head.1; text = text (ap has_float built) ∙ ap compact_text built }
named_is name v (Err e) built head content text = tt

-- ---- views

-- the answer of a value that keeps the cookie
pub view_is : (status : Status) (result : Result Answer AllocError) → IfOk result (λ answer. (answer.status ≡ status) × (answer.cookie ≡ Kept)) → IfOk result (λ answer. answer.content ≡ Json) → IfOk result IsView
view_is status (Ok answer) head content = (content, head.1)
view_is status (Err e) head content = tt

-- one that says to try again
pub wait_is : (result : Result Answer AllocError) → IfOk result (λ answer. (answer.status ≡ Unavailable) × (answer.cookie ≡ Kept)) → IfOk result (λ answer. answer.content ≡ Json) → IfOk result IsWait
wait_is (Ok answer) head content = (head.0, (content, head.1))
wait_is (Err e) head content = tt

-- ---- reasons, of which none has a float

last : (values : List Value) (v : Value) → has_float (view v) ≡ false → items_have_float (items_of (map view values)) ≡ false → items_have_float (items_of (map view (values ++ v ∷ []))) ≡ false
last [] v exact so_far = rw exact refl
last (w ∷ ws) v exact so_far =
    let both = or_false (has_float (view w)) (items_have_float (items_of (map view ws))) so_far in
    rw (both.0, last ws v exact both.1) refl

-- one more reason
pub one_reason : (values new : List Value) (v : Value) → new ≡ values ++ v ∷ [] → has_float (view v) ≡ false → items_have_float (items_of (map view values)) ≡ false → items_have_float (items_of (map view new)) ≡ false
one_reason values new v pushed exact so_far = ap (λ l. items_have_float (items_of (map view l))) pushed ∙ last values v exact so_far

-- ---- shoens

-- the number of the shoen at a place where there is none, and where there is one
pub none_at : (views : List ShoenView) (place : ℕ) (d : Data) → length views ≤ place → d ≡ null → d ≡ number_data (slice_get views place)
none_at views place d past e = e ∙ sym (ap number_data (slice_get_past views place past))

pub one_at : (views : List ShoenView) (place : ℕ) (one : ShoenView) (d : Data) → place < length views → one ≡ get_or views place one → d ≡ number (unsigned one.number.0) → d ≡ number_data (slice_get views place)
one_at views place one d within is e = e ∙ sym (ap number_data (slice_get_read views (length views) place one refl within is))

number_float : (o : Option ShoenView) → has_float (number_data o) ≡ false
number_float None = refl
number_float (Some view) = refl

pub shoens_are : (lists : ℕ → ℕ → List ShoenView → Type 0) (from : ℕ) (views : List ShoenView) (shoens : Items) (v : Value) (result : Result Answer AllocError) → lists from (suc SHOENS_A_PAGE) views → view v ≡ object (member (codes "next") (number_data (slice_get views SHOENS_A_PAGE)) (member (codes "shoens") (array shoens) no_members)) → items_have_float shoens ≡ false → IfOk result (λ answer. (answer.status ≡ Good) × (answer.cookie ≡ Kept)) → IfOk result (λ answer. answer.content ≡ Json) → IfOk result (λ answer. has_float (view v) ≡ false → answer.body.items ≡ compact_text (view v)) → IfOk result (IsShoens lists from)
shoens_are lists from views shoens v (Ok answer) listed built exact head content text =
    let none : has_float (view v) ≡ false = ap has_float built ∙ rw (number_float (slice_get views SHOENS_A_PAGE), exact) refl in
    record { views = views; listed = listed; status = head.0; content = content; cookie_is = head.1; shoens = shoens; text = text none ∙ ap compact_text built }
shoens_are lists from views shoens v (Err e) listed built exact head content text = tt
