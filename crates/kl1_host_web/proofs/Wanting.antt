-- Of which account something is wanted.
use Rattle.std.proofs.Common.{◌≡◌, ◌<◌, ℕ, nat_lt, Bool, true, false, if◌then◌else◌, List, codes, Option, Some, None, Result, Ok, Err, IfOk, refl, ap, sym, subst, ◌∙◌, inl, inr, arith}
use Rattle.serde_json.specs.declared.value.Value.{Value}
use Rattle.kl1_model.specs.declared.rules.Rules.TheVariants.{Five}
use Rattle.kl1_model_server.specs.Command.{Command, parse}
use Rattle.kl1_host_door.specs.declared.refusal.Refusal.TheVariants.{BadBody}
use Rattle.kl1_host_door.specs.declared.ask.Ask.{Ask}
use Rattle.kl1_host_door.specs.declared.ask.Ask.TheVariants as ask
use Rattle.std.specs.declared.alloc.AllocError.{AllocError}
use Rattle.kl1_host_door.specs.declared.answer.Answer.{Answer}
use Rattle.kl1_host_door.specs.declared.answer.Content.{Content}
use Rattle.kl1_host_door.specs.declared.door.Allowed.{Allowed}
use Rattle.kl1_host_door.specs.declared.door.Allowed.TheVariants as allowed
use Rattle.kl1_host_web.specs.Wishes.{Wanted, refuse, syntax, enter, do_to, load_into, wish_view, text_in, is_plain, plain, command_in, owned, anyone, wanted, IsWish}
use Rattle.kl1_host_web.specs.Telling.{IsOfOne, IsTold, IsWait, Tells, IsOpenedIn, Refuses, Enters, IsRefusal, KeepsCookie, IsFile, IsPage, ShowsAll, IsShown}
use Rattle.kl1_host_web.specs.Serving.{is_within}
use Rattle.kl1_host_web.specs.declared.wish.Wish.{Wish}
use Rattle.kl1_host_web.specs.declared.outcome.Outcome.{Outcome}
use Rattle.kl1_host_web.specs.declared.outcome.Outcome.TheVariants as outcome
use Rattle.kl1_host_door.specs.declared.refusal.Refusal.{Refusal}
use Rattle.kl1_host_door.specs.declared.refusal.Refusal.TheVariants.{ManySessions}

-- ---- what is wanted by a request that is let in is of no account, or of that of its session

of_choice : (n a : ℕ) (c : Command) (v : Bool) → a < n → IsOfOne n (if◌then◌else◌ {A = Wanted} v (do_to a c) syntax)
of_choice n a c true w = w
of_choice n a c false w = tt

of_plain : (n a : ℕ) (parsed : Option Command) → a < n → IsOfOne n (plain a parsed)
of_plain n a None w = tt
of_plain n a (Some c) w = of_choice n a c (is_plain c) w

of_line : (n a : ℕ) (line : Option (List ℕ)) → a < n → IsOfOne n (elim line [ None ↦ refuse BadBody | Some l ↦ plain a (parse Five l) ])
of_line n a None w = tt
of_line n a (Some l) w = of_plain n a (parse Five l) w

of_text : (n a : ℕ) (text : Option (List ℕ)) → a < n → IsOfOne n (elim text [ None ↦ refuse BadBody | Some t ↦ load_into a t ])
of_text n a None w = tt
of_text n a (Some t) w = w

of_login : (n : ℕ) (name key : Option (List ℕ)) → IsOfOne n (elim name [ None ↦ refuse BadBody | Some m ↦ elim key [ None ↦ refuse BadBody | Some k ↦ enter m k ] ])
of_login n None key = tt
of_login n (Some m) None = tt
of_login n (Some m) (Some k) = tt

of_anyone : (n : ℕ) (a : Ask) (value : Option Value) → IsOfOne n (anyone a value)
of_anyone n ask.File value = tt
of_anyone n ask.Login value = of_login n (text_in (codes "name") value) (text_in (codes "key") value)
of_anyone n ask.Session value = tt
of_anyone n ask.Logout value = tt
of_anyone n ask.Command value = tt
of_anyone n ask.Load value = tt
of_anyone n ask.Account value = tt
of_anyone n (ask.Shoens from) value = tt
of_anyone n ask.Waiting value = tt
of_anyone n ask.Metrics value = tt
of_anyone n ask.Health value = tt

of_owned : (n account : ℕ) (a : Ask) (value : Option Value) → account < n → IsOfOne n (owned account a value)
of_owned n account ask.File value w = w
of_owned n account ask.Login value w = w
of_owned n account ask.Session value w = w
of_owned n account ask.Logout value w = w
of_owned n account ask.Command value w = of_line n account (text_in (codes "line") value) w
of_owned n account ask.Load value w = of_text n account (text_in (codes "text") value) w
of_owned n account ask.Account value w = w
of_owned n account (ask.Shoens from) value w = w
of_owned n account ask.Waiting value w = w
of_owned n account ask.Metrics value w = w
of_owned n account ask.Health value w = w

less : (a b : ℕ) → nat_lt a b ≡ true → a < b
less a b e = grind arith

of_wanted : (n : ℕ) (a : Allowed) (value : Option Value) → is_within n a ≡ true → IsOfOne n (wanted a value)
of_wanted n (allowed.Anyone a) value e = of_anyone n a value
of_wanted n (allowed.Owner id account a) value e = of_owned n account a value (less account n e)

-- a wish is of an account that there is, if the session is
pub of_wish : (n : ℕ) (a : Allowed) (body : List ℕ) (w : Wish) → is_within n a ≡ true → IsWish a body w → IsOfOne n (wish_view w)
of_wish n a body w e h = subst (IsOfOne n) (sym h.2) (of_wanted n a h.0 e)

-- ---- a session of a browser begins only of an account that there is

pub told_opens : (n : ℕ) (o : Outcome) → IsTold o → IsOpenedIn n o
told_opens n (outcome.Told answer) t = tt
told_opens n (outcome.Opens account) t = absurd t
told_opens n (outcome.Closes answer) t = tt

pub tells_opens : (n : ℕ) (of : Answer → Type 0) (o : Outcome) → Tells of o → IsOpenedIn n o
tells_opens n of (outcome.Told answer) t = tt
tells_opens n of (outcome.Opens account) t = absurd t
tells_opens n of (outcome.Closes answer) t = tt

pub refused_opens : (n : ℕ) (why : Refusal) (o : Outcome) → Refuses why o → IsOpenedIn n o
refused_opens n why (outcome.Told answer) t = tt
refused_opens n why (outcome.Opens account) t = absurd t
refused_opens n why (outcome.Closes answer) t = tt

pub shown_opens : (n : ℕ) (a : Ask) (path : List ℕ) (o : Outcome) → IsShown a path o → IsOpenedIn n o
shown_opens n a path (outcome.Told answer) t = tt
shown_opens n a path (outcome.Opens account) t = absurd t
shown_opens n a path (outcome.Closes answer) t = tt

-- ---- a login that isn't answered by `welcome` is refused, or told to try again

pub enters_refused : (account : ℕ) (v : Bool) (result : Result Outcome AllocError) → v ≡ false → IfOk result (Refuses ManySessions) → IfOk result (Enters v account)
enters_refused account true result e h = absurd (cc)
enters_refused account false (Ok o) e h = inl h
enters_refused account false (Err x) e h = tt

pub enters_later : (account : ℕ) (v : Bool) (answer : Answer) → v ≡ false → IsWait answer → Enters v account (outcome.Told answer)
enters_later account true answer e h = absurd (cc)
enters_later account false answer e h = inr h

-- ---- what there is at a path

pub page_is : (o p : Option (Content × List ℕ)) (result : Result Answer AllocError) → o ≡ p → IfOk result (IsPage o) → IfOk result (IsPage p)
page_is o p result e h = subst (λ x. IfOk result (IsPage x)) e h

pub refusal_keeps : (why : Refusal) (result : Result Answer AllocError) → IfOk result (IsRefusal why) → IfOk result KeepsCookie
refusal_keeps why (Ok answer) h = h.cookie
refusal_keeps why (Err e) h = tt

pub text_keeps : (content : Content) (text : List ℕ) (result : Result Answer AllocError) → IfOk result (IsFile content text) → IfOk result KeepsCookie
text_keeps content text (Ok answer) h = h.cookie
text_keeps content text (Err e) h = tt

-- what is no file keeps the cookie
pub no_file : (a : Ask) (path : List ℕ) (result : Result Answer AllocError) → (a ≡ ask.File → ⊥) → IfOk result KeepsCookie → IfOk result (ShowsAll a path)
no_file ask.File path result other h = absurd (other refl)
no_file ask.Login path result other h = h
no_file ask.Session path result other h = h
no_file ask.Logout path result other h = h
no_file ask.Command path result other h = h
no_file ask.Load path result other h = h
no_file ask.Account path result other h = h
no_file (ask.Shoens from) path result other h = h
no_file ask.Waiting path result other h = h
no_file ask.Metrics path result other h = h
no_file ask.Health path result other h = h

-- ---- what a line and a text want

pub command_is : (account : ℕ) (value : Option Value) (line : List ℕ) (parsed : Option Command) → Some line ≡ text_in (codes "line") value → parsed ≡ parse Five line → plain account parsed ≡ command_in account value
command_is account value line parsed told is =
    ap (plain account) is ∙ ap (λ o. let w : Wanted = elim o [ None ↦ refuse BadBody | Some l ↦ plain account (parse Five l) ] in w) told
