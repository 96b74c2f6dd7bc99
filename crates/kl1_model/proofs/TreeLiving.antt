-- Each event leaves goals and monitors to living shoens alone.
use Rattle.std.proofs.Common.{◌≡◌, ◌≤◌, ℕ, zero, suc, ◌+◌, ◌-◌, ◌==◌, not, ◌&&◌, Bool, true, false, if◌then◌else◌, List, [], ◌∷◌, ◌++◌, refl, sym, ap, ap₂, ◌∙◌, subst, arith}
use Rattle.std.specs.Prelude.{nat_lt, nat_le, map, length, Option, Some, None, is_some}
use Rattle.std.specs.List.{AllByRecursion}
use Rattle.std.proofs.lemmas.Bool.{false≢true, eq-eqb, ne_eqb}
use Rattle.std.proofs.lemmas.Option.{none-some, same_Some}
use Rattle.kl1_model.specs.declared.limits.TheConstants.{MOST_MODULES, MOST_SESSIONS, MOST_SOURCE_BYTES}
use Rattle.kl1_model.specs.declared.message.Message.{Message}
use Rattle.kl1_model.specs.declared.message.Message.TheVariants.{Stop, Start, Abort, Allow}
use Rattle.kl1_model.specs.Term.{Term, variable, integer, atom, structure, Replacement}
use Rattle.kl1_model.specs.Unify.{mgu}
use Rattle.kl1_model.specs.Meaning.{cell, highest}
use Rattle.kl1_model.specs.Nodes.{goal_nodes}
use Rattle.kl1_model.specs.Module.{Module, Reading, good, bad, read_module}
use Rattle.kl1_model.specs.Match.{Candidate, module_of}
use Rattle.kl1_model.specs.State.{Task, reduces, substitutes, Goal, Origin, Shoen, State, has_substitutes, has_forgetting, goal_at, shoen_at, names_of, names_of_module, with_name, with_names, replace_in_state, replace_all, change_shoen, without_goal, is_living}
use Rattle.kl1_model.specs.Tree.{parents_of, is_on_path, charge}
use Rattle.kl1_model.specs.Control.{Control, awaits_message, tells, tells_other, ends, breaks_off, message_term, message_nodes}
use Rattle.kl1_model.specs.Event.{Refusal, exists, shoen_ended, syntax, too_many_names, limit_passed, journal_full, sessions_refused, answer_refused, Query, value, status, reports, modules, is_quiet, Event, load, start, control, reduce, read, login, logout, reset, answer, forget, loaded, opened, sent, reduced, welcome, bye, forgot, Transition, refuse, is_number, unless, are_too_many, is_full, needs_entry, with_entry, with_reduction}
use Rattle.kl1_model.specs.Report.{report, is_reported, exception, exception_with, failure, illegal_input, exhaustion, started_report, exhausted_report, stopped_report, resumed_report}
use Rattle.kl1_model.specs.Ending.{without_monitor}
use Rattle.kl1_model.specs.Opening.{may_start, has_room_to_start, with_shoen, open_shoen, with_next_variables, started_shoen, start_goal, has_room_for_child, child_shoen, open_child}
use Rattle.kl1_model.specs.Reduction.{Move, commits, raises, unifies, names, opens, goes, gives_way, Action, moves, reads, action_of, goals_from, has_room_for, committed, replaced_by, substituted_by, raised, unified, equation, or_exhaustion, moved, obeyed, with_control, heard, acted, reduce_goal}
use Rattle.kl1_model.specs.Sending.{may_send, has_room_to_send, send_living, with_control_tail, sent_on, send_to}
use Rattle.kl1_model.specs.Asking.{origin_at, kept_at, reply_to}
use Rattle.kl1_model.specs.Answering.{may_answer, has_room_to_answer, asked_at, given, answer_asked, answer_living, answered, answer_by, answer_to}
use Rattle.kl1_model.specs.Telling.{Asked, Given}
use Rattle.kl1_model.specs.Forgetting.{may_forget, with_origin, without_reports, empty_place, gone_below, gone, may_go, forget_by, forget_of}
use Rattle.kl1_model.specs.Choice.{is_in_run}
use Rattle.kl1_model.specs.Step.{load_module, start_by, step}
use Rattle.kl1_model.specs.code.Steps.{opening_goals, stopped_of, resumed_of, allowed_more, reduced_by, send_by, value_of, status_of, reports_of, answer_in, with_module}
use Rattle.kl1_model.specs.laws.TreeLaws.{AreNumbered, IsTree, FreshIsOfLiving, EndedHaveNoGoals}
use Rattle.kl1_model.proofs.TreeKeeps.{Keeps, kept_tree, keeps_fewer}
use Rattle.kl1_model.proofs.TreeGrows.{with_reduction_keeps, found_within}
use Rattle.kl1_model.proofs.TreeEndings.{Mark, mark_of, marks_of, Post, posts_of, Leaves, leaves_same, leaves_both, leaves_if, leaves_change, leaves_replace, leaves_report}
use Rattle.kl1_model.proofs.TreeLives.{lives_in, Posted, IsPosted, to_posted, from_posted, posted_left, fewer_posts, settle_posted, settle_charged_posted, abort_posted}

-- ---- what monitors read

stopped_leaves : (o : Option Shoen) (n : ℕ) (s : State) → Leaves s (stopped_of o n s)
stopped_leaves None n s = leaves_same s
stopped_leaves (Some h) n s =
    let t = change_shoen n (λ h. record h { is_stopped = true }) s in
    leaves_if h.is_stopped s s (report n stopped_report t) (leaves_same s) (leaves_both s t (report n stopped_report t) (leaves_change n (λ h. record h { is_stopped = true }) s (λ h. refl)) (leaves_report n stopped_report t))

resumed_leaves : (o : Option Shoen) (n : ℕ) (s : State) → Leaves s (resumed_of o n s)
resumed_leaves None n s = leaves_same s
resumed_leaves (Some h) n s =
    let t = change_shoen n (λ h. record h { is_stopped = false }) s in
    leaves_if h.is_stopped s (report n resumed_report t) s (leaves_both s t (report n resumed_report t) (leaves_change n (λ h. record h { is_stopped = false }) s (λ h. refl)) (leaves_report n resumed_report t)) (leaves_same s)

obeyed_posted : (n : ℕ) (m : Message) (s : State) → IsPosted s → IsPosted (obeyed n m s)
obeyed_posted n Stop s a = posted_left s (obeyed n Stop s) (stopped_leaves (shoen_at n s.shoens) n s) a
obeyed_posted n Start s a = posted_left s (obeyed n Start s) (resumed_leaves (shoen_at n s.shoens) n s) a
obeyed_posted n Abort s a = abort_posted n s a
obeyed_posted n (Allow extra) s a = posted_left s (obeyed n (Allow extra) s) (leaves_change n (allowed_more extra) s (λ h. refl)) a

rest_posted : (n : ℕ) (rest : Term) (s : State) → IsPosted s → IsPosted (with_control n rest s)
rest_posted n rest s a = posted_left s (with_control n rest s) (leaves_change n (λ h. record h { control = rest }) s (λ h. refl)) a

monitor_posted : (n : ℕ) (s : State) → IsPosted s → IsPosted (without_monitor n s)
monitor_posted n s a = fewer_posts (λ (p : Post). lives_in (marks_of s.shoens) p.shoen ≡ true) _ s.goals a

report_posted : (n : ℕ) (m : Term) (s : State) → IsPosted s → IsPosted (report n m s)
report_posted n m s a = posted_left s (report n m s) (leaves_report n m s) a

heard_posted : (n : ℕ) (c : Control) (s : State) → IsPosted s → IsPosted (heard n c s)
heard_posted n (awaits_message v) s a = a
heard_posted n (tells m rest) s a = obeyed_posted n m (with_control n rest s) (rest_posted n rest s a)
heard_posted n (tells_other m rest) s a = report_posted n (exception illegal_input m) (with_control n rest s) (rest_posted n rest s a)
heard_posted n ends s a = monitor_posted n s a
heard_posted n (breaks_off t) s a = report_posted n (exception illegal_input t) (without_monitor n s) (monitor_posted n s a)

-- ---- openings

longer_case : (c : Bool) (l x y : Bool) → (x ≡ true → y ≡ true) → (if c then l else x) ≡ true → (if c then l else y) ≡ true
longer_case true l x y f e = e
longer_case false l x y f e = f e

-- who lived lives on beside one shoen more
still_lives : (hs : List Shoen) (h : Shoen) (m : ℕ) → lives_in (marks_of hs) m ≡ true → lives_in (marks_of (hs ++ h ∷ [])) m ≡ true
still_lives [] h m e = absurd (false≢true e)
still_lives (k ∷ hs) h m e = longer_case (k.number == m) (is_living k.life) (lives_in (marks_of hs) m) (lives_in (marks_of (hs ++ h ∷ [])) m) (still_lives hs h m) e

new_lives : (b : ℕ) (hs : List Shoen) (h : Shoen) → AreNumbered b hs → h.number ≡ suc (b + length (parents_of hs)) → is_living h.life ≡ true → lives_in (marks_of (hs ++ h ∷ [])) h.number ≡ true
new_lives b [] h a e l = ap (λ c. if c then is_living h.life else false) (eq-eqb h.number h.number refl) ∙ l
new_lives b (k ∷ hs) h a e l =
    ap (λ c. if c then is_living k.life else lives_in (marks_of (hs ++ h ∷ [])) h.number) (ne_eqb k.number h.number (λ same. omega (arith, same, a.0, e)))
    ∙ new_lives (suc b) hs h a.1 (omega (arith, e)) l

still_posted : (hs : List Shoen) (h : Shoen) (gs : List Goal) → Posted (marks_of hs) (posts_of gs) → Posted (marks_of (hs ++ h ∷ [])) (posts_of gs)
still_posted hs h [] a = tt
still_posted hs h (g ∷ gs) a = (still_lives hs h g.shoen a.0, still_posted hs h gs a.1)

both_posted : (P : Post → Type 0) (gs hs : List Goal) → AllByRecursion P (posts_of gs) → AllByRecursion P (posts_of hs) → AllByRecursion P (posts_of (gs ++ hs))
both_posted P [] hs a b = b
both_posted P (g ∷ gs) hs a b = (a.0, both_posted P gs hs a.1 b)

opened_posted : (h : Shoen) (goal : Term) (s : State) → h.number ≡ suc s.last_shoen → is_living h.life ≡ true → IsTree s → IsPosted s → IsPosted (with_shoen h goal s)
opened_posted h goal s number living tree a =
    let new = new_lives 0 s.shoens h tree.numbered (omega (arith, number, tree.count)) living in
    both_posted (λ (p : Post). lives_in (marks_of (s.shoens ++ h ∷ [])) p.shoen ≡ true) s.goals (opening_goals s.last_goal h goal) (still_posted s.shoens h s.goals a) (new, (new, tt))

open_posted : (h : Shoen) (goal : Term) (s : State) → h.number ≡ suc s.last_shoen → is_living h.life ≡ true → IsTree s → IsPosted s → IsPosted (open_shoen h goal s)
open_posted h goal s number living tree a =
    let t = with_shoen h goal s in
    let u = report h.number started_report t in
    let k = leaves_report h.number started_report t in
    posted_left t (open_shoen h goal s) (leaves_if (h.allowance == 0) t (report h.number exhausted_report u) u (leaves_both t u (report h.number exhausted_report u) k (leaves_report h.number exhausted_report u)) k)
    (opened_posted h goal s number living tree a)

-- ---- moves

leaves_all : (rs : List Replacement) (s : State) → Leaves s (replace_all rs s)
leaves_all [] s = leaves_same s
leaves_all (r ∷ rs) s = leaves_both s (replace_in_state r.number r.by s) (replace_all rs (replace_in_state r.number r.by s)) (leaves_replace r.number r.by s) (leaves_all rs (replace_in_state r.number r.by s))

-- the shoen of a goal lives
abbrev Lives : Goal → State → Type 0
Lives g s = lives_in (marks_of s.shoens) g.shoen ≡ true

lives_left : (g : Goal) (s t : State) → Leaves s t → Lives g s → Lives g t
lives_left g s t k l = ap (λ ms. lives_in ms g.shoen) k.marks ∙ l

replaced_posted : (g : Goal) (task : Task) (s : State) → Lives g s → IsPosted s → IsPosted (replaced_by g task s)
replaced_posted g task s l a = both_posted (λ (p : Post). lives_in (marks_of s.shoens) p.shoen ≡ true) s.goals _ a (l, tt)

posted_if : (c : Bool) (s t : State) → IsPosted s → IsPosted t → IsPosted (if c then s else t)
posted_if true s t a b = a
posted_if false s t a b = b

raised_posted : (g : Goal) (kind : List ℕ) (t : Term) (s : State) → Lives g s → IsPosted s → IsPosted (raised g kind t s)
raised_posted g kind t s l a =
    let new = suc s.last_variable in
    let told = exception_with kind t (variable new) in
    let u = record s { last_variable = new } in
    let k = leaves_report g.shoen told u in
    posted_if (has_substitutes s.rules && is_reported g.shoen (exception kind t) s) (substituted_by g kind t s) (report g.shoen (exception kind t) s)
    (replaced_posted g (substitutes (variable new)) (report g.shoen told u) (lives_left g u (report g.shoen told u) k l) (report_posted g.shoen told u a))
    (report_posted g.shoen (exception kind t) s a)

unified_posted : (g : Goal) (t : Term) (o : Option (List Replacement)) (s : State) → Lives g s → IsPosted s → IsPosted (unified g t o s)
unified_posted g t None s l a = raised_posted g failure t s l a
unified_posted g t (Some rs) s l a = posted_left s (replace_all rs s) (leaves_all rs s) a

posted_or : (c : Bool) (g : Goal) (t : Term) (u s : State) → IsPosted u → Lives g s → IsPosted s → IsPosted (or_exhaustion c g t u s)
posted_or true g t u s a l b = a
posted_or false g t u s a l b = raised_posted g exhaustion t s l b

from_posted_goals : (ms : Post → Type 0) (last shoen : ℕ) (ps : List ℕ) (ts : List Term) → ms (record { shoen = shoen; is_monitor = false }) → AllByRecursion ms (posts_of (goals_from last shoen ps ts))
from_posted_goals P last shoen [] [] e = tt
from_posted_goals P last shoen [] (t ∷ ts) e = tt
from_posted_goals P last shoen (p ∷ ps) [] e = tt
from_posted_goals P last shoen (p ∷ ps) (t ∷ ts) e = (e, from_posted_goals P (suc last) shoen ps ts e)

commit_posted : (g : Goal) (k : Candidate) (s : State) → lives_in (marks_of s.shoens) g.shoen ≡ true → IsPosted s → IsPosted (committed g k s)
commit_posted g k s l a =
    both_posted (λ (p : Post). lives_in (marks_of s.shoens) p.shoen ≡ true) s.goals _ a (from_posted_goals (λ (p : Post). lives_in (marks_of s.shoens) p.shoen ≡ true) s.last_goal g.shoen _ _ l)

moved_posted : (g : Goal) (t : Term) (m : Move) (s : State) → lives_in (marks_of s.shoens) g.shoen ≡ true → IsTree s → IsPosted s → IsPosted (moved g t m s)
moved_posted g t (commits k) s l tree a = posted_or (has_room_for s k.clause) g t (committed g k s) s (commit_posted g k s l a) l a
moved_posted g t (raises kind) s l tree a = raised_posted g kind t s l a
moved_posted g t (unifies x y) s l tree a = unified_posted g t (mgu (equation x y)) s l a
moved_posted g t (names text x) s l tree a =
    let u = record s { names = with_name s.names text } in
    posted_or (not (are_too_many s.rules (with_name s.names text))) g t (unified g t (mgu (equation x (atom text))) u) s (unified_posted g t (mgu (equation x (atom text))) u l a) l a
moved_posted g t (opens o) s l tree a =
    posted_or (has_room_for_child s g.shoen) g t (open_child s g.shoen o) s (open_posted (child_shoen s g.shoen o) o.goal s refl refl tree a) l a
moved_posted g t goes s l tree a = a
moved_posted g t gives_way s l tree a = replaced_posted g (reduces t) s l a

acted_posted : (g : Goal) (x : Action) (s : State) → lives_in (marks_of s.shoens) g.shoen ≡ true → g.shoen ≤ s.last_shoen → IsTree s → IsPosted s → IsPosted (acted g x s)
acted_posted g (moves t m) s l few tree a =
    let removed = without_goal g.number s in
    let worked = charge g.shoen removed in
    let kept = kept_tree s removed (keeps_fewer _ s) tree in
    let before : IsTree worked = record { numbered = kept.numbered; lower = kept.lower; count = kept.count; owners = kept.owners; worked = (few, kept.worked) } in
    settle_charged_posted g.shoen (moved g t m worked) (moved_posted g t m worked l before (fewer_posts (λ (p : Post). lives_in (marks_of s.shoens) p.shoen ≡ true) _ s.goals a))
acted_posted g (reads c) s l few tree a = settle_posted g.shoen (heard g.shoen c s) (heard_posted g.shoen c s a)

-- ---- events

-- an outcome of an account whose goals are of living shoens
abbrev Posts : Transition → Type 0
Posts x = IsPosted x.state

posts_if : (c : Bool) (x y : Transition) → Posts x → Posts y → Posts (if c then x else y)
posts_if true x y p q = p
posts_if false x y p q = q

posts_unless : (s : State) (rs : List (Bool × Refusal)) (x : Transition) → IsPosted s → Posts x → Posts (unless s rs x)
posts_unless s [] x a p = p
posts_unless s (r ∷ rs) x a p = posts_if r.0 (refuse s r.1) (unless s rs x) a (posts_unless s rs x a p)

owner_case : (c : Bool) (P : ℕ → Type 0) (g h : Goal) (o : Option Goal) → (if c then Some g else o) ≡ Some h → P g.shoen → (o ≡ Some h → P h.shoen) → P h.shoen
owner_case true P g h o e p f = subst (λ (k : Goal). P k.shoen) (same_Some g h e) p
owner_case false P g h o e p f = f e

owner_lives : (ms : ℕ → Type 0) (n : ℕ) (gs : List Goal) (h : Goal) → goal_at n gs ≡ Some h → AllByRecursion (λ (p : Post). ms p.shoen) (posts_of gs) → ms h.shoen
owner_lives P n [] h e a = absurd (none-some h e)
owner_lives P n (g ∷ gs) h e a = owner_case (g.number == n) P g h (goal_at n gs) e a.0 (λ f. owner_lives P n gs h f a.1)

reduced_posts : (s : State) (in_run : Bool) (g : Goal) (o : Option Action) → lives_in (marks_of s.shoens) g.shoen ≡ true → g.shoen ≤ s.last_shoen → IsTree s → IsPosted s → Posts (reduced_by s in_run g o)
reduced_posts s in_run g None l few tree a = a
reduced_posts s in_run g (Some x) l few tree a =
    let u = with_reduction in_run s in
    posts_unless s ((needs_entry in_run s && is_full s, journal_full) ∷ []) (record { state = acted g x u; reply = reduced }) a (acted_posted g x u l few (kept_tree s u (with_reduction_keeps in_run s) tree) a)

goal_posts : (s : State) (in_run : Bool) (goal clause : ℕ) (o : Option Goal) → goal_at goal s.goals ≡ o → IsTree s → IsPosted s → Posts (reduce_goal s in_run clause o)
goal_posts s in_run goal clause None e tree a = a
goal_posts s in_run goal clause (Some g) e tree a =
    reduced_posts s in_run g (action_of s g clause) (owner_lives (λ n. lives_in (marks_of s.shoens) n ≡ true) goal s.goals g e a) (found_within s.last_shoen goal s.goals g e tree.owners) tree a

load_posts : (s : State) (r : Reading Module) → IsPosted s → Posts (load_module s r)
load_posts s (bad line) a = a
load_posts s (good m) a =
    posts_unless s
    ((is_some (module_of s.modules m.name), exists) ∷ (are_too_many s.rules (with_names s.names (names_of_module m)), too_many_names)
    ∷ (not (nat_lt (length s.modules) MOST_MODULES), limit_passed) ∷ (is_full s, journal_full) ∷ [])
    (record { state = with_entry (with_module s m); reply = loaded m.name }) a a

started_posted : (s : State) (allowance low high : ℕ) (t : Term) → IsTree s → IsPosted s → IsPosted (start_goal s allowance low high t)
started_posted s allowance low high t tree a =
    let goal = with_next_variables s.last_variable t in
    let count = s.last_variable + highest t in
    let h = started_shoen s allowance low high goal (variable (suc count)) (variable (suc (suc count))) in
    let u = record s { names = with_names s.names (names_of t); last_variable = suc (suc count); variables = s.variables + suc (suc (highest t)); nodes = s.nodes + goal_nodes t } in
    let k : Keeps s u = record { parents = refl; work = refl; last = refl; owners = λ n b. b; numbered = λ n b. b } in
    open_posted h goal u refl refl (kept_tree s u k tree) a

start_posts : (s : State) (allowance low high : ℕ) (t : Term) → IsTree s → IsPosted s → Posts (step s (start allowance low high t))
start_posts s allowance low high t tree a =
    posts_if (may_start allowance low high t) (start_by s allowance low high t) (refuse s syntax)
    (posts_unless s
    ((are_too_many s.rules (with_names s.names (names_of t)), too_many_names) ∷ (not (has_room_to_start s t), limit_passed) ∷ (is_full s, journal_full) ∷ [])
    (record { state = with_entry (start_goal s allowance low high t); reply = opened (suc s.last_shoen) }) a (started_posted s allowance low high t tree a)) a

sent_leaves : (n : ℕ) (m : Message) (t : Term) (s : State) → Leaves s (sent_on n m t s)
sent_leaves n m (variable v) s =
    let next = suc s.last_variable in
    let by = cell (message_term m) (variable next) in
    let u = record (replace_in_state v by s) { last_variable = next; variables = suc s.variables; nodes = s.nodes + message_nodes m } in
    let k = leaves_replace v by s in
    let b : Leaves s u = record { marks = k.marks; goals = k.goals; posts = k.posts } in
    leaves_both s u (change_shoen n (with_control_tail (variable next)) u) b (leaves_change n (with_control_tail (variable next)) u (λ h. refl))
sent_leaves n m (integer i) s = leaves_same s
sent_leaves n m (atom a) s = leaves_same s
sent_leaves n m (structure f ts) s = leaves_same s

send_by_posts : (s : State) (n : ℕ) (m : Message) (h : Shoen) (o : Option Origin) → IsPosted s → Posts (send_by s n m h o)
send_by_posts s n m h None a = a
send_by_posts s n m h (Some o) a =
    posts_if (is_living h.life) (send_living s n m o) (refuse s shoen_ended)
    (posts_unless s ((not (has_room_to_send s m), limit_passed) ∷ (is_full s, journal_full) ∷ [])
    (record { state = with_entry (sent_on n m o.control s); reply = sent }) a (posted_left s (sent_on n m o.control s) (sent_leaves n m o.control s) a)) a

send_posts : (s : State) (n : ℕ) (m : Message) (o : Option Shoen) → IsPosted s → Posts (send_to s n m o)
send_posts s n m None a = a
send_posts s n m (Some h) a = send_by_posts s n m h h.origin a

value_posts : (s : State) (o : Option Origin) → IsPosted s → Posts (value_of s o)
value_posts s None a = a
value_posts s (Some o) a = a

status_posts : (s : State) (o : Option Shoen) → IsPosted s → Posts (status_of s o)
status_posts s None a = a
status_posts s (Some h) a = a

reports_posts : (s : State) (from : ℕ) (o : Option Origin) → IsPosted s → Posts (reports_of s from o)
reports_posts s from None a = a
reports_posts s from (Some o) a = a

query_posts : (s : State) (q : Query) → IsPosted s → Posts (reply_to s q)
query_posts s (value n) a = posts_if (is_number n) (value_of s (origin_at n s.shoens)) (refuse s syntax) (value_posts s (origin_at n s.shoens) a) a
query_posts s (status n) a = posts_if (is_number n) (status_of s (kept_at n s.shoens)) (refuse s syntax) (status_posts s (kept_at n s.shoens) a) a
query_posts s (reports n from) a = posts_if (is_number n && is_number from && nat_le 1 from) (reports_of s from (origin_at n s.shoens)) (refuse s syntax) (reports_posts s from (origin_at n s.shoens) a) a
query_posts s modules a = a
query_posts s is_quiet a = a

answered_leaves : (v : ℕ) (g : Given) (t : Term) (s : State) → Leaves s (answered v g t s)
answered_leaves v g t s =
    let k = leaves_replace v g.goal s in
    record { marks = k.marks; goals = k.goals; posts = k.posts }

answer_by_posts : (s : State) (g : Given) (t : Term) (o : Option Asked) → IsPosted s → Posts (answer_by s g t o)
answer_by_posts s g t None a = a
answer_by_posts s g t (Some b) a =
    posts_unless s ((g.tells_gone, answer_refused) ∷ []) (record { state = with_entry (answered b.new g t s); reply = sent }) a (posted_left s (answered b.new g t s) (answered_leaves b.new g t s) a)

asked_posts : (s : State) (t : Term) (o : Option Asked) → IsPosted s → Posts (answer_asked s t o)
asked_posts s t o a =
    let g = given s o t in
    posts_unless s
    ((are_too_many s.rules (with_names s.names (names_of t)), too_many_names) ∷ (not (has_room_to_answer s g.new t), limit_passed) ∷ (is_full s, journal_full) ∷ [])
    (answer_by s g t o) a (answer_by_posts s g t o a)

answer_in_posts : (s : State) (report : ℕ) (t : Term) (h : Shoen) (o : Option Origin) → IsPosted s → Posts (answer_in s report t h o)
answer_in_posts s report t h None a = a
answer_in_posts s report t h (Some o) a =
    posts_if (is_living h.life) (answer_living s report t o) (refuse s shoen_ended) (asked_posts s t (asked_at o report) a) a

answer_to_posts : (s : State) (report : ℕ) (t : Term) (o : Option Shoen) → IsPosted s → Posts (answer_to s report t o)
answer_to_posts s report t None a = a
answer_to_posts s report t (Some h) a = answer_in_posts s report t h h.origin a

-- ---- letting go

gone_lives : (c l : Bool) (h : Shoen) (ms ns : List Mark) (m : ℕ) → is_living h.life ≡ l → lives_in ms m ≡ lives_in ns m →
    lives_in (mark_of (if not l && c then empty_place h else h) ∷ ms) m ≡ lives_in (mark_of h ∷ ns) m
gone_lives true true h ms ns m f e = ap (λ z. if h.number == m then is_living h.life else z) e
gone_lives false true h ms ns m f e = ap (λ z. if h.number == m then is_living h.life else z) e
gone_lives true false h ms ns m f e = ap₂ (λ (l : Bool) (z : Bool). if h.number == m then l else z) (sym f) e
gone_lives false false h ms ns m f e = ap (λ z. if h.number == m then is_living h.life else z) e

-- who lives isn't let go
pub lives_gone : (all : List Shoen) (n : ℕ) (hs : List Shoen) (m : ℕ) → lives_in (marks_of (map (gone_below all n) hs)) m ≡ lives_in (marks_of hs) m
lives_gone all n [] m = refl
lives_gone all n (h ∷ hs) m = gone_lives (is_on_path all n h.number) (is_living h.life) h (marks_of (map (gone_below all n) hs)) (marks_of hs) m refl (lives_gone all n hs m)

posted_beside : (ms ns : List Mark) (ps : List Post) → ((m : ℕ) → lives_in ns m ≡ lives_in ms m) → Posted ms ps → Posted ns ps
posted_beside ms ns [] e a = tt
posted_beside ms ns (p ∷ ps) e a = (e p.shoen ∙ a.0, posted_beside ms ns ps e a.1)

gone_posted : (n count : ℕ) (o : Origin) (s : State) → IsPosted s → IsPosted (gone n count o s)
gone_posted n zero o s a = posted_beside (marks_of s.shoens) (marks_of (map (gone_below s.shoens n) s.shoens)) (posts_of s.goals) (lives_gone s.shoens n s.shoens) a
gone_posted n (suc count) o s a =
    let f = with_origin (without_reports (suc count) o) in
    posted_left s (change_shoen n f s) (leaves_change n f s (λ h. refl)) a

forget_by_posts : (s : State) (n count : ℕ) (h : Shoen) (o : Option Origin) → IsPosted s → Posts (forget_by s n count h o)
forget_by_posts s n count h None a = a
forget_by_posts s n count h (Some o) a =
    posts_unless s ((is_full s, journal_full) ∷ (not (may_go count h o), answer_refused) ∷ []) (record { state = with_entry (gone n count o s); reply = forgot }) a (gone_posted n count o s a)

forget_posts : (s : State) (n count : ℕ) (o : Option Shoen) → IsPosted s → Posts (forget_of s n count o)
forget_posts s n count None a = a
forget_posts s n count (Some h) a = forget_by_posts s n count h h.origin a

step_posts : (s : State) (e : Event) → IsTree s → IsPosted s → Posts (step s e)
step_posts s (load text) tree a = posts_if (nat_le (length text) MOST_SOURCE_BYTES) (load_module s (read_module text)) (refuse s syntax) (load_posts s (read_module text) a) a
step_posts s (start allowance low high t) tree a = start_posts s allowance low high t tree a
step_posts s (control n m) tree a = posts_if (may_send n m) (send_to s n m (shoen_at n s.shoens)) (refuse s syntax) (send_posts s n m (shoen_at n s.shoens) a) a
step_posts s (reduce goal clause) tree a = posts_if (is_number goal && is_number clause) (reduce_goal s (is_in_run s goal clause) clause (goal_at goal s.goals)) (refuse s syntax) (goal_posts s (is_in_run s goal clause) goal clause (goal_at goal s.goals) refl tree a) a
step_posts s (read q) tree a = query_posts s q a
step_posts s login tree a = posts_if (nat_lt s.sessions MOST_SESSIONS) (record { state = record s { sessions = suc s.sessions }; reply = welcome s.own_name }) (refuse s sessions_refused) a a
step_posts s logout tree a = posts_if (nat_lt 0 s.sessions) (record { state = record s { sessions = s.sessions - 1 }; reply = bye }) (refuse s sessions_refused) a a
step_posts s reset tree a = tt
step_posts s (answer n report t) tree a = posts_if (may_answer s.rules n report t) (answer_to s report t (shoen_at n s.shoens)) (refuse s syntax) (answer_to_posts s report t (shoen_at n s.shoens) a) a
step_posts s (forget n count) tree a = posts_if (has_forgetting s.rules && may_forget n count) (forget_of s n count (shoen_at n s.shoens)) (refuse s syntax) (forget_posts s n count (shoen_at n s.shoens) a) a

pub ended_have_no_goals : EndedHaveNoGoals
ended_have_no_goals s e tree a = from_posted (step s e).state (step_posts s e tree (to_posted s a))

pub fresh_is_of_living : FreshIsOfLiving
fresh_is_of_living rules name = tt
