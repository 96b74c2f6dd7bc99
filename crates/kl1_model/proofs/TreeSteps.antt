-- What each event does to the tree of shoens and to charges, and that a refused event changes nothing.
use Rattle.std.proofs.Common.{◌≡◌, ◌≤◌, ℕ, suc, ◌+◌, ◌-◌, ◌==◌, ◌&&◌, Bool, true, false, if◌then◌else◌, not, List, [], ◌∷◌, refl, sym, ap, ◌∙◌, subst, arith}
use Rattle.std.proofs.lemmas.Bool.{false≢true}
use Rattle.std.specs.Prelude.{nat_lt, nat_le, length, Option, Some, None, option_map, is_some}
use Rattle.std.proofs.lemmas.Option.{none-some, same_Some}
use Rattle.kl1_model.specs.declared.message.Message.{Message}
use Rattle.kl1_model.specs.declared.limits.TheConstants.{MOST_MODULES, MOST_SESSIONS, MOST_SOURCE_BYTES}
use Rattle.kl1_model.specs.Term.{Term, variable, integer, atom, structure}
use Rattle.kl1_model.specs.Meaning.{cell, highest}
use Rattle.kl1_model.specs.Nodes.{goal_nodes}
use Rattle.kl1_model.specs.Module.{Module, Reading, good, bad, read_module}
use Rattle.kl1_model.specs.Match.{call_of, module_of}
use Rattle.kl1_model.specs.Look.{goal_look}
use Rattle.kl1_model.specs.State.{Task, monitor, reduces, substitutes, Goal, Origin, Shoen, State, has_forgetting, fresh_with, goal_at, shoen_at, names_of, names_of_module, with_names, replace_in_state, change_shoen, is_monitor, is_living}
use Rattle.kl1_model.specs.Tree.{is_on_path, charged_of, is_enabled}
use Rattle.kl1_model.specs.Control.{Control, awaits_message, tells, tells_other, ends, breaks_off, control_of, message_term, message_nodes}
use Rattle.kl1_model.specs.Event.{Refusal, syntax, source, exists, no_shoen, shoen_ended, step_refused, too_many_names, limit_passed, journal_full, sessions_refused, answer_refused, Query, value, status, reports, modules, is_quiet, load, start, control, reduce, read, login, logout, reset, answer, forget, Reply, loaded, opened, sent, reduced, welcome, bye, forgot, Transition, refuse, is_number, unless, are_too_many, is_full, needs_entry, with_entry, with_reduction, is_refused}
use Rattle.kl1_model.specs.Reduction.{Move, Action, moves, reads, term_move, read_action, task_action, action_of, acted, reduce_goal}
use Rattle.kl1_model.specs.Opening.{may_start, has_room_to_start, with_next_variables, started_shoen, start_goal}
use Rattle.kl1_model.specs.Sending.{may_send, has_room_to_send, send_living, with_control_tail, sent_on, send_to}
use Rattle.kl1_model.specs.Asking.{origin_at, kept_at, reply_to}
use Rattle.kl1_model.specs.Answering.{may_answer, has_room_to_answer, asked_at, given, answer_asked, answer_living, answered, answer_by, answer_to}
use Rattle.kl1_model.specs.Telling.{Asked, Given}
use Rattle.kl1_model.specs.Forgetting.{may_forget, gone, may_go, forget_by, forget_of}
use Rattle.kl1_model.specs.Choice.{is_in_run}
use Rattle.kl1_model.specs.Step.{load_module, start_by, step}
use Rattle.kl1_model.specs.code.Steps.{substitute_move, monitor_action, reduced_by, send_by, value_of, status_of, reports_of, answer_in, with_module, log_in, log_out}
use Rattle.kl1_model.specs.laws.TreeLaws.{IsTree, FreshIsTree, TreesStay, ReductionsCharge, MonitorsChargeNobody, OthersChargeNobody, RefusalsChangeNothing}
use Rattle.kl1_model.proofs.TreeKeeps.{Keeps, keeps_same, keeps_both, kept_tree, keeps_change, keeps_replace, keeps_gone}
use Rattle.kl1_model.proofs.TreeGrows.{Follows, follows_kept, follows_then, opening_follows, acted_move, acted_reading, charged_among, charged_kept, with_entry_keeps, with_reduction_keeps, found_within}

pub fresh_is_tree : FreshIsTree
fresh_is_tree rules name = record { numbered = tt; lower = λ k. omega arith; count = refl; owners = tt; worked = tt }

-- ---- what is refused changes nothing, and what follows an event that is no reduction

-- an event's outcome: what follows the account, and no change if it is refused
record Comes (s : State) (x : Transition) : Type 0 where
  follows : Follows 0 s x.state
  kept : is_refused x.reply ≡ true → x.state ≡ s

comes_refused : (s : State) (r : Refusal) → Comes s (refuse s r)
comes_refused s r = record { follows = follows_kept 0 s s (keeps_same s); kept = λ e. refl }

comes_said : (s : State) (r : Reply) → Comes s (record { state = s; reply = r })
comes_said s r = record { follows = follows_kept 0 s s (keeps_same s); kept = λ e. refl }

comes_if : (c : Bool) (s : State) (x y : Transition) → Comes s x → Comes s y → Comes s (if c then x else y)
comes_if true s x y p q = p
comes_if false s x y p q = q

comes_or : (c : Bool) (s : State) (x : Transition) (r : Refusal) → Comes s x → Comes s (if c then x else refuse s r)
comes_or c s x r p = comes_if c s x (refuse s r) p (comes_refused s r)

comes_unless : (s : State) (rs : List (Bool × Refusal)) (x : Transition) → Comes s x → Comes s (unless s rs x)
comes_unless s [] x p = p
comes_unless s (r ∷ rs) x p = comes_if r.0 s (refuse s r.1) (unless s rs x) (comes_refused s r.1) (comes_unless s rs x p)

comes_loaded : (s : State) (m : Module) → Comes s (record { state = with_entry (with_module s m); reply = loaded m.name })
comes_loaded s m = record {
  follows = follows_kept 0 s (with_entry (with_module s m)) (record { parents = refl; work = refl; last = refl; owners = λ n a. a; numbered = λ n a. a });
  kept = λ e. absurd (false≢true e);
}

comes_load : (s : State) (r : Reading Module) → Comes s (load_module s r)
comes_load s (bad line) = comes_refused s (source line)
comes_load s (good m) =
    comes_unless s
    ((is_some (module_of s.modules m.name), exists) ∷ (are_too_many s.rules (with_names s.names (names_of_module m)), too_many_names)
    ∷ (not (nat_lt (length s.modules) MOST_MODULES), limit_passed) ∷ (is_full s, journal_full) ∷ [])
    (record { state = with_entry (with_module s m); reply = loaded m.name }) (comes_loaded s m)

start_follows : (s : State) (allowance low high : ℕ) (t : Term) → Follows 0 s (start_goal s allowance low high t)
start_follows s allowance low high t =
    let goal = with_next_variables s.last_variable t in
    let count = s.last_variable + highest t in
    let h = started_shoen s allowance low high goal (variable (suc count)) (variable (suc (suc count))) in
    let u = record s { names = with_names s.names (names_of t); last_variable = suc (suc count); variables = s.variables + suc (suc (highest t)); nodes = s.nodes + goal_nodes t } in
    let f = opening_follows 0 h goal u refl (λ few. few) in
    let k : Keeps s u = record { parents = refl; work = refl; last = refl; owners = λ n a. a; numbered = λ n a. a } in
    record { more = f.more; parents = f.parents; work = f.work; tree = λ few tree. f.tree few (kept_tree s u k tree) }

comes_started : (s : State) (allowance low high : ℕ) (t : Term) → Comes s (record { state = with_entry (start_goal s allowance low high t); reply = opened (suc s.last_shoen) })
comes_started s allowance low high t = record {
  follows = follows_then 0 s (start_goal s allowance low high t) (with_entry (start_goal s allowance low high t)) (start_follows s allowance low high t) (with_entry_keeps (start_goal s allowance low high t));
  kept = λ e. absurd (false≢true e);
}

comes_start : (s : State) (allowance low high : ℕ) (t : Term) → Comes s (step s (start allowance low high t))
comes_start s allowance low high t =
    comes_or (may_start allowance low high t) s (start_by s allowance low high t) syntax
    (comes_unless s
    ((are_too_many s.rules (with_names s.names (names_of t)), too_many_names) ∷ (not (has_room_to_start s t), limit_passed) ∷ (is_full s, journal_full) ∷ [])
    (record { state = with_entry (start_goal s allowance low high t); reply = opened (suc s.last_shoen) }) (comes_started s allowance low high t))

sent_keeps : (n : ℕ) (m : Message) (t : Term) (s : State) → Keeps s (sent_on n m t s)
sent_keeps n m (variable v) s =
    let next = suc s.last_variable in
    let by = cell (message_term m) (variable next) in
    let u = record (replace_in_state v by s) { last_variable = next; variables = suc s.variables; nodes = s.nodes + message_nodes m } in
    let k = keeps_replace v by s in
    let b : Keeps s u = record { parents = k.parents; work = k.work; last = k.last; owners = k.owners; numbered = k.numbered } in
    keeps_both s u (change_shoen n (with_control_tail (variable next)) u) b (keeps_change n (with_control_tail (variable next)) u (λ h. refl) (λ h. refl))
sent_keeps n m (integer i) s = keeps_same s
sent_keeps n m (atom a) s = keeps_same s
sent_keeps n m (structure f ts) s = keeps_same s

comes_sent : (s : State) (n : ℕ) (m : Message) (t : Term) → Comes s (record { state = with_entry (sent_on n m t s); reply = sent })
comes_sent s n m t = record {
  follows = follows_kept 0 s (with_entry (sent_on n m t s)) (keeps_both s (sent_on n m t s) (with_entry (sent_on n m t s)) (sent_keeps n m t s) (with_entry_keeps (sent_on n m t s)));
  kept = λ e. absurd (false≢true e);
}

comes_send_by : (s : State) (n : ℕ) (m : Message) (h : Shoen) (o : Option Origin) → Comes s (send_by s n m h o)
comes_send_by s n m h None = comes_refused s no_shoen
comes_send_by s n m h (Some o) =
    comes_or (is_living h.life) s (send_living s n m o) shoen_ended
    (comes_unless s ((not (has_room_to_send s m), limit_passed) ∷ (is_full s, journal_full) ∷ [])
    (record { state = with_entry (sent_on n m o.control s); reply = sent }) (comes_sent s n m o.control))

comes_send : (s : State) (n : ℕ) (m : Message) (o : Option Shoen) → Comes s (send_to s n m o)
comes_send s n m None = comes_refused s no_shoen
comes_send s n m (Some h) = comes_send_by s n m h h.origin

comes_value : (s : State) (o : Option Origin) → Comes s (value_of s o)
comes_value s None = comes_refused s no_shoen
comes_value s (Some o) = comes_said s _

comes_status : (s : State) (o : Option Shoen) → Comes s (status_of s o)
comes_status s None = comes_refused s no_shoen
comes_status s (Some h) = comes_said s _

comes_reports : (s : State) (from : ℕ) (o : Option Origin) → Comes s (reports_of s from o)
comes_reports s from None = comes_refused s no_shoen
comes_reports s from (Some o) = comes_said s _

comes_query : (s : State) (q : Query) → Comes s (reply_to s q)
comes_query s (value n) = comes_or (is_number n) s (value_of s (origin_at n s.shoens)) syntax (comes_value s (origin_at n s.shoens))
comes_query s (status n) = comes_or (is_number n) s (status_of s (kept_at n s.shoens)) syntax (comes_status s (kept_at n s.shoens))
comes_query s (reports n from) = comes_or (is_number n && is_number from && nat_le 1 from) s (reports_of s from (origin_at n s.shoens)) syntax (comes_reports s from (origin_at n s.shoens))
comes_query s modules = comes_said s _
comes_query s is_quiet = comes_said s _

answered_keeps : (v : ℕ) (g : Given) (t : Term) (s : State) → Keeps s (answered v g t s)
answered_keeps v g t s =
    let k = keeps_replace v g.goal s in
    record { parents = k.parents; work = k.work; last = k.last; owners = k.owners; numbered = k.numbered }

comes_answer_by : (s : State) (g : Given) (t : Term) (o : Option Asked) → Comes s (answer_by s g t o)
comes_answer_by s g t None = comes_refused s answer_refused
comes_answer_by s g t (Some a) =
    let x : Transition = record { state = with_entry (answered a.new g t s); reply = sent } in
    comes_unless s ((g.tells_gone, answer_refused) ∷ []) x (record {
      follows = follows_kept 0 s (with_entry (answered a.new g t s)) (keeps_both s (answered a.new g t s) (with_entry (answered a.new g t s)) (answered_keeps a.new g t s) (with_entry_keeps (answered a.new g t s)));
      kept = λ e. absurd (false≢true e);
    })

comes_asked : (s : State) (t : Term) (o : Option Asked) → Comes s (answer_asked s t o)
comes_asked s t o =
    let g = given s o t in
    comes_unless s
    ((are_too_many s.rules (with_names s.names (names_of t)), too_many_names) ∷ (not (has_room_to_answer s g.new t), limit_passed) ∷ (is_full s, journal_full) ∷ [])
    (answer_by s g t o) (comes_answer_by s g t o)

comes_answer_in : (s : State) (report : ℕ) (t : Term) (h : Shoen) (o : Option Origin) → Comes s (answer_in s report t h o)
comes_answer_in s report t h None = comes_refused s no_shoen
comes_answer_in s report t h (Some o) = comes_or (is_living h.life) s (answer_living s report t o) shoen_ended (comes_asked s t (asked_at o report))

comes_answer_to : (s : State) (report : ℕ) (t : Term) (o : Option Shoen) → Comes s (answer_to s report t o)
comes_answer_to s report t None = comes_refused s no_shoen
comes_answer_to s report t (Some h) = comes_answer_in s report t h h.origin

comes_answer : (s : State) (n report : ℕ) (t : Term) → Comes s (step s (answer n report t))
comes_answer s n report t = comes_or (may_answer s.rules n report t) s (answer_to s report t (shoen_at n s.shoens)) syntax (comes_answer_to s report t (shoen_at n s.shoens))

-- ---- letting go

comes_forget_by : (s : State) (n count : ℕ) (h : Shoen) (o : Option Origin) → Comes s (forget_by s n count h o)
comes_forget_by s n count h None = comes_refused s no_shoen
comes_forget_by s n count h (Some o) =
    let t = gone n count o s in
    comes_unless s ((is_full s, journal_full) ∷ (not (may_go count h o), answer_refused) ∷ []) (record { state = with_entry t; reply = forgot })
    (record { follows = follows_kept 0 s (with_entry t) (keeps_both s t (with_entry t) (keeps_gone n count o s) (with_entry_keeps t)); kept = λ e. absurd (false≢true e) })

comes_forget_of : (s : State) (n count : ℕ) (o : Option Shoen) → Comes s (forget_of s n count o)
comes_forget_of s n count None = comes_refused s no_shoen
comes_forget_of s n count (Some h) = comes_forget_by s n count h h.origin

comes_forget : (s : State) (n count : ℕ) → Comes s (step s (forget n count))
comes_forget s n count = comes_or (has_forgetting s.rules && may_forget n count) s (forget_of s n count (shoen_at n s.shoens)) syntax (comes_forget_of s n count (shoen_at n s.shoens))

-- ---- reductions

-- what comes of a reduction of a goal, with what it charges
record Reduces (s : State) (g : Goal) (x : Transition) : Type 0 where
  tree : IsTree s → g.shoen ≤ s.last_shoen → IsTree x.state
  kept : is_refused x.reply ≡ true → x.state ≡ s
  charges : IsTree s → g.shoen ≤ s.last_shoen → is_monitor g.task ≡ false → x.reply ≡ reduced → (a : ℕ) → charged_of x.state a ≡ (if is_on_path s.shoens a g.shoen then 1 else 0) + charged_of s a
  spares : is_monitor g.task ≡ true → (a : ℕ) → charged_of x.state a ≡ charged_of s a

reduces_refused : (s : State) (g : Goal) (r : Refusal) → Reduces s g (refuse s r)
reduces_refused s g r = record { tree = λ tree few. tree; kept = λ e. refl; charges = λ tree few m e a. absurd (false≢true (sym (ap is_refused e))); spares = λ m a. refl }

reduces_or : (c : Bool) (s : State) (g : Goal) (x : Transition) (r : Refusal) → Reduces s g x → Reduces s g (if c then x else refuse s r)
reduces_or true s g x r p = p
reduces_or false s g x r p = reduces_refused s g r

reduces_unless : (c : Bool) (s : State) (g : Goal) (x : Transition) (r : Refusal) → Reduces s g x → Reduces s g (if c then refuse s r else x)
reduces_unless true s g x r p = reduces_refused s g r
reduces_unless false s g x r p = p

abbrev is_reading : Action → Bool
is_reading (moves t m) = false
is_reading (reads c) = true

-- a monitor makes no move, and no other goal reads
no_reading : (c : Control) (x : Option Move) (t : Term) → option_map (moves t) x ≡ Some (reads c) → ⊥
no_reading c None t e = none-some (reads c) e
no_reading c (Some m) t e = false≢true (ap is_reading (same_Some (moves t m) (reads c) e))

abbrev is_move : Action → Bool
is_move (moves t m) = true
is_move (reads c) = false

no_move : (x : Control) (t : Term) (m : Move) → read_action x ≡ Some (moves t m) → ⊥
no_move (awaits_message v) t m e = none-some (moves t m) e
no_move (tells n rest) t m e = false≢true (ap is_move (same_Some (reads (tells n rest)) (moves t m) e))
no_move (tells_other n rest) t m e = false≢true (ap is_move (same_Some (reads (tells_other n rest)) (moves t m) e))
no_move ends t m e = false≢true (ap is_move (same_Some (reads ends) (moves t m) e))
no_move (breaks_off u) t m e = false≢true (ap is_move (same_Some (reads (breaks_off u)) (moves t m) e))

some_if : {A : Type 0} (c : Bool) (o : Option A) (a : A) → (if c then o else None) ≡ Some a → o ≡ Some a
some_if true o a e = e
some_if false o a e = absurd (none-some a e)

monitor_no_move : (o : Option Shoen) (clause : ℕ) (t : Term) (m : Move) → monitor_action o clause ≡ Some (moves t m) → ⊥
monitor_no_move None clause t m e = none-some (moves t m) e
monitor_no_move (Some h) clause t m e = no_move (control_of h.control) t m (some_if (clause == 0) (read_action (control_of h.control)) (moves t m) e)

task_moves : (s : State) (n : ℕ) (task : Task) (clause : ℕ) (t : Term) (m : Move) → task_action s n task clause ≡ Some (moves t m) → is_monitor task ≡ true → ⊥
task_moves s n monitor clause t m e h = monitor_no_move (shoen_at n s.shoens) clause t m e
task_moves s n (reduces u) clause t m e h = false≢true h
task_moves s n (substitutes u) clause t m e h = false≢true h

task_reads : (s : State) (n : ℕ) (task : Task) (clause : ℕ) (c : Control) → task_action s n task clause ≡ Some (reads c) → is_monitor task ≡ false → ⊥
task_reads s n monitor clause c e h = false≢true (sym h)
task_reads s n (reduces u) clause c e h = no_reading c (term_move s.rules s.modules u clause (call_of u)) u e
task_reads s n (substitutes u) clause c e h = no_reading c (substitute_move (goal_look u)) u (some_if (clause == 0) (option_map (moves u) (substitute_move (goal_look u))) (reads c) e)

reduces_by : (s : State) (in_run : Bool) (g : Goal) (clause : ℕ) (o : Option Action) → action_of s g clause ≡ o → Reduces s g (reduced_by s in_run g o)
reduces_by s in_run g clause None e = reduces_refused s g step_refused
reduces_by s in_run g clause (Some (moves t m)) e =
    let u = with_reduction in_run s in
    let x : Transition = record { state = acted g (moves t m) u; reply = reduced } in
    let k = with_reduction_keeps in_run s in
    reduces_unless (needs_entry in_run s && is_full s) s g x journal_full (record {
      tree = λ tree few. (acted_move g t m u few (kept_tree s u k tree)).0;
      kept = λ r. absurd (false≢true r);
      charges = λ tree few h r a. (acted_move g t m u few (kept_tree s u k tree)).1 a;
      spares = λ h a. absurd (task_moves s g.shoen g.task clause t m (some_if (is_enabled s g) (task_action s g.shoen g.task clause) (moves t m) e) h);
    })
reduces_by s in_run g clause (Some (reads c)) e =
    let u = with_reduction in_run s in
    let t = acted g (reads c) u in
    let x : Transition = record { state = t; reply = reduced } in
    let k = keeps_both s u t (with_reduction_keeps in_run s) (acted_reading g c u) in
    reduces_unless (needs_entry in_run s && is_full s) s g x journal_full (record {
      tree = λ tree few. kept_tree s t k tree;
      kept = λ r. absurd (false≢true r);
      charges = λ tree few h r a. absurd (task_reads s g.shoen g.task clause c (some_if (is_enabled s g) (task_action s g.shoen g.task clause) (reads c) e) h);
      spares = λ h a. charged_kept s t a k;
    })

-- a reduction of a goal that may be there
reduces_goal : (s : State) (goal clause : ℕ) (g : Goal) → goal_at goal s.goals ≡ Some g → Reduces s g (step s (reduce goal clause))
reduces_goal s goal clause g e =
    let r = is_in_run s goal clause in
    subst (λ o. Reduces s g (if is_number goal && is_number clause then reduce_goal s r clause o else refuse s syntax)) (sym e)
    (reduces_or (is_number goal && is_number clause) s g (reduced_by s r g (action_of s g clause)) syntax (reduces_by s r g clause (action_of s g clause) refl))

pub reductions_charge : ReductionsCharge
reductions_charge s goal clause g tree e h r a = (reduces_goal s goal clause g e).charges tree (found_within s.last_shoen goal s.goals g e tree.owners) h r a

pub monitors_charge_nobody : MonitorsChargeNobody
monitors_charge_nobody s goal clause g tree e h a = (reduces_goal s goal clause g e).spares h a

-- if no goal has the number, the event is refused
no_goal : (s : State) (goal clause : ℕ) → goal_at goal s.goals ≡ None → (step s (reduce goal clause)).state ≡ s
no_goal s goal clause e =
    ap (λ o. (if is_number goal && is_number clause then reduce_goal s (is_in_run s goal clause) clause o else refuse s syntax).state) e ∙ both_refused (is_number goal && is_number clause)
  where
    both_refused : (c : Bool) → (if c then refuse s step_refused else refuse s syntax).state ≡ s
    both_refused true = refl
    both_refused false = refl

reduction_tree : (s : State) (goal clause : ℕ) (o : Option Goal) → goal_at goal s.goals ≡ o → IsTree s → IsTree (step s (reduce goal clause)).state
reduction_tree s goal clause None e tree = subst IsTree (sym (no_goal s goal clause e)) tree
reduction_tree s goal clause (Some g) e tree = (reduces_goal s goal clause g e).tree tree (found_within s.last_shoen goal s.goals g e tree.owners)

reduction_kept : (s : State) (goal clause : ℕ) (o : Option Goal) → goal_at goal s.goals ≡ o → is_refused (step s (reduce goal clause)).reply ≡ true → (step s (reduce goal clause)).state ≡ s
reduction_kept s goal clause None e r = no_goal s goal clause e
reduction_kept s goal clause (Some g) e r = (reduces_goal s goal clause g e).kept r

-- ---- all events

comes_load_event : (s : State) (text : List ℕ) → Comes s (step s (load text))
comes_load_event s text = comes_or (nat_le (length text) MOST_SOURCE_BYTES) s (load_module s (read_module text)) syntax (comes_load s (read_module text))

comes_control : (s : State) (n : ℕ) (m : Message) → Comes s (step s (control n m))
comes_control s n m = comes_or (may_send n m) s (send_to s n m (shoen_at n s.shoens)) syntax (comes_send s n m (shoen_at n s.shoens))

-- another number of sessions
comes_with : (s : State) (n : ℕ) (r : Reply) → is_refused r ≡ false → Comes s (record { state = record s { sessions = n }; reply = r })
comes_with s n r e = record {
  follows = follows_kept 0 s (record s { sessions = n }) (record { parents = refl; work = refl; last = refl; owners = λ n a. a; numbered = λ n a. a });
  kept = λ h. absurd (false≢true (sym e ∙ h));
}

comes_login : (s : State) → Comes s (log_in s)
comes_login s = comes_or (nat_lt s.sessions MOST_SESSIONS) s (record { state = record s { sessions = suc s.sessions }; reply = welcome s.own_name }) sessions_refused (comes_with s (suc s.sessions) (welcome s.own_name) refl)

comes_logout : (s : State) → Comes s (log_out s)
comes_logout s = comes_or (nat_lt 0 s.sessions) s (record { state = record s { sessions = s.sessions - 1 }; reply = bye }) sessions_refused (comes_with s (s.sessions - 1) bye refl)

reset_tree : (s : State) → IsTree (fresh_with s.rules s.own_name s.names s.sessions)
reset_tree s = record { numbered = tt; lower = λ k. omega arith; count = refl; owners = tt; worked = tt }

tree_from : (s : State) (x : Transition) → Comes s x → IsTree s → IsTree x.state
tree_from s x c tree = c.follows.tree (omega arith) tree

pub trees_stay : TreesStay
trees_stay s (load text) tree = tree_from s (step s (load text)) (comes_load_event s text) tree
trees_stay s (start allowance low high t) tree = tree_from s (step s (start allowance low high t)) (comes_start s allowance low high t) tree
trees_stay s (control n m) tree = tree_from s (step s (control n m)) (comes_control s n m) tree
trees_stay s (reduce goal clause) tree = reduction_tree s goal clause (goal_at goal s.goals) refl tree
trees_stay s (read q) tree = tree_from s (reply_to s q) (comes_query s q) tree
trees_stay s login tree = tree_from s (log_in s) (comes_login s) tree
trees_stay s logout tree = tree_from s (log_out s) (comes_logout s) tree
trees_stay s reset tree = reset_tree s
trees_stay s (answer n report t) tree = tree_from s (step s (answer n report t)) (comes_answer s n report t) tree
trees_stay s (forget n count) tree = tree_from s (step s (forget n count)) (comes_forget s n count) tree

charged_from : (s : State) (x : Transition) (a : ℕ) → Comes s x → IsTree s → charged_of x.state a ≡ charged_of s a
charged_from s x a c tree = charged_among s x.state c.follows.more a tree c.follows.parents c.follows.work

pub others_charge_nobody : OthersChargeNobody
others_charge_nobody s (load text) tree e a = charged_from s (step s (load text)) a (comes_load_event s text) tree
others_charge_nobody s (start allowance low high t) tree e a = charged_from s (step s (start allowance low high t)) a (comes_start s allowance low high t) tree
others_charge_nobody s (control n m) tree e a = charged_from s (step s (control n m)) a (comes_control s n m) tree
others_charge_nobody s (reduce goal clause) tree e a = absurd (false≢true (sym e))
others_charge_nobody s (read q) tree e a = charged_from s (reply_to s q) a (comes_query s q) tree
others_charge_nobody s login tree e a = charged_from s (log_in s) a (comes_login s) tree
others_charge_nobody s logout tree e a = charged_from s (log_out s) a (comes_logout s) tree
others_charge_nobody s reset tree e a = refl
others_charge_nobody s (answer n report t) tree e a = charged_from s (step s (answer n report t)) a (comes_answer s n report t) tree
others_charge_nobody s (forget n count) tree e a = charged_from s (step s (forget n count)) a (comes_forget s n count) tree

pub refusals_change_nothing : RefusalsChangeNothing
refusals_change_nothing s (load text) e = (comes_load_event s text).kept e
refusals_change_nothing s (start allowance low high t) e = (comes_start s allowance low high t).kept e
refusals_change_nothing s (control n m) e = (comes_control s n m).kept e
refusals_change_nothing s (reduce goal clause) e = reduction_kept s goal clause (goal_at goal s.goals) refl e
refusals_change_nothing s (read q) e = (comes_query s q).kept e
refusals_change_nothing s login e = (comes_login s).kept e
refusals_change_nothing s logout e = (comes_logout s).kept e
refusals_change_nothing s reset e = absurd (false≢true e)
refusals_change_nothing s (answer n report t) e = (comes_answer s n report t).kept e
refusals_change_nothing s (forget n count) e = (comes_forget s n count).kept e
