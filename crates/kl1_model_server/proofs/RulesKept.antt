-- What is done to an account leaves the rules that it keeps to.
use Rattle.std.specs.Prelude.{◌≡◌, ℕ, zero, suc, ◌+◌, ◌==◌, nat_lt, nat_le, not, ◌&&◌, Bool, true, false, if◌then◌else◌, List, [], ◌∷◌, length, Option, Some, None, is_some}
use Rattle.std.proofs.Common.{refl, ap, ◌∙◌}
use Rattle.kl1_model.specs.declared.rules.Rules.{Rules}
use Rattle.kl1_model.specs.declared.limits.TheConstants.{MOST_MODULES, MOST_SOURCE_BYTES}
use Rattle.kl1_model.specs.declared.message.Message.{Message}
use Rattle.kl1_model.specs.declared.message.Message.TheVariants.{Stop, Start, Abort, Allow}
use Rattle.kl1_model.specs.Term.{Term, variable, integer, atom, structure, Replacement}
use Rattle.kl1_model.specs.Meaning.{highest}
use Rattle.kl1_model.specs.Nodes.{goal_nodes}
use Rattle.kl1_model.specs.Unify.{mgu}
use Rattle.kl1_model.specs.Module.{Module, Reading, good, bad, read_module}
use Rattle.kl1_model.specs.Match.{module_of}
use Rattle.kl1_model.specs.State.{State, Goal, has_substitutes, has_forgetting, has_runs, Shoen, Origin, goal_at, shoen_at, names_of, names_of_module, with_name, with_names, replace_in_state, replace_all, change_shoen, without_goal, is_living}
use Rattle.kl1_model.specs.Tree.{path, charge}
use Rattle.kl1_model.specs.Control.{Control, awaits_message, tells, tells_other, ends, breaks_off}
use Rattle.kl1_model.specs.Report.{has_made_last, report_tail, reported_on, reported_at, report, is_reported, report_each, closed_at, close, exception, exception_with, failure, illegal_input, exhaustion, started_report, stopped_report, resumed_report, exhausted_report, terminated_report, aborted_report}
use Rattle.kl1_model.specs.Ending.{ended_at, ending_of, without_monitor, terminate, terminate_each, settle, newly_exhausted, after_reduction, ended_below, abort}
use Rattle.kl1_model.specs.Opening.{may_start, has_room_to_start, with_shoen, open_shoen, with_next_variables, started_shoen, start_goal, child_shoen, has_room_for_child, open_child}
use Rattle.kl1_model.specs.Reduction.{Move, commits, raises, unifies, names, opens, goes, gives_way, Action, moves, reads, action_of, has_room_for, committed, substituted_by, raised, unified, equation, or_exhaustion, moved, obeyed, with_control, heard, acted, reduce_goal}
use Rattle.kl1_model.specs.Sending.{may_send, has_room_to_send, sent_on, send_living, send_to}
use Rattle.kl1_model.specs.Event.{Refusal, syntax, exists, shoen_ended, too_many_names, limit_passed, journal_full, answer_refused, start, reduce, loaded, opened, sent, reduced, forgot, Transition, refuse, is_number, unless, are_too_many, is_full, needs_entry, with_entry, with_reduction}
use Rattle.kl1_model.specs.Answering.{may_answer, has_room_to_answer, asked_at, given, answered, answer_asked, answer_by, answer_living, answer_to}
use Rattle.kl1_model.specs.Telling.{Asked, Given}
use Rattle.kl1_model.specs.Forgetting.{may_forget, gone, may_go, forget_by, forget_of}
use Rattle.kl1_model.specs.Step.{load_module, start_by, step}
use Rattle.kl1_model.specs.Choice.{Chosen, first, is_in_run}
use Rattle.kl1_model.specs.code.Steps.{report_of, close_of, stopped_of, resumed_of, reduced_by, send_by, answer_in, with_module, named_by}
use Rattle.kl1_model_server.specs.Journal.{Entry, loads, starts, sends, steps, answers, forgets, runs, chosen_step, first_steps, entry_step}

-- the rules of an account, and the length of its last run
abbrev pub kept_of : State → Rules × ℕ
kept_of s = (s.rules, s.run)

-- an account with the rules of another, and with a last run that is as long
abbrev pub Alike : State → State → Type 0
Alike s t = kept_of t ≡ kept_of s

either : (c : Bool) (s t u : State) → Alike s t → Alike s u → Alike s (if c then t else u)
either true s t u p q = p
either false s t u p q = q

replaced : (rs : List Replacement) (s : State) → Alike s (replace_all rs s)
replaced [] s = refl
replaced (r ∷ rs) s = replaced rs (replace_in_state r.number r.by s)

told : (k : ℕ) (m : Term) (o : Option ℕ) (s : State) → Alike s (reported_on k m o s)
told k m None s = refl
told k m (Some v) s = refl

reported : (k : ℕ) (m t : Term) (s : State) → Alike s (reported_at k m t s)
reported k m t s = told k m (report_tail (has_made_last s) m t) s

report_of_alike : (o : Option Shoen) (k : ℕ) (m : Term) (s : State) → Alike s (report_of o k m s)
report_of_alike None k m s = refl
report_of_alike (Some h) k m s = either h.is_broken s s (reported_at k m h.tail s) refl (reported k m h.tail s)

report_alike : (k : ℕ) (m : Term) (s : State) → Alike s (report k m s)
report_alike k m s = report_of_alike (shoen_at k s.shoens) k m s

report_each_alike : (ks : List ℕ) (m : Term) (s : State) → Alike s (report_each ks m s)
report_each_alike [] m s = refl
report_each_alike (k ∷ ks) m s = report_each_alike ks m (report k m s) ∙ report_alike k m s

closed : (t : Term) (s : State) → Alike s (closed_at t s)
closed (variable v) s = refl
closed (integer i) s = refl
closed (atom a) s = refl
closed (structure f ts) s = refl

close_of_alike : (o : Option Shoen) (s : State) → Alike s (close_of o s)
close_of_alike None s = refl
close_of_alike (Some h) s = either h.is_broken s s (closed_at h.tail s) refl (closed h.tail s)

close_alike : (k : ℕ) (s : State) → Alike s (close k s)
close_alike k s = close_of_alike (shoen_at k s.shoens) s

terminate_alike : (k : ℕ) (s : State) → Alike s (terminate k s)
terminate_alike k s =
    let ended = without_monitor k (ended_at k s) in
    close_alike k (report k terminated_report ended) ∙ report_alike k terminated_report ended

terminate_each_alike : (ks : List ℕ) (s : State) → Alike s (terminate_each ks s)
terminate_each_alike [] s = refl
terminate_each_alike (k ∷ ks) s = terminate_each_alike ks (terminate k s) ∙ terminate_alike k s

pub settle_alike : (k : ℕ) (s : State) → Alike s (settle k s)
settle_alike k s = terminate_each_alike (ending_of (path s.shoens k) s) s

pub settle_charged_alike : (k : ℕ) (s : State) → Alike s (after_reduction k s)
settle_charged_alike k s =
    let ks = path s.shoens k in
    let ending = ending_of ks s in
    let reached = newly_exhausted s ending ks in
    terminate_each_alike ending (report_each reached exhausted_report s) ∙ report_each_alike reached exhausted_report s

abort_alike : (k : ℕ) (s : State) → Alike s (abort k s)
abort_alike k s = close_alike k (report k aborted_report (ended_below k s)) ∙ report_alike k aborted_report (ended_below k s)

pub open_alike : (h : Shoen) (goal : Term) (s : State) → Alike s (open_shoen h goal s)
open_alike h goal s =
    let opened = report h.number started_report (with_shoen h goal s) in
    let one = report_alike h.number started_report (with_shoen h goal s) in
    either (h.allowance == 0) s (report h.number exhausted_report opened) opened (report_alike h.number exhausted_report opened ∙ one) one

pub raised_alike : (g : Goal) (kind : List ℕ) (t : Term) (s : State) → Alike s (raised g kind t s)
raised_alike g kind t s =
    let new = suc s.last_variable in
    let told = exception kind t in
    either (has_substitutes s.rules && is_reported g.shoen told s) s (substituted_by g kind t s) (report g.shoen told s)
    (report_alike g.shoen (exception_with kind t (variable new)) (record s { last_variable = new })) (report_alike g.shoen told s)

pub unified_alike : (g : Goal) (t : Term) (o : Option (List Replacement)) (s : State) → Alike s (unified g t o s)
unified_alike g t None s = raised_alike g failure t s
unified_alike g t (Some rs) s = replaced rs s

pub exhausted_or : (c : Bool) (g : Goal) (t : Term) (after s : State) → Alike s after → Alike s (or_exhaustion c g t after s)
exhausted_or true g t after s e = e
exhausted_or false g t after s e = raised_alike g exhaustion t s

pub moved_alike : (g : Goal) (t : Term) (m : Move) (s : State) → Alike s (moved g t m s)
moved_alike g t (commits k) s = exhausted_or (has_room_for s k.clause) g t (committed g k s) s refl
moved_alike g t (raises kind) s = raised_alike g kind t s
moved_alike g t (unifies a b) s = unified_alike g t (mgu (equation a b)) s
moved_alike g t (names text a) s =
    exhausted_or (not (are_too_many s.rules (with_name s.names text))) g t (named_by g t text a s) s (unified_alike g t (mgu (equation a (atom text))) (record s { names = with_name s.names text }))
moved_alike g t (opens o) s = exhausted_or (has_room_for_child s g.shoen) g t (open_child s g.shoen o) s (open_alike (child_shoen s g.shoen o) o.goal s)
moved_alike g t goes s = refl
moved_alike g t gives_way s = refl

stopped_alike : (o : Option Shoen) (k : ℕ) (s : State) → Alike s (stopped_of o k s)
stopped_alike None k s = refl
stopped_alike (Some h) k s =
    let after = change_shoen k (λ h. record h { is_stopped = true }) s in
    either h.is_stopped s s (report k stopped_report after) refl (report_alike k stopped_report after)

resumed_alike : (o : Option Shoen) (k : ℕ) (s : State) → Alike s (resumed_of o k s)
resumed_alike None k s = refl
resumed_alike (Some h) k s =
    let after = change_shoen k (λ h. record h { is_stopped = false }) s in
    either h.is_stopped s (report k resumed_report after) s (report_alike k resumed_report after) refl

obeyed_alike : (k : ℕ) (m : Message) (s : State) → Alike s (obeyed k m s)
obeyed_alike k Stop s = stopped_alike (shoen_at k s.shoens) k s
obeyed_alike k Start s = resumed_alike (shoen_at k s.shoens) k s
obeyed_alike k Abort s = abort_alike k s
obeyed_alike k (Allow extra) s = refl

pub heard_alike : (k : ℕ) (c : Control) (s : State) → Alike s (heard k c s)
heard_alike k (awaits_message v) s = refl
heard_alike k (tells m rest) s = obeyed_alike k m (with_control k rest s)
heard_alike k (tells_other m rest) s = report_alike k (exception illegal_input m) (with_control k rest s)
heard_alike k ends s = refl
heard_alike k (breaks_off t) s = report_alike k (exception illegal_input t) (without_monitor k s)

pub acted_alike : (g : Goal) (a : Action) (s : State) → Alike s (acted g a s)
acted_alike g (moves t m) s =
    let before = charge g.shoen (without_goal g.number s) in
    let after = moved g t m before in
    settle_charged_alike g.shoen after ∙ moved_alike g t m before
acted_alike g (reads c) s =
    let after = heard g.shoen c s in
    settle_alike g.shoen after ∙ heard_alike g.shoen c s

pub sent_alike : (k : ℕ) (m : Message) (t : Term) (s : State) → Alike s (sent_on k m t s)
sent_alike k m (variable v) s = refl
sent_alike k m (integer i) s = refl
sent_alike k m (atom a) s = refl
sent_alike k m (structure f ts) s = refl

-- ---- events

-- an account with the rules of another
abbrev pub Ruled : State → State → Type 0
Ruled s t = t.rules ≡ s.rules

pub ruled : (s t : State) → Alike s t → Ruled s t
ruled s t e = ap (λ (p : Rules × ℕ). p.0) e

-- what a goal does leaves the length of the last run
pub acted_run : (g : Goal) (a : Action) (s : State) → (acted g a s).run ≡ s.run
acted_run g a s = ap (λ (p : Rules × ℕ). p.1) (acted_alike g a s)

-- either outcome
one_of : (c : Bool) (s : State) (x y : Transition) → Ruled s x.state → Ruled s y.state → Ruled s (if c then x else y).state
one_of true s x y p q = p
one_of false s x y p q = q

-- what may be refused
may : (c : Bool) (s : State) (x : Transition) (r : Refusal) → Ruled s x.state → Ruled s (if c then x else refuse s r).state
may c s x r p = one_of c s x (refuse s r) p refl

unless_alike : (s : State) (rs : List (Bool × Refusal)) (x : Transition) → Ruled s x.state → Ruled s (unless s rs x).state
unless_alike s [] x p = p
unless_alike s (r ∷ rs) x p = one_of r.0 s (refuse s r.1) (unless s rs x) refl (unless_alike s rs x p)

load_alike : (s : State) (r : Reading Module) → Ruled s (load_module s r).state
load_alike s (bad line) = refl
load_alike s (good m) =
    unless_alike s
    ((is_some (module_of s.modules m.name), exists) ∷ (are_too_many s.rules (with_names s.names (names_of_module m)), too_many_names)
    ∷ (not (nat_lt (length s.modules) MOST_MODULES), limit_passed) ∷ (is_full s, journal_full) ∷ []) (record { state = with_entry (with_module s m); reply = loaded m.name }) refl

start_alike : (s : State) (allowance low high : ℕ) (t : Term) → Ruled s (start_goal s allowance low high t)
start_alike s allowance low high t =
    let goal = with_next_variables s.last_variable t in
    let count = s.last_variable + highest t in
    ruled s (start_goal s allowance low high t)
    (open_alike (started_shoen s allowance low high goal (variable (suc count)) (variable (suc (suc count)))) goal
    (record s {
      names = with_names s.names (names_of t);
      last_variable = suc (suc count);
      variables = s.variables + suc (suc (highest t));
      nodes = s.nodes + goal_nodes t;
    }))

starting_alike : (s : State) (allowance low high : ℕ) (t : Term) → Ruled s (step s (start allowance low high t)).state
starting_alike s allowance low high t =
    may (may_start allowance low high t) s (start_by s allowance low high t) syntax
    (unless_alike s
    ((are_too_many s.rules (with_names s.names (names_of t)), too_many_names) ∷ (not (has_room_to_start s t), limit_passed) ∷ (is_full s, journal_full) ∷ [])
    (record { state = with_entry (start_goal s allowance low high t); reply = opened (suc s.last_shoen) }) (start_alike s allowance low high t))

send_by_alike : (s : State) (n : ℕ) (m : Message) (h : Shoen) (o : Option Origin) → Ruled s (send_by s n m h o).state
send_by_alike s n m h None = refl
send_by_alike s n m h (Some o) =
    may (is_living h.life) s (send_living s n m o) shoen_ended
    (unless_alike s ((not (has_room_to_send s m), limit_passed) ∷ (is_full s, journal_full) ∷ [])
    (record { state = with_entry (sent_on n m o.control s); reply = sent }) (ruled s (sent_on n m o.control s) (sent_alike n m o.control s)))

send_alike : (s : State) (n : ℕ) (m : Message) (o : Option Shoen) → Ruled s (send_to s n m o).state
send_alike s n m None = refl
send_alike s n m (Some h) = send_by_alike s n m h h.origin

reduced_alike : (s : State) (r : Bool) (g : Goal) (o : Option Action) → Ruled s (reduced_by s r g o).state
reduced_alike s r g None = refl
reduced_alike s r g (Some a) =
    unless_alike s ((needs_entry r s && is_full s, journal_full) ∷ []) (record { state = acted g a (with_reduction r s); reply = reduced }) (ruled (with_reduction r s) (acted g a (with_reduction r s)) (acted_alike g a (with_reduction r s)))

reduce_alike : (s : State) (r : Bool) (clause : ℕ) (g : Option Goal) → Ruled s (reduce_goal s r clause g).state
reduce_alike s r clause None = refl
reduce_alike s r clause (Some g) = reduced_alike s r g (action_of s g clause)

answer_by_alike : (s : State) (g : Given) (t : Term) (o : Option Asked) → Ruled s (answer_by s g t o).state
answer_by_alike s g t None = refl
answer_by_alike s g t (Some a) = unless_alike s ((g.tells_gone, answer_refused) ∷ []) (record { state = with_entry (answered a.new g t s); reply = sent }) refl

asked_alike : (s : State) (t : Term) (o : Option Asked) → Ruled s (answer_asked s t o).state
asked_alike s t o =
    let g = given s o t in
    unless_alike s
    ((are_too_many s.rules (with_names s.names (names_of t)), too_many_names) ∷ (not (has_room_to_answer s g.new t), limit_passed) ∷ (is_full s, journal_full) ∷ [])
    (answer_by s g t o) (answer_by_alike s g t o)

answer_in_alike : (s : State) (report : ℕ) (t : Term) (h : Shoen) (o : Option Origin) → Ruled s (answer_in s report t h o).state
answer_in_alike s report t h None = refl
answer_in_alike s report t h (Some o) = may (is_living h.life) s (answer_living s report t o) shoen_ended (asked_alike s t (asked_at o report))

answer_alike : (s : State) (report : ℕ) (t : Term) (o : Option Shoen) → Ruled s (answer_to s report t o).state
answer_alike s report t None = refl
answer_alike s report t (Some h) = answer_in_alike s report t h h.origin

gone_alike : (s : State) (n count : ℕ) (o : Origin) → Ruled s (with_entry (gone n count o s))
gone_alike s n zero o = refl
gone_alike s n (suc count) o = refl

forget_by_alike : (s : State) (n count : ℕ) (h : Shoen) (o : Option Origin) → Ruled s (forget_by s n count h o).state
forget_by_alike s n count h None = refl
forget_by_alike s n count h (Some o) =
    unless_alike s ((is_full s, journal_full) ∷ (not (may_go count h o), answer_refused) ∷ []) (record { state = with_entry (gone n count o s); reply = forgot }) (gone_alike s n count o)

forget_alike : (s : State) (n count : ℕ) (o : Option Shoen) → Ruled s (forget_of s n count o).state
forget_alike s n count None = refl
forget_alike s n count (Some h) = forget_by_alike s n count h h.origin

-- a reduction leaves them
pub step_rules : (s : State) (goal clause : ℕ) → (step s (reduce goal clause)).state.rules ≡ s.rules
step_rules s goal clause =
    let r = is_in_run s goal clause in
    may (is_number goal && is_number clause) s (reduce_goal s r clause (goal_at goal s.goals)) syntax (reduce_alike s r clause (goal_at goal s.goals))

chosen_rules : (s : State) (o : Option Chosen) → Ruled s (chosen_step s o).state
chosen_rules s None = refl
chosen_rules s (Some c) = step_rules s c.goal c.clause

pub first_steps_rules : (n : ℕ) (s : State) → Ruled s (first_steps n s).state
first_steps_rules zero s = refl
first_steps_rules (suc n) s = let t = (first_steps n s).state in chosen_rules t (first t) ∙ first_steps_rules n s

-- what an entry does leaves them
pub entry_rules : (s : State) (e : Entry) → (entry_step s e).state.rules ≡ s.rules
entry_rules s (loads text) = may (nat_le (length text) MOST_SOURCE_BYTES) s (load_module s (read_module text)) syntax (load_alike s (read_module text))
entry_rules s (starts allowance low high t) = starting_alike s allowance low high t
entry_rules s (sends n m) = may (may_send n m) s (send_to s n m (shoen_at n s.shoens)) syntax (send_alike s n m (shoen_at n s.shoens))
entry_rules s (steps goal clause) = step_rules s goal clause
entry_rules s (runs n) = may (has_runs s.rules) s (first_steps n s) syntax (first_steps_rules n s)
entry_rules s (answers n report t) = may (may_answer s.rules n report t) s (answer_to s report t (shoen_at n s.shoens)) syntax (answer_alike s report t (shoen_at n s.shoens))
entry_rules s (forgets n count) = may (has_forgetting s.rules && may_forget n count) s (forget_of s n count (shoen_at n s.shoens)) syntax (forget_alike s n count (shoen_at n s.shoens))
