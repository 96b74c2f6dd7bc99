-- What an event does is the same for whatever own name and sessions.
use Rattle.std.proofs.Common.{◌≡◌, ℕ, zero, suc, ◌+◌, ◌==◌, not, ◌&&◌, Bool, true, false, if◌then◌else◌, List, [], ◌∷◌, refl, ap, ◌∙◌}
use Rattle.std.specs.Prelude.{nat_lt, nat_le, length, Option, Some, None, is_some}
use Rattle.kl1_model.specs.declared.limits.TheConstants.{MOST_MODULES, MOST_SOURCE_BYTES}
use Rattle.kl1_model.specs.declared.message.Message.{Message}
use Rattle.kl1_model.specs.declared.message.Message.TheVariants.{Stop, Start, Abort, Allow}
use Rattle.kl1_model.specs.Term.{Term, variable, integer, atom, structure, Replacement}
use Rattle.kl1_model.specs.Meaning.{highest}
use Rattle.kl1_model.specs.Nodes.{goal_nodes}
use Rattle.kl1_model.specs.Unify.{mgu}
use Rattle.kl1_model.specs.Module.{Module, Reading, good, bad, read_module}
use Rattle.kl1_model.specs.Match.{module_of}
use Rattle.kl1_model.specs.State.{State, Goal, substitutes, has_substitutes, has_forgetting, has_runs, Shoen, Origin, goal_at, shoen_at, names_of, names_of_module, with_name, with_names, replace_in_state, replace_all, change_shoen, is_living, without_goal}
use Rattle.kl1_model.specs.Tree.{path, charge}
use Rattle.kl1_model.specs.Control.{Control, awaits_message, tells, tells_other, ends, breaks_off}
use Rattle.kl1_model.specs.Report.{has_made_last, report_tail, reported_on, reported_at, report, is_reported, report_each, closed_at, close, exception, exception_with, failure, illegal_input, exhaustion, started_report, stopped_report, resumed_report, exhausted_report, terminated_report, aborted_report}
use Rattle.kl1_model.specs.Ending.{ends_now, ended_at, ending_of, without_monitor, terminate, terminate_each, settle, newly_exhausted, after_reduction, ended_below, abort}
use Rattle.kl1_model.specs.Opening.{may_start, has_room_to_start, with_shoen, open_shoen, with_next_variables, started_shoen, start_goal, child_shoen, has_room_for_child, open_child}
use Rattle.kl1_model.specs.Reduction.{Move, commits, raises, unifies, names, opens, goes, gives_way, Action, moves, reads, action_of, has_room_for, committed, replaced_by, substituted_by, raised, unified, equation, or_exhaustion, moved, obeyed, with_control, heard, acted, reduce_goal}
use Rattle.kl1_model.specs.Sending.{may_send, has_room_to_send, sent_on, send_living, send_to}
use Rattle.kl1_model.specs.Event.{Refusal, syntax, exists, shoen_ended, too_many_names, limit_passed, journal_full, answer_refused, start, reduce, Reply, loaded, opened, sent, reduced, ran, forgot, Transition, refuse, is_number, is_refused, unless, are_too_many, is_full, needs_entry, with_entry, with_reduction}
use Rattle.kl1_model.specs.Answering.{may_answer, has_room_to_answer, asked_at, given, answered, answer_asked, answer_by, answer_living, answer_to}
use Rattle.kl1_model.specs.Telling.{Asked, Given}
use Rattle.kl1_model.specs.Forgetting.{may_forget, gone, may_go, forget_by, forget_of}
use Rattle.kl1_model.specs.Step.{load_module, start_by, step}
use Rattle.kl1_model.specs.Choice.{Chosen, first, is_in_run}
use Rattle.kl1_model.specs.code.Steps.{report_of, close_of, stopped_of, resumed_of, reduced_by, send_by, answer_in, with_module, named_by}
use Rattle.kl1_model_server.specs.laws.HistoryLaws.{beside, stepped_beside, StaysBeside}
use Rattle.kl1_model_server.specs.Journal.{loads, starts, sends, steps, answers, forgets, runs, chosen_step, first_step, first_steps}

-- either of two
either : (c : Bool) (name : List ℕ) (n : ℕ) (a b s t : State) → a ≡ beside name n s → b ≡ beside name n t → (if c then a else b) ≡ beside name n (if c then s else t)
either true name n a b s t p q = p
either false name n a b s t p q = q

either_stepped : (c : Bool) (name : List ℕ) (n : ℕ) (a b x y : Transition) → a ≡ stepped_beside name n x → b ≡ stepped_beside name n y → (if c then a else b) ≡ stepped_beside name n (if c then x else y)
either_stepped true name n a b x y p q = p
either_stepped false name n a b x y p q = q

replaced : (rs : List Replacement) (name : List ℕ) (n : ℕ) (s : State) → replace_all rs (beside name n s) ≡ beside name n (replace_all rs s)
replaced [] name n s = refl
replaced (r ∷ rs) name n s = replaced rs name n (replace_in_state r.number r.by s)

told : (k : ℕ) (m : Term) (o : Option ℕ) (name : List ℕ) (n : ℕ) (s : State) → reported_on k m o (beside name n s) ≡ beside name n (reported_on k m o s)
told k m None name n s = refl
told k m (Some v) name n s = refl

reported : (k : ℕ) (m t : Term) (name : List ℕ) (n : ℕ) (s : State) → reported_at k m t (beside name n s) ≡ beside name n (reported_at k m t s)
reported k m t name n s = told k m (report_tail (has_made_last s) m t) name n s

report_of_beside : (o : Option Shoen) (k : ℕ) (m : Term) (name : List ℕ) (n : ℕ) (s : State) → report_of o k m (beside name n s) ≡ beside name n (report_of o k m s)
report_of_beside None k m name n s = refl
report_of_beside (Some h) k m name n s = either h.is_broken name n (beside name n s) (reported_at k m h.tail (beside name n s)) s (reported_at k m h.tail s) refl (reported k m h.tail name n s)

report_beside : (k : ℕ) (m : Term) (name : List ℕ) (n : ℕ) (s : State) → report k m (beside name n s) ≡ beside name n (report k m s)
report_beside k m name n s = report_of_beside (shoen_at k s.shoens) k m name n s

report_each_beside : (ks : List ℕ) (m : Term) (name : List ℕ) (n : ℕ) (s : State) → report_each ks m (beside name n s) ≡ beside name n (report_each ks m s)
report_each_beside [] m name n s = refl
report_each_beside (k ∷ ks) m name n s = ap (report_each ks m) (report_beside k m name n s) ∙ report_each_beside ks m name n (report k m s)

closed : (t : Term) (name : List ℕ) (n : ℕ) (s : State) → closed_at t (beside name n s) ≡ beside name n (closed_at t s)
closed (variable v) name n s = refl
closed (integer i) name n s = refl
closed (atom a) name n s = refl
closed (structure f ts) name n s = refl

close_of_beside : (o : Option Shoen) (name : List ℕ) (n : ℕ) (s : State) → close_of o (beside name n s) ≡ beside name n (close_of o s)
close_of_beside None name n s = refl
close_of_beside (Some h) name n s = either h.is_broken name n (beside name n s) (closed_at h.tail (beside name n s)) s (closed_at h.tail s) refl (closed h.tail name n s)

close_beside : (k : ℕ) (name : List ℕ) (n : ℕ) (s : State) → close k (beside name n s) ≡ beside name n (close k s)
close_beside k name n s = close_of_beside (shoen_at k s.shoens) name n s

terminate_beside : (k : ℕ) (name : List ℕ) (n : ℕ) (s : State) → terminate k (beside name n s) ≡ beside name n (terminate k s)
terminate_beside k name n s =
    ap (close k) (report_beside k terminated_report name n (without_monitor k (ended_at k s))) ∙ close_beside k name n (report k terminated_report (without_monitor k (ended_at k s)))

terminate_each_beside : (ks : List ℕ) (name : List ℕ) (n : ℕ) (s : State) → terminate_each ks (beside name n s) ≡ beside name n (terminate_each ks s)
terminate_each_beside [] name n s = refl
terminate_each_beside (k ∷ ks) name n s = ap (terminate_each ks) (terminate_beside k name n s) ∙ terminate_each_beside ks name n (terminate k s)

ending_by : (c : Bool) (k : ℕ) (xs ys zs ws : List ℕ) → xs ≡ zs → ys ≡ ws → (if c then k ∷ xs else ys) ≡ (if c then k ∷ zs else ws)
ending_by true k xs ys zs ws e f = ap (λ x. k ∷ x) e
ending_by false k xs ys zs ws e f = f

ending_beside : (ks : List ℕ) (name : List ℕ) (n : ℕ) (s : State) → ending_of ks (beside name n s) ≡ ending_of ks s
ending_beside [] name n s = refl
ending_beside (k ∷ ks) name n s =
    ending_by (ends_now k s) k (ending_of ks (beside name n (ended_at k s))) (ending_of ks (beside name n s)) (ending_of ks (ended_at k s)) (ending_of ks s) (ending_beside ks name n (ended_at k s)) (ending_beside ks name n s)

settle_beside : (k : ℕ) (name : List ℕ) (n : ℕ) (s : State) → settle k (beside name n s) ≡ beside name n (settle k s)
settle_beside k name n s =
    ap (λ ks. terminate_each ks (beside name n s)) (ending_beside (path s.shoens k) name n s) ∙ terminate_each_beside (ending_of (path s.shoens k) s) name n s

settle_charged_beside : (k : ℕ) (name : List ℕ) (n : ℕ) (s : State) → after_reduction k (beside name n s) ≡ beside name n (after_reduction k s)
settle_charged_beside k name n s =
    let ks = path s.shoens k in
    let by : List ℕ → State = λ ending. terminate_each ending (report_each (newly_exhausted s ending ks) exhausted_report (beside name n s)) in
    let ending = ending_of ks s in
    let after = report_each (newly_exhausted s ending ks) exhausted_report s in
    ap by (ending_beside ks name n s) ∙ ap (terminate_each ending) (report_each_beside (newly_exhausted s ending ks) exhausted_report name n s) ∙ terminate_each_beside ending name n after

abort_beside : (k : ℕ) (name : List ℕ) (n : ℕ) (s : State) → abort k (beside name n s) ≡ beside name n (abort k s)
abort_beside k name n s =
    ap (close k) (report_beside k aborted_report name n (ended_below k s)) ∙ close_beside k name n (report k aborted_report (ended_below k s))

open_beside : (h : Shoen) (goal : Term) (name : List ℕ) (n : ℕ) (s : State) → open_shoen h goal (beside name n s) ≡ beside name n (open_shoen h goal s)
open_beside h goal name n s =
    let opened = report h.number started_report (with_shoen h goal s) in
    let one = report_beside h.number started_report name n (with_shoen h goal s) in
    either (h.allowance == 0) name n (report h.number exhausted_report (report h.number started_report (with_shoen h goal (beside name n s)))) (report h.number started_report (with_shoen h goal (beside name n s))) (report h.number exhausted_report opened) opened
    (ap (report h.number exhausted_report) one ∙ report_beside h.number exhausted_report name n opened) one

substituted_beside : (g : Goal) (kind : List ℕ) (t : Term) (name : List ℕ) (n : ℕ) (s : State) → substituted_by g kind t (beside name n s) ≡ beside name n (substituted_by g kind t s)
substituted_beside g kind t name n s =
    let new = suc s.last_variable in
    ap (replaced_by g (substitutes (variable new))) (report_beside g.shoen (exception_with kind t (variable new)) name n (record s { last_variable = new }))

raised_beside : (g : Goal) (kind : List ℕ) (t : Term) (name : List ℕ) (n : ℕ) (s : State) → raised g kind t (beside name n s) ≡ beside name n (raised g kind t s)
raised_beside g kind t name n s =
    let told = exception kind t in
    either (has_substitutes s.rules && is_reported g.shoen told s) name n (substituted_by g kind t (beside name n s)) (report g.shoen told (beside name n s)) (substituted_by g kind t s) (report g.shoen told s)
    (substituted_beside g kind t name n s) (report_beside g.shoen told name n s)

unified_beside : (g : Goal) (t : Term) (o : Option (List Replacement)) (name : List ℕ) (n : ℕ) (s : State) → unified g t o (beside name n s) ≡ beside name n (unified g t o s)
unified_beside g t None name n s = raised_beside g failure t name n s
unified_beside g t (Some rs) name n s = replaced rs name n s

exhausted_or : (c : Bool) (g : Goal) (goal : Term) (name : List ℕ) (n : ℕ) (a t s : State) → a ≡ beside name n t → or_exhaustion c g goal a (beside name n s) ≡ beside name n (or_exhaustion c g goal t s)
exhausted_or true g goal name n a t s e = e
exhausted_or false g goal name n a t s e = raised_beside g exhaustion goal name n s

moved_beside : (g : Goal) (t : Term) (m : Move) (name : List ℕ) (n : ℕ) (s : State) → moved g t m (beside name n s) ≡ beside name n (moved g t m s)
moved_beside g t (commits k) name n s = exhausted_or (has_room_for s k.clause) g t name n (committed g k (beside name n s)) (committed g k s) s refl
moved_beside g t (raises kind) name n s = raised_beside g kind t name n s
moved_beside g t (unifies a b) name n s = unified_beside g t (mgu (equation a b)) name n s
moved_beside g t (names text a) name n s =
    exhausted_or (not (are_too_many s.rules (with_name s.names text))) g t name n (named_by g t text a (beside name n s)) (named_by g t text a s) s
    (unified_beside g t (mgu (equation a (atom text))) name n (record s { names = with_name s.names text }))
moved_beside g t (opens o) name n s =
    exhausted_or (has_room_for_child s g.shoen) g t name n (open_child (beside name n s) g.shoen o) (open_child s g.shoen o) s (open_beside (child_shoen s g.shoen o) o.goal name n s)
moved_beside g t goes name n s = refl
moved_beside g t gives_way name n s = refl

stopped_beside : (o : Option Shoen) (k : ℕ) (name : List ℕ) (n : ℕ) (s : State) → stopped_of o k (beside name n s) ≡ beside name n (stopped_of o k s)
stopped_beside None k name n s = refl
stopped_beside (Some h) k name n s =
    let after = change_shoen k (λ h. record h { is_stopped = true }) s in
    either h.is_stopped name n (beside name n s) (report k stopped_report (beside name n after)) s (report k stopped_report after) refl (report_beside k stopped_report name n after)

resumed_beside : (o : Option Shoen) (k : ℕ) (name : List ℕ) (n : ℕ) (s : State) → resumed_of o k (beside name n s) ≡ beside name n (resumed_of o k s)
resumed_beside None k name n s = refl
resumed_beside (Some h) k name n s =
    let after = change_shoen k (λ h. record h { is_stopped = false }) s in
    either h.is_stopped name n (report k resumed_report (beside name n after)) (beside name n s) (report k resumed_report after) s (report_beside k resumed_report name n after) refl

obeyed_beside : (k : ℕ) (m : Message) (name : List ℕ) (n : ℕ) (s : State) → obeyed k m (beside name n s) ≡ beside name n (obeyed k m s)
obeyed_beside k Stop name n s = stopped_beside (shoen_at k s.shoens) k name n s
obeyed_beside k Start name n s = resumed_beside (shoen_at k s.shoens) k name n s
obeyed_beside k Abort name n s = abort_beside k name n s
obeyed_beside k (Allow extra) name n s = refl

heard_beside : (k : ℕ) (c : Control) (name : List ℕ) (n : ℕ) (s : State) → heard k c (beside name n s) ≡ beside name n (heard k c s)
heard_beside k (awaits_message v) name n s = refl
heard_beside k (tells m rest) name n s = obeyed_beside k m name n (with_control k rest s)
heard_beside k (tells_other m rest) name n s = report_beside k (exception illegal_input m) name n (with_control k rest s)
heard_beside k ends name n s = refl
heard_beside k (breaks_off t) name n s = report_beside k (exception illegal_input t) name n (without_monitor k s)

acted_beside : (g : Goal) (a : Action) (name : List ℕ) (n : ℕ) (s : State) → acted g a (beside name n s) ≡ beside name n (acted g a s)
acted_beside g (moves t m) name n s =
    let before = charge g.shoen (without_goal g.number s) in
    ap (after_reduction g.shoen) (moved_beside g t m name n before) ∙ settle_charged_beside g.shoen name n (moved g t m before)
acted_beside g (reads c) name n s = ap (settle g.shoen) (heard_beside g.shoen c name n s) ∙ settle_beside g.shoen name n (heard g.shoen c s)

sent_beside : (k : ℕ) (m : Message) (t : Term) (name : List ℕ) (n : ℕ) (s : State) → sent_on k m t (beside name n s) ≡ beside name n (sent_on k m t s)
sent_beside k m (variable v) name n s = refl
sent_beside k m (integer i) name n s = refl
sent_beside k m (atom a) name n s = refl
sent_beside k m (structure f ts) name n s = refl

-- what may be refused
refused_or : (c : Bool) (r : Refusal) (name : List ℕ) (n : ℕ) (a x : Transition) (s : State) → a ≡ stepped_beside name n x → (if c then a else refuse (beside name n s) r) ≡ stepped_beside name n (if c then x else refuse s r)
refused_or true r name n a x s e = e
refused_or false r name n a x s e = refl

done : (name : List ℕ) (n : ℕ) (a t : State) (r : Reply) → a ≡ beside name n t → record { state = a; reply = r } ≡ stepped_beside name n (record { state = t; reply = r })
done name n a t r e = ap (λ z. let x : Transition = record { state = z; reply = r } in x) e

-- what may be refused by several tests
unless_beside : (rs : List (Bool × Refusal)) (name : List ℕ) (n : ℕ) (a x : Transition) (s : State) → a ≡ stepped_beside name n x → unless (beside name n s) rs a ≡ stepped_beside name n (unless s rs x)
unless_beside [] name n a x s e = e
unless_beside (r ∷ rs) name n a x s e =
    either_stepped r.0 name n (refuse (beside name n s) r.1) (unless (beside name n s) rs a) (refuse s r.1) (unless s rs x) refl (unless_beside rs name n a x s e)

load_beside : (r : Reading Module) (name : List ℕ) (n : ℕ) (s : State) → load_module (beside name n s) r ≡ stepped_beside name n (load_module s r)
load_beside (bad line) name n s = refl
load_beside (good m) name n s =
    unless_beside
    ((is_some (module_of s.modules m.name), exists) ∷ (are_too_many s.rules (with_names s.names (names_of_module m)), too_many_names)
    ∷ (not (nat_lt (length s.modules) MOST_MODULES), limit_passed) ∷ (is_full s, journal_full) ∷ []) name n
    (record { state = with_entry (with_module (beside name n s) m); reply = loaded m.name }) (record { state = with_entry (with_module s m); reply = loaded m.name }) s refl

start_beside : (allowance low high : ℕ) (t : Term) (name : List ℕ) (n : ℕ) (s : State) → start_goal (beside name n s) allowance low high t ≡ beside name n (start_goal s allowance low high t)
start_beside allowance low high t name n s =
    let goal = with_next_variables s.last_variable t in
    let count = s.last_variable + highest t in
    open_beside (started_shoen s allowance low high goal (variable (suc count)) (variable (suc (suc count)))) goal name n
    (record s {
      names = with_names s.names (names_of t);
      last_variable = suc (suc count);
      variables = s.variables + suc (suc (highest t));
      nodes = s.nodes + goal_nodes t;
    })

starting_beside : (allowance low high : ℕ) (t : Term) (name : List ℕ) (n : ℕ) (s : State) → step (beside name n s) (start allowance low high t) ≡ stepped_beside name n (step s (start allowance low high t))
starting_beside allowance low high t name n s =
    let b = beside name n s in
    let x : Transition = record { state = with_entry (start_goal s allowance low high t); reply = opened (suc s.last_shoen) } in
    let xb : Transition = record { state = with_entry (start_goal b allowance low high t); reply = opened (suc s.last_shoen) } in
    refused_or (may_start allowance low high t) syntax name n (start_by b allowance low high t) (start_by s allowance low high t) s
    (unless_beside
    ((are_too_many s.rules (with_names s.names (names_of t)), too_many_names) ∷ (not (has_room_to_start s t), limit_passed) ∷ (is_full s, journal_full) ∷ []) name n
    xb x s (done name n (with_entry (start_goal b allowance low high t)) (with_entry (start_goal s allowance low high t)) (opened (suc s.last_shoen)) (ap with_entry (start_beside allowance low high t name n s))))

send_by_beside : (k : ℕ) (m : Message) (h : Shoen) (o : Option Origin) (name : List ℕ) (n : ℕ) (s : State) → send_by (beside name n s) k m h o ≡ stepped_beside name n (send_by s k m h o)
send_by_beside k m h None name n s = refl
send_by_beside k m h (Some o) name n s =
    let b = beside name n s in
    let x : Transition = record { state = with_entry (sent_on k m o.control s); reply = sent } in
    let xb : Transition = record { state = with_entry (sent_on k m o.control b); reply = sent } in
    refused_or (is_living h.life) shoen_ended name n (send_living b k m o) (send_living s k m o) s
    (unless_beside ((not (has_room_to_send s m), limit_passed) ∷ (is_full s, journal_full) ∷ []) name n xb x s
    (done name n (with_entry (sent_on k m o.control b)) (with_entry (sent_on k m o.control s)) sent (ap with_entry (sent_beside k m o.control name n s))))

send_beside : (k : ℕ) (m : Message) (o : Option Shoen) (name : List ℕ) (n : ℕ) (s : State) → send_to (beside name n s) k m o ≡ stepped_beside name n (send_to s k m o)
send_beside k m None name n s = refl
send_beside k m (Some h) name n s = send_by_beside k m h h.origin name n s

reduced_by_beside : (r : Bool) (g : Goal) (o : Option Action) (name : List ℕ) (n : ℕ) (s : State) → reduced_by (beside name n s) r g o ≡ stepped_beside name n (reduced_by s r g o)
reduced_by_beside r g None name n s = refl
reduced_by_beside r g (Some a) name n s =
    let t = with_reduction r s in
    let x : Transition = record { state = acted g a t; reply = reduced } in
    let xb : Transition = record { state = acted g a (beside name n t); reply = reduced } in
    unless_beside ((needs_entry r s && is_full s, journal_full) ∷ []) name n xb x s (done name n (acted g a (beside name n t)) (acted g a t) reduced (acted_beside g a name n t))

reduce_beside : (r : Bool) (clause : ℕ) (g : Option Goal) (name : List ℕ) (n : ℕ) (s : State) → reduce_goal (beside name n s) r clause g ≡ stepped_beside name n (reduce_goal s r clause g)
reduce_beside r clause None name n s = refl
reduce_beside r clause (Some g) name n s = reduced_by_beside r g (action_of s g clause) name n s

answer_by_beside : (g : Given) (t : Term) (o : Option Asked) (name : List ℕ) (n : ℕ) (s : State) → answer_by (beside name n s) g t o ≡ stepped_beside name n (answer_by s g t o)
answer_by_beside g t None name n s = refl
answer_by_beside g t (Some a) name n s =
    unless_beside ((g.tells_gone, answer_refused) ∷ []) name n (record { state = with_entry (answered a.new g t (beside name n s)); reply = sent }) (record { state = with_entry (answered a.new g t s); reply = sent }) s refl

asked_beside : (t : Term) (o : Option Asked) (name : List ℕ) (n : ℕ) (s : State) → answer_asked (beside name n s) t o ≡ stepped_beside name n (answer_asked s t o)
asked_beside t o name n s =
    let g = given s o t in
    unless_beside
    ((are_too_many s.rules (with_names s.names (names_of t)), too_many_names) ∷ (not (has_room_to_answer s g.new t), limit_passed) ∷ (is_full s, journal_full) ∷ []) name n
    (answer_by (beside name n s) g t o) (answer_by s g t o) s (answer_by_beside g t o name n s)

answer_in_beside : (report : ℕ) (t : Term) (h : Shoen) (o : Option Origin) (name : List ℕ) (n : ℕ) (s : State) → answer_in (beside name n s) report t h o ≡ stepped_beside name n (answer_in s report t h o)
answer_in_beside report t h None name n s = refl
answer_in_beside report t h (Some o) name n s =
    refused_or (is_living h.life) shoen_ended name n (answer_living (beside name n s) report t o) (answer_living s report t o) s (asked_beside t (asked_at o report) name n s)

answer_beside : (report : ℕ) (t : Term) (o : Option Shoen) (name : List ℕ) (n : ℕ) (s : State) → answer_to (beside name n s) report t o ≡ stepped_beside name n (answer_to s report t o)
answer_beside report t None name n s = refl
answer_beside report t (Some h) name n s = answer_in_beside report t h h.origin name n s

gone_beside : (k count : ℕ) (o : Origin) (name : List ℕ) (n : ℕ) (s : State) → with_entry (gone k count o (beside name n s)) ≡ beside name n (with_entry (gone k count o s))
gone_beside k zero o name n s = refl
gone_beside k (suc count) o name n s = refl

forget_by_beside : (k count : ℕ) (h : Shoen) (o : Option Origin) (name : List ℕ) (n : ℕ) (s : State) → forget_by (beside name n s) k count h o ≡ stepped_beside name n (forget_by s k count h o)
forget_by_beside k count h None name n s = refl
forget_by_beside k count h (Some o) name n s =
    let x : Transition = record { state = with_entry (gone k count o s); reply = forgot } in
    let xb : Transition = record { state = with_entry (gone k count o (beside name n s)); reply = forgot } in
    unless_beside ((is_full s, journal_full) ∷ (not (may_go count h o), answer_refused) ∷ []) name n xb x s
    (done name n (with_entry (gone k count o (beside name n s))) (with_entry (gone k count o s)) forgot (gone_beside k count o name n s))

forget_beside : (k count : ℕ) (o : Option Shoen) (name : List ℕ) (n : ℕ) (s : State) → forget_of (beside name n s) k count o ≡ stepped_beside name n (forget_of s k count o)
forget_beside k count None name n s = refl
forget_beside k count (Some h) name n s = forget_by_beside k count h h.origin name n s

step_beside : (goal clause : ℕ) (name : List ℕ) (n : ℕ) (s : State) → step (beside name n s) (reduce goal clause) ≡ stepped_beside name n (step s (reduce goal clause))
step_beside goal clause name n s =
    let r = is_in_run s goal clause in
    refused_or (is_number goal && is_number clause) syntax name n (reduce_goal (beside name n s) r clause (goal_at goal s.goals)) (reduce_goal s r clause (goal_at goal s.goals)) s (reduce_beside r clause (goal_at goal s.goals) name n s)

chosen_beside : (o : Option Chosen) (name : List ℕ) (n : ℕ) (s : State) → chosen_step (beside name n s) o ≡ stepped_beside name n (chosen_step s o)
chosen_beside None name n s = refl
chosen_beside (Some c) name n s = step_beside c.goal c.clause name n s

first_step_beside : (name : List ℕ) (n : ℕ) (s : State) → first_step (beside name n s) ≡ stepped_beside name n (first_step s)
first_step_beside name n s = chosen_beside (first s) name n s

-- one first reduction more, after those before it
abbrev one_more : ℕ → State → Transition
one_more m s = let x = first_step s in record { state = x.state; reply = if is_refused x.reply then x.reply else ran (suc m) }

first_steps_beside : (m : ℕ) (name : List ℕ) (n : ℕ) (s : State) → first_steps m (beside name n s) ≡ stepped_beside name n (first_steps m s)
first_steps_beside zero name n s = refl
first_steps_beside (suc m) name n s =
    let t = (first_steps m s).state in
    ap (λ (x : Transition). one_more m x.state) (first_steps_beside m name n s)
    ∙ ap (λ (x : Transition). let y : Transition = record { state = x.state; reply = if is_refused x.reply then x.reply else ran (suc m) } in y) (first_step_beside name n t)

pub stays_beside : StaysBeside
stays_beside name n s (loads text) = refused_or (nat_le (length text) MOST_SOURCE_BYTES) syntax name n (load_module (beside name n s) (read_module text)) (load_module s (read_module text)) s (load_beside (read_module text) name n s)
stays_beside name n s (starts allowance low high t) = starting_beside allowance low high t name n s
stays_beside name n s (sends k m) = refused_or (may_send k m) syntax name n (send_to (beside name n s) k m (shoen_at k s.shoens)) (send_to s k m (shoen_at k s.shoens)) s (send_beside k m (shoen_at k s.shoens) name n s)
stays_beside name n s (steps goal clause) = step_beside goal clause name n s
stays_beside name n s (runs m) = refused_or (has_runs s.rules) syntax name n (first_steps m (beside name n s)) (first_steps m s) s (first_steps_beside m name n s)
stays_beside name n s (answers k report t) = refused_or (may_answer s.rules k report t) syntax name n (answer_to (beside name n s) report t (shoen_at k s.shoens)) (answer_to s report t (shoen_at k s.shoens)) s (answer_beside report t (shoen_at k s.shoens) name n s)
stays_beside name n s (forgets k count) = refused_or (has_forgetting s.rules && may_forget k count) syntax name n (forget_of (beside name n s) k count (shoen_at k s.shoens)) (forget_of s k count (shoen_at k s.shoens)) s (forget_beside k count (shoen_at k s.shoens) name n s)
