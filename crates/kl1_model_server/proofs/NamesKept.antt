-- Which names an account has used after what is done to it.
use Rattle.std.specs.Prelude.{◌≡◌, ℕ, suc, ◌==◌, nat_le, not, ◌&&◌, Bool, true, false, if◌then◌else◌, List, [], ◌∷◌, length, Option, Some, None}
use Rattle.std.proofs.Common.{refl, sym, ◌∙◌, subst}
use Rattle.std.proofs.lemmas.Bool.{leb-true}
use Rattle.kl1_model.specs.declared.message.Message.{Message}
use Rattle.kl1_model.specs.declared.message.Message.TheVariants.{Stop, Start, Abort, Allow}
use Rattle.kl1_model.specs.Text.{is_text}
use Rattle.kl1_model.specs.Term.{Term, variable, integer, atom, structure, Replacement}
use Rattle.kl1_model.specs.Unify.{mgu}
use Rattle.kl1_model.specs.State.{State, Goal, has_substitutes, limits_of, Shoen, shoen_at, with_name, replace_in_state, replace_all, change_shoen, without_goal}
use Rattle.kl1_model.specs.Tree.{path, charge}
use Rattle.kl1_model.specs.Control.{Control, awaits_message, tells, tells_other, ends, breaks_off}
use Rattle.kl1_model.specs.Report.{has_made_last, report_tail, reported_on, reported_at, report, is_reported, report_each, closed_at, close, exception, exception_with, failure, illegal_input, exhaustion, started_report, stopped_report, resumed_report, exhausted_report, terminated_report, aborted_report}
use Rattle.kl1_model.specs.Ending.{ended_at, ending_of, without_monitor, terminate, terminate_each, settle, newly_exhausted, after_reduction, ended_below, abort}
use Rattle.kl1_model.specs.Opening.{with_shoen, open_shoen, child_shoen, has_room_for_child, open_child}
use Rattle.kl1_model.specs.Reduction.{Move, commits, raises, unifies, names, opens, goes, gives_way, Action, moves, reads, has_room_for, committed, substituted_by, raised, unified, equation, or_exhaustion, moved, obeyed, with_control, heard, acted}
use Rattle.kl1_model.specs.code.Steps.{report_of, close_of, stopped_of, resumed_of, named_by}
use Rattle.kl1_model.specs.Event.{are_too_many}
use Rattle.kl1_model.specs.Sending.{sent_on}
use Rattle.kl1_model_server.specs.laws.TextLaws.{AreNames}
use Rattle.kl1_model_server.proofs.RulesKept.{Alike, ruled, raised_alike, unified_alike, moved_alike, settle_charged_alike, acted_alike}
use Rattle.kl1_model_server.proofs.NewNames.{with_name_new}
use Rattle.kl1_model_server.proofs.SpelledTexts.{NamesText, ActionText}

-- an account with these names
abbrev Has : List (List ℕ) → State → Type 0
Has ns s = s.names ≡ ns

either : (c : Bool) (ns : List (List ℕ)) (s t : State) → Has ns s → Has ns t → Has ns (if c then s else t)
either true ns s t p q = p
either false ns s t p q = q

replaced : (rs : List Replacement) (s : State) → Has s.names (replace_all rs s)
replaced [] s = refl
replaced (r ∷ rs) s = replaced rs (replace_in_state r.number r.by s)

told : (k : ℕ) (m : Term) (o : Option ℕ) (s : State) → Has s.names (reported_on k m o s)
told k m None s = refl
told k m (Some v) s = refl

reported : (k : ℕ) (m t : Term) (s : State) → Has s.names (reported_at k m t s)
reported k m t s = told k m (report_tail (has_made_last s) m t) s

report_of_has : (o : Option Shoen) (k : ℕ) (m : Term) (s : State) → Has s.names (report_of o k m s)
report_of_has None k m s = refl
report_of_has (Some h) k m s = either h.is_broken s.names s (reported_at k m h.tail s) refl (reported k m h.tail s)

report_has : (k : ℕ) (m : Term) (s : State) → Has s.names (report k m s)
report_has k m s = report_of_has (shoen_at k s.shoens) k m s

report_each_has : (ks : List ℕ) (m : Term) (s : State) → Has s.names (report_each ks m s)
report_each_has [] m s = refl
report_each_has (k ∷ ks) m s = report_each_has ks m (report k m s) ∙ report_has k m s

closed : (t : Term) (s : State) → Has s.names (closed_at t s)
closed (variable v) s = refl
closed (integer i) s = refl
closed (atom a) s = refl
closed (structure f ts) s = refl

close_of_has : (o : Option Shoen) (s : State) → Has s.names (close_of o s)
close_of_has None s = refl
close_of_has (Some h) s = either h.is_broken s.names s (closed_at h.tail s) refl (closed h.tail s)

close_has : (k : ℕ) (s : State) → Has s.names (close k s)
close_has k s = close_of_has (shoen_at k s.shoens) s

terminate_has : (k : ℕ) (s : State) → Has s.names (terminate k s)
terminate_has k s =
    let ended = without_monitor k (ended_at k s) in
    close_has k (report k terminated_report ended) ∙ report_has k terminated_report ended

terminate_each_has : (ks : List ℕ) (s : State) → Has s.names (terminate_each ks s)
terminate_each_has [] s = refl
terminate_each_has (k ∷ ks) s = terminate_each_has ks (terminate k s) ∙ terminate_has k s

settle_has : (k : ℕ) (s : State) → Has s.names (settle k s)
settle_has k s = terminate_each_has (ending_of (path s.shoens k) s) s

settle_charged_has : (k : ℕ) (s : State) → Has s.names (after_reduction k s)
settle_charged_has k s =
    let ks = path s.shoens k in
    let ending = ending_of ks s in
    let reached = newly_exhausted s ending ks in
    terminate_each_has ending (report_each reached exhausted_report s) ∙ report_each_has reached exhausted_report s

abort_has : (k : ℕ) (s : State) → Has s.names (abort k s)
abort_has k s = close_has k (report k aborted_report (ended_below k s)) ∙ report_has k aborted_report (ended_below k s)

-- the names after a shoen opens
pub open_has : (h : Shoen) (goal : Term) (s : State) → (open_shoen h goal s).names ≡ s.names
open_has h goal s =
    let opened = report h.number started_report (with_shoen h goal s) in
    let one = report_has h.number started_report (with_shoen h goal s) in
    either (h.allowance == 0) s.names (report h.number exhausted_report opened) opened (report_has h.number exhausted_report opened ∙ one) one

raised_has : (g : Goal) (kind : List ℕ) (t : Term) (s : State) → Has s.names (raised g kind t s)
raised_has g kind t s =
    let new = suc s.last_variable in
    let told = exception kind t in
    either (has_substitutes s.rules && is_reported g.shoen told s) s.names (substituted_by g kind t s) (report g.shoen told s)
    (report_has g.shoen (exception_with kind t (variable new)) (record s { last_variable = new })) (report_has g.shoen told s)

unified_has : (g : Goal) (t : Term) (o : Option (List Replacement)) (s : State) → Has s.names (unified g t o s)
unified_has g t None s = raised_has g failure t s
unified_has g t (Some rs) s = replaced rs s

exhausted_or : (c : Bool) (g : Goal) (t : Term) (after s : State) → Has s.names after → Has s.names (or_exhaustion c g t after s)
exhausted_or true g t after s e = e
exhausted_or false g t after s e = raised_has g exhaustion t s

-- an account whose names may have been used
abbrev pub IsNamed : State → Type 0
IsNamed s = AreNames s.rules s.names

-- an account with the names of one that is named is named
pub same_names : (s t : State) → t.names ≡ s.names → Alike s t → IsNamed s → IsNamed t
same_names s t e k h = subst (λ rules. AreNames rules t.names) (sym (ruled s t k)) (subst (AreNames s.rules) (sym e) h)

named_or : (c : Bool) (g : Goal) (t : Term) (after s : State) → (c ≡ true → IsNamed after) → IsNamed s → IsNamed (or_exhaustion c g t after s)
named_or true g t after s go h = go refl
named_or false g t after s go h = same_names s (raised g exhaustion t s) (raised_has g exhaustion t s) (raised_alike g exhaustion t s) h

pub twice_not : (x : Bool) → not (not x) ≡ true → x ≡ true
twice_not true h = refl
twice_not false h = cc

-- a name more, if there is room for it
text_named : (g : Goal) (t : Term) (text : List ℕ) (a : Term) (s : State) → is_text text ≡ true → IsNamed s → not (are_too_many s.rules (with_name s.names text)) ≡ true → IsNamed (named_by g t text a s)
text_named g t text a s fine h room =
    let u = record s { names = with_name s.names text } in
    let o = mgu (equation a (atom text)) in
    let n : IsNamed u = record { few = leb-true (length (with_name s.names text)) (limits_of s.rules).names (twice_not (nat_le (length (with_name s.names text)) (limits_of s.rules).names) room); new = with_name_new s.names text h.new fine } in
    same_names u (unified g t o u) (unified_has g t o u) (unified_alike g t o u) n

moved_named : (g : Goal) (t : Term) (m : Move) (s : State) → NamesText m → IsNamed s → IsNamed (moved g t m s)
moved_named g t (commits k) s fine h = same_names s (moved g t (commits k) s) (exhausted_or (has_room_for s k.clause) g t (committed g k s) s refl) (moved_alike g t (commits k) s) h
moved_named g t (raises kind) s fine h = same_names s (moved g t (raises kind) s) (raised_has g kind t s) (moved_alike g t (raises kind) s) h
moved_named g t (unifies a b) s fine h = same_names s (moved g t (unifies a b) s) (unified_has g t (mgu (equation a b)) s) (moved_alike g t (unifies a b) s) h
moved_named g t (names text a) s fine h = named_or (not (are_too_many s.rules (with_name s.names text))) g t (named_by g t text a s) s (text_named g t text a s fine h) h
moved_named g t (opens o) s fine h =
    same_names s (moved g t (opens o) s) (exhausted_or (has_room_for_child s g.shoen) g t (open_child s g.shoen o) s (open_has (child_shoen s g.shoen o) o.goal s)) (moved_alike g t (opens o) s) h
moved_named g t goes s fine h = h
moved_named g t gives_way s fine h = h

stopped_has : (o : Option Shoen) (k : ℕ) (s : State) → Has s.names (stopped_of o k s)
stopped_has None k s = refl
stopped_has (Some h) k s =
    let after = change_shoen k (λ h. record h { is_stopped = true }) s in
    either h.is_stopped s.names s (report k stopped_report after) refl (report_has k stopped_report after)

resumed_has : (o : Option Shoen) (k : ℕ) (s : State) → Has s.names (resumed_of o k s)
resumed_has None k s = refl
resumed_has (Some h) k s =
    let after = change_shoen k (λ h. record h { is_stopped = false }) s in
    either h.is_stopped s.names (report k resumed_report after) s (report_has k resumed_report after) refl

obeyed_has : (k : ℕ) (m : Message) (s : State) → Has s.names (obeyed k m s)
obeyed_has k Stop s = stopped_has (shoen_at k s.shoens) k s
obeyed_has k Start s = resumed_has (shoen_at k s.shoens) k s
obeyed_has k Abort s = abort_has k s
obeyed_has k (Allow extra) s = refl

heard_has : (k : ℕ) (c : Control) (s : State) → Has s.names (heard k c s)
heard_has k (awaits_message v) s = refl
heard_has k (tells m rest) s = obeyed_has k m (with_control k rest s)
heard_has k (tells_other m rest) s = report_has k (exception illegal_input m) (with_control k rest s)
heard_has k ends s = refl
heard_has k (breaks_off t) s = report_has k (exception illegal_input t) (without_monitor k s)

-- what a goal does leaves names that may have been used
pub acted_named : (g : Goal) (a : Action) (s : State) → ActionText a → IsNamed s → IsNamed (acted g a s)
acted_named g (moves t m) s fine h =
    let before = charge g.shoen (without_goal g.number s) in
    let after = moved g t m before in
    same_names after (after_reduction g.shoen after) (settle_charged_has g.shoen after) (settle_charged_alike g.shoen after) (moved_named g t m before fine h)
acted_named g (reads c) s fine h =
    let after = heard g.shoen c s in
    same_names s (settle g.shoen after) (settle_has g.shoen after ∙ heard_has g.shoen c s) (acted_alike g (reads c) s) h

-- the names after a message is sent
pub sent_has : (k : ℕ) (m : Message) (t : Term) (s : State) → (sent_on k m t s).names ≡ s.names
sent_has k m (variable v) s = refl
sent_has k m (integer i) s = refl
sent_has k m (atom a) s = refl
sent_has k m (structure f ts) s = refl
