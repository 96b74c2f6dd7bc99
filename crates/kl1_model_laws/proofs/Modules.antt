-- Modules of an account stay, and each that is loaded was read; what a goal does makes no entry by itself.
use Rattle.std.proofs.Common.{◌≡◌, ℕ, zero, suc, not, Bool, true, false, if◌then◌else◌, List, [], ◌∷◌, ◌++◌, refl, sym, ◌∙◌, subst}
use Rattle.std.specs.Prelude.{filter, bytes_eq, Option, Some}
use Rattle.std.specs.List.{AllByRecursion}
use Rattle.kl1_model.specs.declared.message.Message.{Message}
use Rattle.kl1_model.specs.declared.message.Message.TheVariants.{Stop, Start, Abort, Allow}
use Rattle.kl1_model.specs.Term.{Term, atom, count_of}
use Rattle.kl1_model.specs.Module.{Module, is_of}
use Rattle.kl1_model.specs.Match.{Call, module_of, clauses_of}
use Rattle.kl1_model.specs.code.Sections.{clauses_in}
use Rattle.kl1_model.specs.Unify.{mgu}
use Rattle.kl1_model.specs.Control.{Control, awaits_message, tells, tells_other, ends, breaks_off}
use Rattle.kl1_model.specs.State.{Goal, Origin, State, shoen_at, with_name, without_goal}
use Rattle.kl1_model.specs.Tree.{path, charge}
use Rattle.kl1_model.specs.Forgetting.{gone}
use Rattle.kl1_model.specs.Event.{are_too_many, with_entry, with_reduction}
use Rattle.kl1_model.specs.Report.{report_each, exception, illegal_input, exhausted_report, terminated_report, aborted_report}
use Rattle.kl1_model.specs.Ending.{ended_at, ending_of, without_monitor, terminate, terminate_each, newly_exhausted, ended_below, settle, after_reduction}
use Rattle.kl1_model.specs.Opening.{start_goal, has_room_for_child, child_shoen, open_child}
use Rattle.kl1_model.specs.Reduction.{Move, commits, raises, unifies, names, opens, goes, gives_way, moves, reads, has_room_for, committed, equation, moved, obeyed, with_control, heard, acted}
use Rattle.kl1_model.specs.code.Steps.{named_by}
use Rattle.kl1_model.specs.Sending.{sent_on}
use Rattle.kl1_model.specs.laws.WaitsLaws.{are_in_order}
use Rattle.kl1_model.proofs.SectionRuns.{candidates_walked}
use Rattle.kl1_model.proofs.OpenSections.{candidates_are_open}
use Rattle.kl1_model_laws.specs.Reached.{reached}
use Rattle.kl1_model_laws.specs.SectionLaws.{CandidatesOfCallsAreOpen}
use Rattle.kl1_model_laws.proofs.SectionOrder.{sections_are_in_order}
use Rattle.kl1_model_laws.proofs.Reaching.{Keeping, holds_reached}
use Rattle.kl1_model_laws.proofs.Alike.{Alike, alike_report, alike_report_each, alike_closing, alike_stopped, alike_resumed, Lasts, by_raised, by_unified, by_limit, alike_open, alike_start, alike_sent}

-- an effect leaves the modules, charged reductions, and the rules
pub record Has (s t : State) : Type 0 where
  pub modules : t.modules ≡ s.modules
  pub rules : t.rules ≡ s.rules
  pub work : t.work ≡ s.work

has_same : (s : State) → Has s s
has_same s = record { modules = refl; rules = refl; work = refl }

has_both : (s t u : State) → Has s t → Has t u → Has s u
has_both s t u p q = record { modules = q.modules ∙ p.modules; rules = q.rules ∙ p.rules; work = q.work ∙ p.work }

has_alike : (s t : State) → Alike s t → Has s t
has_alike s t k = record { modules = k.modules; rules = k.rules; work = k.work }

terminate_has : (k : ℕ) (s : State) → Has s (terminate k s)
terminate_has k s =
    let a = alike_closing k terminated_report (without_monitor k (ended_at k s)) in record { modules = a.modules; rules = a.rules; work = a.work }

terminate_each_has : (ks : List ℕ) (s : State) → Has s (terminate_each ks s)
terminate_each_has [] s = has_same s
terminate_each_has (k ∷ ks) s = has_both s (terminate k s) (terminate_each ks (terminate k s)) (terminate_has k s) (terminate_each_has ks (terminate k s))

obeyed_has : (k : ℕ) (m : Message) (s : State) → Has s (obeyed k m s)
obeyed_has k Stop s = has_alike s (obeyed k Stop s) (alike_stopped (shoen_at k s.shoens) k s)
obeyed_has k Start s = has_alike s (obeyed k Start s) (alike_resumed (shoen_at k s.shoens) k s)
obeyed_has k Abort s = let a = alike_closing k aborted_report (ended_below k s) in record { modules = a.modules; rules = a.rules; work = a.work }
obeyed_has k (Allow extra) s = record { modules = refl; rules = refl; work = refl }

heard_has : (k : ℕ) (c : Control) (s : State) → Has s (heard k c s)
heard_has k (awaits_message v) s = has_same s
heard_has k (tells m rest) s = let a = obeyed_has k m (with_control k rest s) in record { modules = a.modules; rules = a.rules; work = a.work }
heard_has k (tells_other m rest) s = let a = alike_report k (exception illegal_input m) (with_control k rest s) in record { modules = a.modules; rules = a.rules; work = a.work }
heard_has k ends s = record { modules = refl; rules = refl; work = refl }
heard_has k (breaks_off t) s = let a = alike_report k (exception illegal_input t) (without_monitor k s) in record { modules = a.modules; rules = a.rules; work = a.work }

-- an effect that follows one, and puts a goal in the place of another or none
lasts_has : (g : Goal) (s t : State) → Has s t → Lasts (Has s) g t
lasts_has g s t p = record {
  alike = λ u k. has_both s t u p (has_alike t u k);
  placed = λ u k. has_both s t u p (record { modules = k.modules; rules = k.rules; work = k.work });
}

moved_has : (g : Goal) (t : Term) (m : Move) (s : State) → Has s (moved g t m s)
moved_has g t (commits k) s = by_limit (Has s) (has_room_for s k.clause) g t (committed g k s) s (λ _. record { modules = refl; rules = refl; work = refl }) (lasts_has g s s (has_same s))
moved_has g t (raises kind) s = by_raised (Has s) g kind t s (lasts_has g s s (has_same s))
moved_has g t (unifies a b) s = by_unified (Has s) g t (mgu (equation a b)) s (lasts_has g s s (has_same s))
moved_has g t (names text a) s =
    let u = record s { names = with_name s.names text } in
    by_limit (Has s) (not (are_too_many s.rules (with_name s.names text))) g t (named_by g t text a s) s
    (λ _. by_unified (Has s) g t (mgu (equation a (atom text))) u (lasts_has g s u (record { modules = refl; rules = refl; work = refl }))) (lasts_has g s s (has_same s))
moved_has g t (opens o) s =
    let b = alike_open (child_shoen s g.shoen o) o.goal s in
    by_limit (Has s) (has_room_for_child s g.shoen) g t (open_child s g.shoen o) s (λ _. record { modules = b.modules; rules = b.rules; work = b.work }) (lasts_has g s s (has_same s))
moved_has g t goes s = has_same s
moved_has g t gives_way s = record { modules = refl; rules = refl; work = refl }

settle_charged_has : (k : ℕ) (s : State) → Has s (after_reduction k s)
settle_charged_has k s =
    let ks = path s.shoens k in
    let ending = ending_of ks s in
    let told = newly_exhausted s ending ks in
    let t = report_each told exhausted_report s in
    has_both s t (terminate_each ending t) (has_alike s t (alike_report_each told exhausted_report s)) (terminate_each_has ending t)

-- what a goal does after it is removed and its shoen charged
pub move_has : (g : Goal) (t : Term) (m : Move) (s : State) → Has (charge g.shoen (without_goal g.number s)) (acted g (moves t m) s)
move_has g t m s =
    let worked = charge g.shoen (without_goal g.number s) in
    let done = moved g t m worked in
    has_both worked done (after_reduction g.shoen done) (moved_has g t m worked) (settle_charged_has g.shoen done)

-- what a monitor reads
pub reading_has : (g : Goal) (c : Control) (s : State) → Has s (acted g (reads c) s)
reading_has g c s =
    let done = heard g.shoen c s in
    has_both s done (settle g.shoen done) (heard_has g.shoen c s) (terminate_each_has (ending_of (path done.shoens g.shoen) done) done)

-- the clauses of each predicate of a module stand in order
abbrev IsOrdered : Module → Type 0
IsOrdered m = (name : List ℕ) (count : ℕ) → are_in_order (filter (is_of name count) m.clauses) ≡ true

abbrev AreOrdered : State → Type 0
AreOrdered s = AllByRecursion IsOrdered s.modules

one_more : (ms : List Module) (m : Module) → AllByRecursion IsOrdered ms → IsOrdered m → AllByRecursion IsOrdered (ms ++ m ∷ [])
one_more [] m a b = (b, tt)
one_more (k ∷ ms) m a b = (a.0, one_more ms m a.1 b)

by_modules : (s t : State) → t.modules ≡ s.modules → AreOrdered s → AreOrdered t
by_modules s t e a = subst (λ ms. AllByRecursion IsOrdered ms) (sym e) a

gone_ordered : (s : State) (n count : ℕ) (o : Origin) → AreOrdered s → AreOrdered (with_entry (gone n count o s))
gone_ordered s n zero o a = a
gone_ordered s n (suc count) o a = a

keeping : Keeping AreOrdered
keeping = record {
  fresh = λ rules name names sessions. tt;
  seats = λ s n a. a;
  loads = λ s source m e a. one_more s.modules m a (λ name count. sections_are_in_order source name count m e);
  starts = λ s allowance low high t tree may room a. by_modules s (start_goal s allowance low high t) (alike_start s allowance low high t).modules a;
  sends = λ s n m h o tree there e a. by_modules s (sent_on n m o.control s) (alike_sent n m o.control s).modules a;
  moving = λ s r n clause g t m tree there task e enabled a. by_modules s (acted g (moves t m) (with_reduction r s)) (move_has g t m (with_reduction r s)).modules a;
  substituting = λ s r n g t m tree there task e enabled a. by_modules s (acted g (moves t m) (with_reduction r s)) (move_has g t m (with_reduction r s)).modules a;
  answers = λ s n number v t h o tree there origin may room e a. a;
  forgets = λ s n count h o tree there origin may a. gone_ordered s n count o a;
  reading = λ s r n g h c tree there found e a. by_modules s (acted g (reads c) (with_reduction r s)) (reading_has g c (with_reduction r s)).modules a;
}

found_case : (c : Bool) (m : Module) (o : Option Module) (call : Call) → IsOrdered m → are_in_order (clauses_in o call) ≡ true → are_in_order (clauses_in (if c then Some m else o) call) ≡ true
found_case true m o call a e = a call.name (count_of call.arguments)
found_case false m o call a e = e

found_ordered : (ms : List Module) (call : Call) → AllByRecursion IsOrdered ms → are_in_order (clauses_of ms call) ≡ true
found_ordered [] call a = refl
found_ordered (m ∷ ms) call a = found_case (bytes_eq m.name call.module_name) m (module_of ms call.module_name) call a.0 (found_ordered ms call a.1)

pub candidates_of_calls_are_open : CandidatesOfCallsAreOpen
candidates_of_calls_are_open rules name es call =
    let ms = (reached rules name es).modules in
    candidates_walked ms call ∙ candidates_are_open 1 (clauses_of ms call) call.arguments (found_ordered ms call (holds_reached AreOrdered keeping rules name es))
