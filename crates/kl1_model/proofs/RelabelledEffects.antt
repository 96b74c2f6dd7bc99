-- What comes of what goals do, with other numbers.
use Rattle.std.proofs.Common.{◌≡◌, ℕ, suc, ◌+◌, ◌-◌, ◌==◌, not, ◌&&◌, Bool, true, false, if◌then◌else◌, List, [], ◌∷◌, ◌++◌, refl, sym, ap, ap₂, ◌∙◌, subst}
use Rattle.std.specs.Prelude.{nat_le, nat_lt, map, length, cond, Option, Some, None, option_map}
use Rattle.std.proofs.lemmas.List.{map-append}
use Rattle.kl1_model.specs.declared.message.Message.{Message}
use Rattle.kl1_model.specs.declared.message.Message.TheVariants.{Stop, Start, Abort, Allow}
use Rattle.kl1_model.specs.Term.{Term, variable, atom, substituted, Replacement}
use Rattle.kl1_model.specs.Meaning.{nil}
use Rattle.kl1_model.specs.Nodes.{goals_nodes}
use Rattle.kl1_model.specs.Unify.{mgu}
use Rattle.kl1_model.specs.Module.{Clause, goals_of}
use Rattle.kl1_model.specs.Match.{Candidate, term_at}
use Rattle.kl1_model.specs.Instance.{head_variables, fresh_variables, body_variable, body_instance, body_priorities}
use Rattle.kl1_model.specs.Look.{ExecuteArguments, number_of_term}
use Rattle.kl1_model.specs.Control.{Control, awaits_message, tells, tells_other, ends, breaks_off}
use Rattle.kl1_model.specs.State.{Task, reduces, substitutes, Goal, Shoen, State, has_substitutes, limits_of, goal_at, shoen_at, with_name, change_shoen, without_goal}
use Rattle.kl1_model.specs.Tree.{charge}
use Rattle.kl1_model.specs.Event.{Refusal, syntax, step_refused, journal_full, reduce, Reply, reduced, Transition, refuse, is_number, unless, are_too_many, is_full, needs_entry, with_reduction}
use Rattle.kl1_model.specs.Report.{report, is_reported, exception, exception_with, failure, illegal_input, exhaustion, started_report, exhausted_report, stopped_report, resumed_report}
use Rattle.kl1_model.specs.Ending.{without_monitor, settle, after_reduction}
use Rattle.kl1_model.specs.Opening.{with_shoen, open_shoen, clipped_to, child_shoen, has_room_for_child, open_child}
use Rattle.kl1_model.specs.Reduction.{Move, commits, raises, unifies, names, opens, goes, gives_way, Action, moves, reads, action_of, goals_from, has_room_for, committed, replaced_by, substituted_by, raised, unified, equation, or_exhaustion, moved, grown, obeyed, with_control, heard, acted, reduce_goal}
use Rattle.kl1_model.specs.Choice.{is_in_run}
use Rattle.kl1_model.specs.Step.{step}
use Rattle.kl1_model.specs.code.Steps.{stopped_of, resumed_of, reduced_by, named_by, opening_goals, priority_of}
use Rattle.kl1_model.specs.laws.RelabelLaws.{renamed, place_renamed, replacement_renamed, task_renamed, goal_renamed, shoen_renamed, ShiftsFrom}
use Rattle.kl1_model.proofs.GuardStays.{then_substituted, everywhere}
use Rattle.kl1_model.proofs.Renaming.{next_number, shifts_next, shifts_later, mgu_renamed}
use Rattle.kl1_model.proofs.RenamedMoves.{candidate_renamed, order_renamed, move_renamed, number_is}
use Rattle.kl1_model.proofs.RenamedControl.{control_renamed}
use Rattle.kl1_model.proofs.RelabelledStates.{count_cons, AreAlike, like, Fits, Becomes, same, then_does, either, shoen_found, path_is, changed, all_replaced, report_is, is_reported_is, without_goal_is, without_monitor_is, settle_is, after_reduction_is, abort_is, alive_is}
use Rattle.kl1_model.proofs.RelabelledChoices.{action_renamed, action_is, find_same, run_is}

-- ---- shoens that open

-- goals after others
goals_more : (g : ℕ → ℕ) (b : Bool) (w : List ℕ) (s : State) (ks new : List Goal) → new ≡ map (goal_renamed g) ks → (let t : State = record (like g w s) { goals = map (goal_renamed g) s.goals ++ new } in t) ≡ like g w (record s { goals = s.goals ++ ks })
goals_more g b w s ks new e =
    ap (λ (gs : List Goal). let t : State = record (like g w s) { goals = gs } in t) (ap (λ (l : List Goal). map (goal_renamed g) s.goals ++ l) e ∙ sym (map-append (goal_renamed g) s.goals ks))

with_shoen_is : (g : ℕ → ℕ) (b : Bool) (w : List ℕ) (h : Shoen) (goal : Term) (s : State) → with_shoen (shoen_renamed g h) (renamed g goal) (like g w s) ≡ like g w (with_shoen h goal s)
with_shoen_is g b w h goal s =
    ap₂ (λ (gs : List Goal) (hs : List Shoen). let t : State = record (like g w s) { goals = gs; shoens = hs; last_goal = suc (suc s.last_goal); last_shoen = h.number } in t)
    (sym (map-append (goal_renamed g) s.goals (opening_goals s.last_goal h goal))) (sym (map-append (shoen_renamed g) s.shoens (h ∷ [])))

pub open_is : (g : ℕ → ℕ) (b : Bool) (w : List ℕ) (h : Shoen) (goal : Term) (s : State) → Fits g b w s → Becomes g b w (open_shoen (shoen_renamed g h) (renamed g goal) (like g w s)) (open_shoen h goal s)
open_is g b w h goal s fit =
    let begun = with_shoen h goal s in
    let first : Becomes g b w (with_shoen (shoen_renamed g h) (renamed g goal) (like g w s)) begun = record { is = with_shoen_is g b w h goal s; fits = record { up = fit.up; on = fit.on; work = fit.work } } in
    let told = report h.number started_report begun in
    let second = then_does g b w (with_shoen (shoen_renamed g h) (renamed g goal) (like g w s)) begun told (report h.number started_report) first (λ k. report_is g b w h.number started_report begun k) in
    let other = report h.number started_report (with_shoen (shoen_renamed g h) (renamed g goal) (like g w s)) in
    either g b w (h.allowance == 0) (report h.number exhausted_report other) other (report h.number exhausted_report told) told
    (then_does g b w other told (report h.number exhausted_report told) (report h.number exhausted_report) second (λ k. report_is g b w h.number exhausted_report told k)) second

clipped_by : (g : ℕ → ℕ) (o : Option Shoen) (n : ℕ) → clipped_to (option_map (shoen_renamed g) o) n ≡ clipped_to o n
clipped_by g None n = refl
clipped_by g (Some h) n = refl

pub clipped_is : (g : ℕ → ℕ) (b : Bool) (w : List ℕ) (s : State) (shoen n : ℕ) → clipped_to (shoen_at shoen (map (shoen_renamed g) s.shoens)) n ≡ clipped_to (shoen_at shoen s.shoens) n
clipped_is g b w s shoen n = ap (λ o. clipped_to o n) (shoen_found g shoen s.shoens) ∙ clipped_by g (shoen_at shoen s.shoens) n

child_is : (g : ℕ → ℕ) (b : Bool) (w : List ℕ) (s : State) (parent : ℕ) (o : ExecuteArguments) → child_shoen (like g w s) parent (order_renamed g o) ≡ shoen_renamed g (child_shoen s parent o)
child_is g b w s parent o =
    let clip = clipped_to (shoen_at parent (map (shoen_renamed g) s.shoens)) in
    let made : ℕ → ℕ → ℕ → Shoen = λ allowance low high. record (shoen_renamed g (child_shoen s parent o)) { allowance = allowance; low = low; high = high } in
    ap (λ n. made n (clip (number_of_term (renamed g o.low))) (clip (number_of_term (renamed g o.high)))) (number_is g o.allowance)
    ∙ ap₂ (λ a b. made (number_of_term o.allowance) (clip a) (clip b)) (number_is g o.low) (number_is g o.high)
    ∙ ap₂ (made (number_of_term o.allowance)) (clipped_is g b w s parent (number_of_term o.low)) (clipped_is g b w s parent (number_of_term o.high))

child_opens : (g : ℕ → ℕ) (b : Bool) (w : List ℕ) (s : State) (parent : ℕ) (o : ExecuteArguments) → Fits g b w s → Becomes g b w (open_child (like g w s) parent (order_renamed g o)) (open_child s parent o)
child_opens g b w s parent o fit =
    subst (λ h. Becomes g b w (open_shoen h (renamed g o.goal) (like g w s)) (open_child s parent o)) (sym (child_is g b w s parent o)) (open_is g b w (child_shoen s parent o) o.goal s fit)

room_for_child : (g : ℕ → ℕ) (b : Bool) (w : List ℕ) (s : State) (parent : ℕ) → has_room_for_child (like g w s) parent ≡ has_room_for_child s parent
room_for_child g b w s parent = ap (λ (ns : List ℕ). nat_lt s.last_shoen (limits_of s.rules).shoens && nat_lt (length ns) (limits_of s.rules).depth) (path_is g s.shoens parent)

-- ---- commits

pub renamed_if : (g : ℕ → ℕ) (c : Bool) (x y u v : Term) → x ≡ renamed g u → y ≡ renamed g v → (if c then x else y) ≡ renamed g (if c then u else v)
renamed_if g true x y u v e f = e
renamed_if g false x y u v e f = f

term_at_is : (g : ℕ → ℕ) (ps : List Replacement) (v : ℕ) (t : Term) → term_at (map (place_renamed g) ps) v (renamed g t) ≡ renamed g (term_at ps v t)
term_at_is g [] v t = refl
term_at_is g (p ∷ ps) v t = renamed_if g (p.number == v) (renamed g p.by) (term_at (map (place_renamed g) ps) v (renamed g t)) p.by (term_at ps v t) refl (term_at_is g ps v t)

body_variable_is : (g : ℕ → ℕ) (c : Clause) (ps : List Replacement) (last v : ℕ) → ShiftsFrom g last → body_variable c (map (place_renamed g) ps) (g last) v ≡ renamed g (body_variable c ps last v)
body_variable_is g c ps last v on = by_head (nat_le v (head_variables c))
  where
    by_head : (b : Bool) → (if b then term_at (map (place_renamed g) ps) v nil else variable (g last + (v - head_variables c))) ≡ renamed g (if b then term_at ps v nil else variable (last + (v - head_variables c)))
    by_head true = term_at_is g ps v nil
    by_head false = ap variable (sym (on (v - head_variables c)))

pub term_instance : (g : ℕ → ℕ) (f h : ℕ → Term) (t : Term) → ((v : ℕ) → h v ≡ renamed g (f v)) → substituted h t ≡ renamed g (substituted f t)
term_instance g f h t e = everywhere h (λ v. renamed g (f v)) e t ∙ sym (then_substituted (λ v. variable (g v)) f t)

terms_instance : (g : ℕ → ℕ) (f h : ℕ → Term) → ((v : ℕ) → h v ≡ renamed g (f v)) → (ts : List Term) → map (substituted h) ts ≡ map (renamed g) (map (substituted f) ts)
terms_instance g f h e [] = refl
terms_instance g f h e (t ∷ ts) = ap₂ (λ (x : Term) (xs : List Term). x ∷ xs) (term_instance g f h t e) (terms_instance g f h e ts)

body_is : (g : ℕ → ℕ) (c : Clause) (ps : List Replacement) (last : ℕ) → ShiftsFrom g last → body_instance c (map (place_renamed g) ps) (g last) ≡ map (renamed g) (body_instance c ps last)
body_is g c ps last on = terms_instance g (body_variable c ps last) (body_variable c (map (place_renamed g) ps) (g last)) (λ v. body_variable_is g c ps last v on) (goals_of c.body)

goals_are : (g : ℕ → ℕ) (last shoen : ℕ) (ps : List ℕ) (ts : List Term) → goals_from last shoen ps (map (renamed g) ts) ≡ map (goal_renamed g) (goals_from last shoen ps ts)
goals_are g last shoen [] [] = refl
goals_are g last shoen [] (t ∷ ts) = refl
goals_are g last shoen (p ∷ ps) [] = refl
goals_are g last shoen (p ∷ ps) (t ∷ ts) = ap (λ (l : List Goal). record { number = suc last; task = reduces (renamed g t); shoen = shoen; priority = p } ∷ l) (goals_are g (suc last) shoen ps ts)

pub length_is : (g : ℕ → ℕ) (ts : List Term) → length (map (renamed g) ts) ≡ length ts
length_is g [] = refl
length_is g (t ∷ ts) = ap suc (length_is g ts)

priority_is : (g : ℕ → ℕ) (b : Bool) (w : List ℕ) (s : State) (shoen own : ℕ) (p : Option ℕ) → priority_of (shoen_at shoen (map (shoen_renamed g) s.shoens)) own p ≡ priority_of (shoen_at shoen s.shoens) own p
priority_is g b w s shoen own None = refl
priority_is g b w s shoen own (Some p) = clipped_is g b w s shoen p

priorities_are : (g : ℕ → ℕ) (b : Bool) (w : List ℕ) (s : State) (shoen own : ℕ) (ps : List (Option ℕ)) → map (priority_of (shoen_at shoen (map (shoen_renamed g) s.shoens)) own) ps ≡ map (priority_of (shoen_at shoen s.shoens) own) ps
priorities_are g b w s shoen own [] = refl
priorities_are g b w s shoen own (p ∷ ps) = ap₂ (λ (n : ℕ) (ns : List ℕ). n ∷ ns) (priority_is g b w s shoen own p) (priorities_are g b w s shoen own ps)

commit_is : (g : ℕ → ℕ) (b : Bool) (w : List ℕ) (k : Goal) (c : Candidate) (s : State) → Fits g b w s → Becomes g b w (committed (goal_renamed g k) (candidate_renamed g c) (like g w s)) (committed k c s)
commit_is g b w k c s fit =
    let on = fit.on in
    let last = s.last_variable in
    let body = body_instance c.clause c.places last in
    let ps = map (priority_of (shoen_at k.shoen s.shoens) k.priority) (body_priorities c.clause) in
    let made : List ℕ → List Term → ℕ → State = λ ps body next. record (like g w s) {
      goals = map (goal_renamed g) s.goals ++ goals_from s.last_goal k.shoen ps body;
      last_variable = next;
      last_goal = s.last_goal + length body;
      variables = s.variables + fresh_variables c.clause;
      nodes = s.nodes + goals_nodes (goals_of c.clause.body);
    } in
    let placed : List Goal → ℕ → State = λ gs count. record (like g w s) {
      goals = gs;
      last_variable = g (last + fresh_variables c.clause);
      last_goal = s.last_goal + count;
      variables = s.variables + fresh_variables c.clause;
      nodes = s.nodes + goals_nodes (goals_of c.clause.body);
    } in
    record {
      is =
          ap (λ qs. made qs (body_instance c.clause (map (place_renamed g) c.places) (g last)) (g last + fresh_variables c.clause)) (priorities_are g b w s k.shoen k.priority (body_priorities c.clause))
          ∙ ap₂ (made ps) (body_is g c.clause c.places last on) (sym (on (fresh_variables c.clause)))
          ∙ ap₂ placed (ap (λ (l : List Goal). map (goal_renamed g) s.goals ++ l) (goals_are g s.last_goal k.shoen ps body) ∙ sym (map-append (goal_renamed g) s.goals (goals_from s.last_goal k.shoen ps body))) (length_is g body);
      fits = record { up = fit.up; on = shifts_later g last (fresh_variables c.clause) on; work = fit.work };
    }

-- ---- exceptions

placed_is : (g : ℕ → ℕ) (b : Bool) (w : List ℕ) (k : Goal) (t : Task) (s : State) → replaced_by (goal_renamed g k) (task_renamed g t) (like g w s) ≡ like g w (replaced_by k t s)
placed_is g b w k t s =
    ap (λ (gs : List Goal). let u : State = record (like g w s) { goals = gs; last_goal = suc s.last_goal } in u)
    (sym (map-append (goal_renamed g) s.goals (record { number = suc s.last_goal; task = t; shoen = k.shoen; priority = k.priority } ∷ [])))

-- an exception with this variable for what a substitute waits for
abbrev substituted_with : Goal → List ℕ → Term → ℕ → State → State
substituted_with k kind t new s = replaced_by k (substitutes (variable new)) (report k.shoen (exception_with kind t (variable new)) (record s { last_variable = new }))

substituted_is : (g : ℕ → ℕ) (b : Bool) (w : List ℕ) (k : Goal) (kind : List ℕ) (t : Term) (s : State) → Fits g b w s → Becomes g b w (substituted_by (goal_renamed g k) kind (renamed g t) (like g w s)) (substituted_by k kind t s)
substituted_is g b w k kind t s fit =
    let on = fit.on in
    let new = suc s.last_variable in
    let u : State = record s { last_variable = new } in
    let m = exception_with kind t (variable new) in
    let r = report_is g b w k.shoen m u (record { up = fit.up; on = shifts_next g s.last_variable on; work = fit.work }) in
    record {
      is =
          ap (λ n. substituted_with (goal_renamed g k) kind (renamed g t) n (like g w s)) (sym (next_number g s.last_variable on))
          ∙ ap (replaced_by (goal_renamed g k) (substitutes (variable (g new)))) r.is
          ∙ placed_is g b w k (substitutes (variable new)) (report k.shoen m u);
      fits = let f = r.fits in record { up = f.up; on = f.on; work = f.work };
    }

pub raised_is : (g : ℕ → ℕ) (b : Bool) (w : List ℕ) (k : Goal) (kind : List ℕ) (t : Term) (s : State) → Fits g b w s → Becomes g b w (raised (goal_renamed g k) kind (renamed g t) (like g w s)) (raised k kind t s)
raised_is g b w k kind t s fit =
    let told = exception kind t in
    subst (λ c. Becomes g b w (if has_substitutes s.rules && c then substituted_by (goal_renamed g k) kind (renamed g t) (like g w s) else report k.shoen (renamed g told) (like g w s)) (raised k kind t s)) (sym (is_reported_is g b w k.shoen told s fit.up))
    (either g b w (has_substitutes s.rules && is_reported k.shoen told s) (substituted_by (goal_renamed g k) kind (renamed g t) (like g w s)) (report k.shoen (renamed g told) (like g w s)) (substituted_by k kind t s) (report k.shoen told s)
    (substituted_is g b w k kind t s fit) (report_is g b w k.shoen told s fit))

unified_is : (g : ℕ → ℕ) (b : Bool) (w : List ℕ) (k : Goal) (t : Term) (o : Option (List Replacement)) (s : State) → Fits g b w s → Becomes g b w (unified (goal_renamed g k) (renamed g t) (option_map (map (replacement_renamed g)) o) (like g w s)) (unified k t o s)
unified_is g b w k t None s fit = raised_is g b w k failure t s fit
unified_is g b w k t (Some rs) s fit = all_replaced g b w rs s fit

unifies_is : (g : ℕ → ℕ) (b : Bool) (w : List ℕ) (k : Goal) (t x y : Term) (s : State) → Fits g b w s → Becomes g b w (unified (goal_renamed g k) (renamed g t) (mgu (equation (renamed g x) (renamed g y))) (like g w s)) (unified k t (mgu (equation x y)) s)
unifies_is g b w k t x y s fit =
    subst (λ o. Becomes g b w (unified (goal_renamed g k) (renamed g t) o (like g w s)) (unified k t (mgu (equation x y)) s)) (sym (mgu_renamed g (equation x y) fit.up))
    (unified_is g b w k t (mgu (equation x y)) s fit)

or_is : (g : ℕ → ℕ) (b : Bool) (w : List ℕ) (c : Bool) (k : Goal) (t : Term) (a u s : State) → Fits g b w s → Becomes g b w a u → Becomes g b w (or_exhaustion c (goal_renamed g k) (renamed g t) a (like g w s)) (or_exhaustion c k t u s)
or_is g b w true k t a u s fit done = done
or_is g b w false k t a u s fit done = raised_is g b w k exhaustion t s fit

room_for : (g : ℕ → ℕ) (b : Bool) (w : List ℕ) (s : State) (c : Clause) → has_room_for (like g w s) c ≡ has_room_for s c
room_for g b w s c =
    ap (λ n. nat_le (n + length c.body) (limits_of s.rules).goals && nat_le (s.variables + fresh_variables c) (limits_of s.rules).variables && nat_le (s.nodes + goals_nodes (goals_of c.body)) (limits_of s.rules).nodes) (alive_is g b w s)

pub moved_is : (g : ℕ → ℕ) (b : Bool) (w : List ℕ) (k : Goal) (t : Term) (m : Move) (s : State) → Fits g b w s → Becomes g b w (moved (goal_renamed g k) (renamed g t) (move_renamed g m) (like g w s)) (moved k t m s)
moved_is g b w k t (commits c) s fit =
    subst (λ x. Becomes g b w (or_exhaustion x (goal_renamed g k) (renamed g t) (committed (goal_renamed g k) (candidate_renamed g c) (like g w s)) (like g w s)) (moved k t (commits c) s)) (sym (room_for g b w s c.clause))
    (or_is g b w (has_room_for s c.clause) k t (committed (goal_renamed g k) (candidate_renamed g c) (like g w s)) (committed k c s) s fit (commit_is g b w k c s fit))
moved_is g b w k t (raises kind) s fit = raised_is g b w k kind t s fit
moved_is g b w k t (unifies x y) s fit = unifies_is g b w k t x y s fit
moved_is g b w k t (names text a) s fit =
    let u : State = record s { names = with_name s.names text } in
    or_is g b w (not (are_too_many s.rules (with_name s.names text))) k t (named_by (goal_renamed g k) (renamed g t) text (renamed g a) (like g w s)) (named_by k t text a s) s fit
    (unifies_is g b w k t a (atom text) u (record { up = fit.up; on = fit.on; work = fit.work }))
moved_is g b w k t (opens o) s fit =
    subst (λ x. Becomes g b w (or_exhaustion x (goal_renamed g k) (renamed g t) (open_child (like g w s) k.shoen (order_renamed g o)) (like g w s)) (moved k t (opens o) s)) (sym (room_for_child g b w s k.shoen))
    (or_is g b w (has_room_for_child s k.shoen) k t (open_child (like g w s) k.shoen (order_renamed g o)) (open_child s k.shoen o) s fit (child_opens g b w s k.shoen o fit))
moved_is g b w k t goes s fit = same g b w s fit
moved_is g b w k t gives_way s fit = record { is = placed_is g b w k (reduces t) s; fits = record { up = fit.up; on = fit.on; work = fit.work } }

-- ---- messages

stopped_is : (g : ℕ → ℕ) (b : Bool) (w : List ℕ) (o : Option Shoen) (n : ℕ) (s : State) → Fits g b w s → Becomes g b w (stopped_of (option_map (shoen_renamed g) o) n (like g w s)) (stopped_of o n s)
stopped_is g b w None n s fit = same g b w s fit
stopped_is g b w (Some h) n s fit =
    let after = change_shoen n (λ h. record h { is_stopped = true }) s in
    let other = change_shoen n (λ h. record h { is_stopped = true }) (like g w s) in
    either g b w h.is_stopped (like g w s) (report n stopped_report other) s (report n stopped_report after) (same g b w s fit)
    (then_does g b w other after (report n stopped_report after) (report n stopped_report) (record { is = changed g b w n (λ h. record h { is_stopped = true }) (λ h. record h { is_stopped = true }) s (λ h. refl); fits = record { up = fit.up; on = fit.on; work = fit.work } }) (λ k. report_is g b w n stopped_report after k))

resumed_is : (g : ℕ → ℕ) (b : Bool) (w : List ℕ) (o : Option Shoen) (n : ℕ) (s : State) → Fits g b w s → Becomes g b w (resumed_of (option_map (shoen_renamed g) o) n (like g w s)) (resumed_of o n s)
resumed_is g b w None n s fit = same g b w s fit
resumed_is g b w (Some h) n s fit =
    let after = change_shoen n (λ h. record h { is_stopped = false }) s in
    let other = change_shoen n (λ h. record h { is_stopped = false }) (like g w s) in
    either g b w h.is_stopped (report n resumed_report other) (like g w s) (report n resumed_report after) s
    (then_does g b w other after (report n resumed_report after) (report n resumed_report) (record { is = changed g b w n (λ h. record h { is_stopped = false }) (λ h. record h { is_stopped = false }) s (λ h. refl); fits = record { up = fit.up; on = fit.on; work = fit.work } }) (λ k. report_is g b w n resumed_report after k)) (same g b w s fit)

obeyed_is : (g : ℕ → ℕ) (b : Bool) (w : List ℕ) (n : ℕ) (m : Message) (s : State) → Fits g b w s → Becomes g b w (obeyed n m (like g w s)) (obeyed n m s)
obeyed_is g b w n Stop s fit = subst (λ o. Becomes g b w (stopped_of o n (like g w s)) (obeyed n Stop s)) (sym (shoen_found g n s.shoens)) (stopped_is g b w (shoen_at n s.shoens) n s fit)
obeyed_is g b w n Start s fit = subst (λ o. Becomes g b w (resumed_of o n (like g w s)) (obeyed n Start s)) (sym (shoen_found g n s.shoens)) (resumed_is g b w (shoen_at n s.shoens) n s fit)
obeyed_is g b w n Abort s fit = abort_is g b w n s fit
obeyed_is g b w n (Allow extra) s fit = record { is = changed g b w n (λ h. record h { allowance = grown h.allowance extra }) (λ h. record h { allowance = grown h.allowance extra }) s (λ h. refl); fits = record { up = fit.up; on = fit.on; work = fit.work } }

rest_is : (g : ℕ → ℕ) (b : Bool) (w : List ℕ) (n : ℕ) (rest : Term) (s : State) → with_control n (renamed g rest) (like g w s) ≡ like g w (with_control n rest s)
rest_is g b w n rest s = changed g b w n (λ h. record h { control = rest }) (λ h. record h { control = renamed g rest }) s (λ h. refl)

pub heard_is : (g : ℕ → ℕ) (b : Bool) (w : List ℕ) (n : ℕ) (c : Control) (s : State) → Fits g b w s → Becomes g b w (heard n (control_renamed g c) (like g w s)) (heard n c s)
heard_is g b w n (awaits_message v) s fit = same g b w s fit
heard_is g b w n (tells m rest) s fit =
    let after = with_control n rest s in
    then_does g b w (with_control n (renamed g rest) (like g w s)) after (obeyed n m after) (obeyed n m) (record { is = rest_is g b w n rest s; fits = record { up = fit.up; on = fit.on; work = fit.work } }) (λ k. obeyed_is g b w n m after k)
heard_is g b w n (tells_other m rest) s fit =
    let after = with_control n rest s in
    let told = exception illegal_input m in
    then_does g b w (with_control n (renamed g rest) (like g w s)) after (report n told after) (report n (renamed g told)) (record { is = rest_is g b w n rest s; fits = record { up = fit.up; on = fit.on; work = fit.work } }) (λ k. report_is g b w n told after k)
heard_is g b w n ends s fit = record { is = without_monitor_is g b w n s; fits = record { up = fit.up; on = fit.on; work = fit.work } }
heard_is g b w n (breaks_off t) s fit =
    let after = without_monitor n s in
    let told = exception illegal_input t in
    then_does g b w (without_monitor n (like g w s)) after (report n told after) (report n (renamed g told)) (record { is = without_monitor_is g b w n s; fits = record { up = fit.up; on = fit.on; work = fit.work } }) (λ k. report_is g b w n told after k)

-- ---- reductions

more_work : (b : Bool) (n : ℕ) (v w : List ℕ) → AreAlike b v w → AreAlike b (n ∷ v) (n ∷ w)
more_work true n v w a = ap (λ (l : List ℕ). n ∷ l) a
more_work false n v w a = λ f. count_cons f n w ∙ ap (λ k. cond (f n) 1 0 + k) (a f) ∙ sym (count_cons f n v)

-- the work after what a goal does
abbrev pub work_after : Goal → Action → List ℕ → List ℕ
work_after k (moves t m) w = k.shoen ∷ w
work_after k (reads c) w = w

pub acted_is : (g : ℕ → ℕ) (b : Bool) (w : List ℕ) (k : Goal) (a : Action) (s : State) → Fits g b w s → Becomes g b (work_after k a w) (acted (goal_renamed g k) (action_renamed g a) (like g w s)) (acted k a s)
acted_is g b w k (moves t m) s fit =
    let v = k.shoen ∷ w in
    let before = charge k.shoen (without_goal k.number s) in
    let other = charge k.shoen (without_goal k.number (like g w s)) in
    let first : Becomes g b v other before = record { is = ap (charge k.shoen) (without_goal_is g b w k.number s); fits = record { up = fit.up; on = fit.on; work = more_work b k.shoen s.work w fit.work } } in
    let after = moved k t m before in
    let second = then_does g b v other before after (moved (goal_renamed g k) (renamed g t) (move_renamed g m)) first (λ f. moved_is g b v k t m before f) in
    then_does g b v (moved (goal_renamed g k) (renamed g t) (move_renamed g m) other) after (after_reduction k.shoen after) (after_reduction k.shoen) second (λ f. after_reduction_is g b v k.shoen after f)
acted_is g b w k (reads c) s fit =
    let after = heard k.shoen c s in
    then_does g b w (heard k.shoen (control_renamed g c) (like g w s)) after (settle k.shoen after) (settle k.shoen) (heard_is g b w k.shoen c s fit) (λ f. settle_is g b w k.shoen after f)

-- a transition with other numbers, and with this work
abbrev pub transition_like : (ℕ → ℕ) → List ℕ → Transition → Transition
transition_like g w x = record { state = like g w x.state; reply = x.reply }

-- a transition is another with other numbers, and with some work
abbrev pub Turns : (ℕ → ℕ) → Bool → Transition → Transition → Type 0
Turns g b y x = (w : List ℕ) × ((y ≡ transition_like g w x) × Fits g b w x.state)

pub turns_refused : (g : ℕ → ℕ) (b : Bool) (w : List ℕ) (s : State) (r : Refusal) → Fits g b w s → Turns g b (refuse (like g w s) r) (refuse s r)
turns_refused g b w s r fit = (w, (refl, fit))

pub turns_or : (g : ℕ → ℕ) (b : Bool) (w : List ℕ) (c : Bool) (r : Refusal) (y x : Transition) (s : State) → Fits g b w s → Turns g b y x → Turns g b (if c then y else refuse (like g w s) r) (if c then x else refuse s r)
turns_or g b w true r y x s fit e = e
turns_or g b w false r y x s fit e = turns_refused g b w s r fit

pub turns_done : (g : ℕ → ℕ) (b : Bool) (w : List ℕ) (t s : State) (r : Reply) → Becomes g b w t s → Turns g b (record { state = t; reply = r }) (record { state = s; reply = r })
turns_done g b w t s r done = (w, (ap (λ u. let x : Transition = record { state = u; reply = r } in x) done.is, done.fits))

turns_by : (g : ℕ → ℕ) (b : Bool) (w : List ℕ) (c : Bool) (r : Refusal) (y x : Transition) (s : State) → Fits g b w s → Turns g b y x → Turns g b (if c then refuse (like g w s) r else y) (if c then refuse s r else x)
turns_by g b w true r y x s fit e = turns_refused g b w s r fit
turns_by g b w false r y x s fit e = e

pub turns_unless : (g : ℕ → ℕ) (b : Bool) (w : List ℕ) (rs : List (Bool × Refusal)) (y x : Transition) (s : State) → Fits g b w s → Turns g b y x → Turns g b (unless (like g w s) rs y) (unless s rs x)
turns_unless g b w [] y x s fit e = e
turns_unless g b w (r ∷ rs) y x s fit e = turns_by g b w r.0 r.1 (unless (like g w s) rs y) (unless s rs x) s fit (turns_unless g b w rs y x s fit e)

reduced_is : (g : ℕ → ℕ) (b : Bool) (w : List ℕ) (r : Bool) (k : Goal) (o : Option Action) (s : State) → Fits g b w s → Turns g b (reduced_by (like g w s) r (goal_renamed g k) (option_map (action_renamed g) o)) (reduced_by s r k o)
reduced_is g b w r k None s fit = turns_refused g b w s step_refused fit
reduced_is g b w r k (Some a) s fit =
    turns_unless g b w ((needs_entry r s && is_full s, journal_full) ∷ []) (record { state = acted (goal_renamed g k) (action_renamed g a) (like g w (with_reduction r s)); reply = reduced }) (record { state = acted k a (with_reduction r s); reply = reduced }) s fit
    (turns_done g b (work_after k a w) (acted (goal_renamed g k) (action_renamed g a) (like g w (with_reduction r s))) (acted k a (with_reduction r s)) reduced (acted_is g b w k a (with_reduction r s) (record { up = fit.up; on = fit.on; work = fit.work })))

reduce_by : (g : ℕ → ℕ) (b : Bool) (w : List ℕ) (r : Bool) (clause : ℕ) (o : Option Goal) (s : State) → Fits g b w s → Turns g b (reduce_goal (like g w s) r clause (option_map (goal_renamed g) o)) (reduce_goal s r clause o)
reduce_by g b w r clause None s fit = turns_refused g b w s step_refused fit
reduce_by g b w r clause (Some k) s fit =
    subst (λ o. Turns g b (reduced_by (like g w s) r (goal_renamed g k) o) (reduced_by s r k (action_of s k clause))) (sym (action_is g b w s k clause fit.up fit.work))
    (reduced_is g b w r k (action_of s k clause) s fit)

goal_found : (g : ℕ → ℕ) (n : ℕ) (ks : List Goal) → goal_at n (map (goal_renamed g) ks) ≡ option_map (goal_renamed g) (goal_at n ks)
goal_found g n ks = find_same g (λ k. k.number == n) (λ k. k.number == n) (λ k. refl) ks

pub reduces_is : (g : ℕ → ℕ) (b : Bool) (w : List ℕ) (goal clause : ℕ) (s : State) → Fits g b w s → Turns g b (step (like g w s) (reduce goal clause)) (step s (reduce goal clause))
reduces_is g b w goal clause s fit =
    let r = is_in_run s goal clause in
    let t = like g w s in
    let one : Turns g b (reduce_goal t r clause (goal_at goal t.goals)) (reduce_goal s r clause (goal_at goal s.goals)) =
    subst (λ o. Turns g b (reduce_goal t r clause o) (reduce_goal s r clause (goal_at goal s.goals))) (sym (goal_found g goal s.goals)) (reduce_by g b w r clause (goal_at goal s.goals) s fit) in
    let two : Turns g b (reduce_goal t (is_in_run t goal clause) clause (goal_at goal t.goals)) (reduce_goal s r clause (goal_at goal s.goals)) =
    subst (λ c. Turns g b (reduce_goal t c clause (goal_at goal t.goals)) (reduce_goal s r clause (goal_at goal s.goals))) (sym (run_is g b w s goal clause fit.up fit.work)) one in
    turns_or g b w (is_number goal && is_number clause) syntax (reduce_goal t (is_in_run t goal clause) clause (goal_at goal t.goals)) (reduce_goal s r clause (goal_at goal s.goals)) s fit two
