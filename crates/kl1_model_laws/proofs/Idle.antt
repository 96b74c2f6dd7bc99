-- Each living shoen has a goal or a living child.
use Rattle.std.proofs.Common.{◌≡◌, ◌≤◌, inl, inr, ℕ, zero, suc, ◌==◌, ◌||◌, not, ◌&&◌, Bool, true, false, if◌then◌else◌, List, [], ◌∷◌, ◌++◌, refl, sym, ap, ap₂, ◌∙◌, subst, arith}
use Rattle.std.specs.Prelude.{filter, map, Option, Some, None}
use Rattle.std.specs.List.{AllByRecursion, list_any}
use Rattle.std.proofs.Math.Bool.{or-true}
use Rattle.std.proofs.lemmas.Bool.{false≢true, eqb-true, eqb-false, eq-eqb, ne_eqb, cases_eq}
use Rattle.std.proofs.lemmas.Option.{none-some, same_Some}
use Rattle.kl1_model.specs.declared.message.Message.TheVariants.{Stop, Start, Abort, Allow}
use Rattle.kl1_model.specs.Term.{Term, variable, atom, Replacement}
use Rattle.kl1_model.specs.Unify.{mgu}
use Rattle.kl1_model.specs.Module.{is_among}
use Rattle.kl1_model.specs.Match.{Candidate}
use Rattle.kl1_model.specs.Control.{Control, awaits_message, tells, tells_other, ends, breaks_off}
use Rattle.kl1_model.specs.State.{limits_of, Task, reduces, substitutes, Goal, Origin, Shoen, State, has_substitutes, goal_at, shoen_at, replace_all, with_name, without_goal, is_monitor, is_living}
use Rattle.kl1_model.specs.Tree.{parents_of, path_within, is_on_path, is_living_child, charge}
use Rattle.kl1_model.specs.Event.{are_too_many, with_entry, with_reduction}
use Rattle.kl1_model.specs.Forgetting.{with_origin, without_reports, empty_place, gone_below, gone}
use Rattle.kl1_model.proofs.TreeLives.{marked_lives}
use Rattle.kl1_model.proofs.TreeLiving.{lives_gone}
use Rattle.kl1_model.specs.Report.{report, is_reported, exception, exception_with, failure, illegal_input, exhaustion}
use Rattle.kl1_model.specs.Ending.{has_goal, has_living_child, lives, ends_now, without_monitor, settle}
use Rattle.kl1_model.specs.Opening.{with_shoen, with_next_variables, start_goal, has_room_to_start, has_room_for_child, child_shoen, open_child}
use Rattle.kl1_model.specs.Reduction.{Move, commits, raises, unifies, names, opens, goes, gives_way, moves, goals_from, has_room_for, committed, replaced_by, substituted_by, raised, unified, equation, or_exhaustion, moved, with_control, heard, acted}
use Rattle.kl1_model.specs.code.Steps.{opening_goals, allowed_more, named_by}
use Rattle.kl1_model.specs.Answering.{given, answered}
use Rattle.kl1_model.specs.Sending.{sent_on}
use Rattle.kl1_model.specs.laws.TreeLaws.{AreWithin, IsTree}
use Rattle.kl1_model.proofs.TreeKeeps.{Keeps, keeps_same, keeps_both, kept_tree, keeps_change, keeps_all, keeps_report, keeps_fewer, keeps_abort, keeps_heard}
use Rattle.kl1_model.proofs.TreeGrows.{opening_follows, found_within, with_reduction_keeps}
use Rattle.kl1_model_laws.specs.Reached.{reached}
use Rattle.kl1_model_laws.specs.EndingLaws.{LivingHaveGoals}
use Rattle.kl1_model_laws.proofs.Reaching.{Keeping, holds_reached}
use Rattle.kl1_model_laws.proofs.Alike.{Node, node_of, nodes_of, Duty, duties_of, duties_append, next_duty, Alike, Placed, Lasts, placed_after, by_raised, by_unified, by_limit, alike_same, alike_report, alike_stopped, alike_resumed, alike_change, alike_open, begun, begun_shoen, alike_start, alike_sent, alike_answered, lives_in, has_duty, has_child, lives_by, goal_by, child_by}
use Rattle.kl1_model_laws.proofs.Duties.{Of, filtered, of_alike, of_settle, of_heard}
use Rattle.kl1_model_laws.proofs.Counts.{Rises, AreCounted, gone_counted, counted_fewer, acted_counted, start_counted, fresh_counted, found_goal}
use Rattle.kl1_model_laws.proofs.Endings.{Idle, Stays, not_due, stays_alike, goal_aside, zero_not_due, path_begins, settle_none_due, settle_charged_none_due}
use Rattle.kl1_model_laws.proofs.Aborts.{abort_idle}

-- ---- a goal that is removed

-- each goal n is of shoen k
abbrev OnlyOf : ℕ → ℕ → List Duty → Type 0
OnlyOf n k ds = AllByRecursion (λ (d : Duty). d.number ≡ n → d.shoen ≡ k) ds

above : (b n k last : ℕ) (ds : List Duty) → n ≤ b → Rises b ds last → OnlyOf n k ds
above b n k last [] e r = tt
above b n k last (d ∷ ds) e r = let x = r.0 in (λ is. absurd (omega (arith, e, x, is)), above d.number n k last ds (omega (arith, e, x)) r.1)

only_case : (c : Bool) (n last : ℕ) (g h : Goal) (gs : List Goal) → g.number == n ≡ c → (if c then Some g else goal_at n gs) ≡ Some h → Rises g.number (duties_of gs) last → (goal_at n gs ≡ Some h → OnlyOf n h.shoen (duties_of gs)) → OnlyOf n h.shoen (duties_of (g ∷ gs))
only_case true n last g h gs d e r f =
    let same = same_Some g h e in
    let number = eqb-true g.number n d in
    (λ is. ap (λ (k : Goal). k.shoen) same, above g.number n h.shoen last (duties_of gs) (omega (arith, number)) r)
only_case false n last g h gs d e r f = (λ is. absurd (eqb-false g.number n d is), f e)

only : (b n last : ℕ) (gs : List Goal) (h : Goal) → Rises b (duties_of gs) last → goal_at n gs ≡ Some h → OnlyOf n h.shoen (duties_of gs)
only b n last [] h r e = absurd (none-some h e)
only b n last (g ∷ gs) h r e = only_case (g.number == n) n last g h gs refl e r.1 (λ f. only g.number n last gs h r.1 f)

other_case : (c : Bool) (n k m : ℕ) (d : Duty) (ds es : List Duty) → d.number == n ≡ c → (d.number ≡ n → d.shoen ≡ k) → (m ≡ k → ⊥) → has_duty es m ≡ has_duty ds m → has_duty (if not c then d ∷ es else es) m ≡ has_duty (d ∷ ds) m
other_case true n k m d ds es e f other q =
    q ∙ sym (ap (λ b. b && not d.is_monitor || has_duty ds m) (ne_eqb d.shoen m (λ same. other (sym same ∙ f (eqb-true d.number n e)))))
other_case false n k m d ds es e f other q = ap (λ b. d.shoen == m && not d.is_monitor || b) q

-- the goals of other shoens stay
others_stay : (n k m : ℕ) (ds : List Duty) → OnlyOf n k ds → (m ≡ k → ⊥) → has_duty (filter (λ d. not (d.number == n)) ds) m ≡ has_duty ds m
others_stay n k m [] a other = refl
others_stay n k m (d ∷ ds) a other = other_case (d.number == n) n k m d ds (filter (λ d. not (d.number == n)) ds) refl a.0 other (others_stay n k m ds a.1 other)

gone_stays : (g : Goal) (s : State) (m : ℕ) → goal_at g.number s.goals ≡ Some g → Of AreCounted s → (m ≡ g.shoen → ⊥) → Stays s (charge g.shoen (without_goal g.number s)) m
gone_stays g s m there counted other = record {
  lives = λ e. e;
  goals = λ e. goal_by m (without_goal g.number s) ∙ ap (λ ds. has_duty ds m) (filtered (λ d. not (d.number == g.number)) s.goals)
      ∙ others_stay g.number g.shoen m (duties_of s.goals) (only 0 g.number s.last_goal s.goals g counted.rising there) other ∙ sym (goal_by m s) ∙ e;
  children = λ e. e;
}

-- ---- goals and shoens that come

or_assoc : (x y z : Bool) → (x || (y || z)) ≡ ((x || y) || z)
or_assoc true y z = refl
or_assoc false y z = refl

more_duties : (m : ℕ) (ds es : List Duty) → has_duty (ds ++ es) m ≡ has_duty ds m || has_duty es m
more_duties m [] es = refl
more_duties m (d ∷ ds) es = ap (λ b. d.shoen == m && not d.is_monitor || b) (more_duties m ds es) ∙ or_assoc (d.shoen == m && not d.is_monitor) (has_duty ds m) (has_duty es m)

more_children : (m : ℕ) (ms : List Node) (k : Node) → has_child (ms ++ k ∷ []) m ≡ has_child ms m || has_child (k ∷ []) m
more_children m [] k = refl
more_children m (n ∷ ms) k = ap (λ b. n.parent == m && is_living n.life || b) (more_children m ms k) ∙ or_assoc (n.parent == m && is_living n.life) (has_child ms m) (has_child (k ∷ []) m)

more_lives : (m : ℕ) (ms : List Node) (k : Node) → (k.number ≡ m → ⊥) → lives_in (ms ++ k ∷ []) m ≡ lives_in ms m
more_lives m [] k other = ap (λ b. if b then is_living k.life else false) (ne_eqb k.number m other)
more_lives m (n ∷ ms) k other = ap (λ b. if n.number == m then is_living n.life else b) (more_lives m ms k other)

nodes_append : (hs : List Shoen) (h : Shoen) → nodes_of (hs ++ h ∷ []) ≡ nodes_of hs ++ node_of h ∷ []
nodes_append [] h = refl
nodes_append (k ∷ hs) h = ap (λ (ms : List Node). node_of k ∷ ms) (nodes_append hs h)

-- goals that come, and no shoens
more_goals : (m : ℕ) (gs hs : List Goal) → has_duty (duties_of gs) m ≡ true → has_duty (duties_of (gs ++ hs)) m ≡ true
more_goals m gs hs e = ap (λ ds. has_duty ds m) (duties_append gs hs) ∙ more_duties m (duties_of gs) (duties_of hs) ∙ ap (λ b. b || has_duty (duties_of hs) m) e

commit_stays : (g : Goal) (k : Candidate) (s : State) (m : ℕ) → Stays s (committed g k s) m
commit_stays g k s m = record {
  lives = λ e. e;
  goals = λ e. goal_by m (committed g k s) ∙ more_goals m s.goals _ (sym (goal_by m s) ∙ e);
  children = λ e. e;
}

open_stays : (h : Shoen) (goal : Term) (s : State) (m : ℕ) → (h.number ≡ m → ⊥) → Stays s (with_shoen h goal s) m
open_stays h goal s m other = record {
  lives = λ e. lives_by m s ∙ sym (ap (λ ms. lives_in ms m) (nodes_append s.shoens h) ∙ more_lives m (nodes_of s.shoens) (node_of h) other) ∙ sym (lives_by m (with_shoen h goal s)) ∙ e;
  goals = λ e. goal_by m (with_shoen h goal s) ∙ more_goals m s.goals (opening_goals s.last_goal h goal) (sym (goal_by m s) ∙ e);
  children = λ e. child_by m (with_shoen h goal s) ∙ ap (λ ms. has_child ms m) (nodes_append s.shoens h) ∙ more_children m (nodes_of s.shoens) (node_of h)
      ∙ ap (λ b. b || has_child (node_of h ∷ []) m) (sym (child_by m s) ∙ e);
}

busy_case : (x y : Bool) → (x && not true && y) ≡ false
busy_case true y = refl
busy_case false y = refl

new_has_goal : (h : Shoen) (goal : Term) (s : State) → has_goal h.number (with_shoen h goal s) ≡ true
new_has_goal h goal s =
    let new = opening_goals s.last_goal h goal in
    goal_by h.number (with_shoen h goal s) ∙ ap (λ ds. has_duty ds h.number) (duties_append s.goals new) ∙ more_duties h.number (duties_of s.goals) (duties_of new)
    ∙ ap (λ b. has_duty (duties_of s.goals) h.number || (b && not true || (b && not false || false))) (eq-eqb h.number h.number refl) ∙ or-true (has_duty (duties_of s.goals) h.number)

-- a shoen that opens isn't due, and others are as they were
open_idle : (h : Shoen) (goal : Term) (s : State) (m : ℕ) → ((h.number ≡ m → ⊥) → ends_now m s ≡ false) → ends_now m (with_shoen h goal s) ≡ false
open_idle h goal s m f = elim (cases_eq h.number m) [
  | inl same ↦ subst (λ (k : ℕ). ends_now k (with_shoen h goal s) ≡ false) same
      (ap (λ b. lives h.number (with_shoen h goal s) && not b && not (has_living_child h.number (with_shoen h goal s))) (new_has_goal h goal s) ∙ busy_case (lives h.number (with_shoen h goal s)) (not (has_living_child h.number (with_shoen h goal s))))
  | inr other ↦ not_due s (with_shoen h goal s) m (open_stays h goal s m other) (f other)
]

-- ---- moves

-- no shoen but perhaps this one is due
abbrev IdleBut : ℕ → State → Type 0
IdleBut k s = (m : ℕ) → (m ≡ k → ⊥) → ends_now m s ≡ false

but_alike : (k : ℕ) (s t : State) → Alike s t → IdleBut k s → IdleBut k t
but_alike k s t a idle m other = not_due s t m (stays_alike s t a m) (idle m other)

-- a goal more leaves who lives, and no shoen loses a goal
placed_stays : (n : ℕ) (s t : State) → Placed n s t → (m : ℕ) → Stays s t m
placed_stays n s t k m = record {
  lives = λ e. lives_by m s ∙ sym (ap (λ ms. lives_in ms m) k.nodes) ∙ sym (lives_by m t) ∙ e;
  goals = λ e. goal_by m t ∙ ap (λ ds. has_duty ds m) k.duties ∙ more_duties m (duties_of s.goals) (next_duty s.last_goal n ∷ []) ∙ ap (λ b. b || has_duty (next_duty s.last_goal n ∷ []) m) (sym (goal_by m s) ∙ e);
  children = λ e. child_by m t ∙ ap (λ ms. has_child ms m) k.nodes ∙ sym (child_by m s) ∙ e;
}

lasts_idle : (g : Goal) (s : State) → IdleBut g.shoen s → Lasts (IdleBut g.shoen) g s
lasts_idle g s idle = record {
  alike = λ t k. but_alike g.shoen s t k idle;
  placed = λ t k m other. not_due s t m (placed_stays g.shoen s t k m) (idle m other);
}

moved_idle : (g : Goal) (t : Term) (m : Move) (s : State) → IdleBut g.shoen s → IdleBut g.shoen (moved g t m s)
moved_idle g t (commits k) s idle =
    by_limit (IdleBut g.shoen) (has_room_for s k.clause) g t (committed g k s) s (λ _ m other. not_due s (committed g k s) m (commit_stays g k s m) (idle m other)) (lasts_idle g s idle)
moved_idle g t (raises kind) s idle = by_raised (IdleBut g.shoen) g kind t s (lasts_idle g s idle)
moved_idle g t (unifies x y) s idle = by_unified (IdleBut g.shoen) g t (mgu (equation x y)) s (lasts_idle g s idle)
moved_idle g t (names text x) s idle =
    let u = record s { names = with_name s.names text } in
    by_limit (IdleBut g.shoen) (not (are_too_many s.rules (with_name s.names text))) g t (named_by g t text x s) s
    (λ _. by_unified (IdleBut g.shoen) g t (mgu (equation x (atom text))) u (lasts_idle g u idle)) (lasts_idle g s idle)
moved_idle g t (opens o) s idle =
    let h = child_shoen s g.shoen o in
    by_limit (IdleBut g.shoen) (has_room_for_child s g.shoen) g t (open_child s g.shoen o) s
    (λ _. but_alike g.shoen (with_shoen h o.goal s) (open_child s g.shoen o) (alike_open h o.goal s) (λ m other. open_idle h o.goal s m (λ _. idle m other))) (lasts_idle g s idle)
moved_idle g t goes s idle = idle
moved_idle g t gives_way s idle = (lasts_idle g s idle).placed (replaced_by g (reduces t) s) (placed_after g (reduces t) s s refl (alike_same s))

-- ---- trees

both_within : (n : ℕ) (gs hs : List Goal) → AreWithin n gs → AreWithin n hs → AreWithin n (gs ++ hs)
both_within n [] hs a b = b
both_within n (g ∷ gs) hs a b = (a.0, both_within n gs hs a.1 b)

from_within : (n last shoen : ℕ) (ps : List ℕ) (ts : List Term) → shoen ≤ n → AreWithin n (goals_from last shoen ps ts)
from_within n last shoen [] [] few = tt
from_within n last shoen [] (t ∷ ts) few = tt
from_within n last shoen (p ∷ ps) [] few = tt
from_within n last shoen (p ∷ ps) (t ∷ ts) few = (few, from_within n (suc last) shoen ps ts few)

tree_if : (c : Bool) (t u : State) → IsTree t → IsTree u → IsTree (if c then t else u)
tree_if true t u a b = a
tree_if false t u a b = b

tree_replaced : (g : Goal) (task : Task) (s t : State) → g.shoen ≤ s.last_shoen → Keeps s t → IsTree s → IsTree (replaced_by g task t)
tree_replaced g task s t few k tree =
    let kept = kept_tree s t k tree in
    record { numbered = kept.numbered; lower = kept.lower; count = kept.count; owners = both_within t.last_shoen t.goals _ kept.owners (subst (λ n. g.shoen ≤ n) (sym k.last) few, tt); worked = kept.worked }

tree_raised : (g : Goal) (kind : List ℕ) (t : Term) (s : State) → g.shoen ≤ s.last_shoen → IsTree s → IsTree (raised g kind t s)
tree_raised g kind t s few tree =
    let new = suc s.last_variable in
    let told = exception_with kind t (variable new) in
    let u = record s { last_variable = new } in
    let k : Keeps s u = record { parents = refl; work = refl; last = refl; owners = λ n w. w; numbered = λ n w. w } in
    tree_if (has_substitutes s.rules && is_reported g.shoen (exception kind t) s) (substituted_by g kind t s) (report g.shoen (exception kind t) s)
    (tree_replaced g (substitutes (variable new)) s (report g.shoen told u) few (keeps_both s u (report g.shoen told u) k (keeps_report g.shoen told u)) tree)
    (kept_tree s (report g.shoen (exception kind t) s) (keeps_report g.shoen (exception kind t) s) tree)

tree_unified : (g : Goal) (t : Term) (o : Option (List Replacement)) (s : State) → g.shoen ≤ s.last_shoen → IsTree s → IsTree (unified g t o s)
tree_unified g t None s few tree = tree_raised g failure t s few tree
tree_unified g t (Some rs) s few tree = kept_tree s (replace_all rs s) (keeps_all rs s) tree

tree_or : (c : Bool) (g : Goal) (t : Term) (u s : State) → g.shoen ≤ s.last_shoen → IsTree u → IsTree s → IsTree (or_exhaustion c g t u s)
tree_or true g t u s few a b = a
tree_or false g t u s few a b = tree_raised g exhaustion t s few b

moved_tree : (g : Goal) (t : Term) (m : Move) (s : State) → g.shoen ≤ s.last_shoen → IsTree s → IsTree (moved g t m s)
moved_tree g t (commits k) s few tree = tree_or (has_room_for s k.clause) g t (committed g k s) s few
    (record { numbered = tree.numbered; lower = tree.lower; count = tree.count; owners = both_within s.last_shoen s.goals _ tree.owners (from_within s.last_shoen s.last_goal g.shoen _ _ few); worked = tree.worked }) tree
moved_tree g t (raises kind) s few tree = tree_raised g kind t s few tree
moved_tree g t (unifies x y) s few tree = tree_unified g t (mgu (equation x y)) s few tree
moved_tree g t (names text x) s few tree =
    let u = record s { names = with_name s.names text } in
    let k : Keeps s u = record { parents = refl; work = refl; last = refl; owners = λ n w. w; numbered = λ n w. w } in
    tree_or (not (are_too_many s.rules (with_name s.names text))) g t (named_by g t text x s) s few (tree_unified g t (mgu (equation x (atom text))) u few (kept_tree s u k tree)) tree
moved_tree g t (opens o) s few tree = tree_or (has_room_for_child s g.shoen) g t (open_child s g.shoen o) s few ((opening_follows g.shoen (child_shoen s g.shoen o) o.goal s refl (λ few. few)).tree few tree) tree
moved_tree g t goes s few tree = tree
moved_tree g t gives_way s few tree = tree_replaced g (reduces t) s s few (keeps_same s) tree

-- ---- a reduction

-- a shoen that isn't on its own path is none
off_path : (k m : ℕ) (s : State) → IsTree s → IdleBut k s → is_on_path s.shoens m k ≡ false → ends_now m s ≡ false
off_path k zero s tree idle off = zero_not_due s tree.numbered
off_path k (suc m) s tree idle off = idle (suc m) (λ same.
    let at : is_on_path s.shoens (suc m) (suc m) ≡ false = ap (is_on_path s.shoens (suc m)) same ∙ off in
    false≢true (sym at ∙ path_begins (parents_of s.shoens) (suc m) m (omega arith)))

acted_idle : (g : Goal) (t : Term) (m : Move) (s : State) → goal_at g.number s.goals ≡ Some g → g.shoen ≤ s.last_shoen → IsTree s → Of AreCounted s → Idle s → Idle (acted g (moves t m) s)
acted_idle g t m s there few tree counted idle n =
    let removed = without_goal g.number s in
    let worked = charge g.shoen removed in
    let done = moved g t m worked in
    let kept = kept_tree s removed (keeps_fewer _ s) tree in
    let before : IsTree worked = record { numbered = kept.numbered; lower = kept.lower; count = kept.count; owners = kept.owners; worked = (few, kept.worked) } in
    let after = moved_tree g t m worked few before in
    let free = moved_idle g t m worked (λ k other. not_due s worked k (gone_stays g s k there counted other) (idle k)) in
    settle_charged_none_due (λ k. Unit {0}) g.shoen done after (λ k u off. off_path g.shoen k done after free off) n tt

-- ---- what monitors read

idle_alike : (s t : State) → Alike s t → Idle s → Idle t
idle_alike s t k idle m = not_due s t m (stays_alike s t k m) (idle m)

monitor_idle : (n : ℕ) (s : State) → Idle s → Idle (without_monitor n s)
monitor_idle n s idle m = ap (λ b. lives m s && not b && not (has_living_child m s)) (goal_aside n m s) ∙ idle m

rest_idle : (n : ℕ) (rest : Term) (s : State) → Idle s → Idle (with_control n rest s)
rest_idle n rest s idle = idle_alike s (with_control n rest s) (alike_change n (λ h. record h { control = rest }) s (λ h. refl)) idle

heard_idle : (n : ℕ) (c : Control) (s : State) → IsTree s → Idle s → (m : ℕ) → is_on_path (heard n c s).shoens m n ≡ false → ends_now m (heard n c s) ≡ false
heard_idle n (awaits_message v) s tree idle m off = idle m
heard_idle n (tells Stop rest) s tree idle m off = idle_alike (with_control n rest s) (heard n (tells Stop rest) s) (alike_stopped (shoen_at n (with_control n rest s).shoens) n (with_control n rest s)) (rest_idle n rest s idle) m
heard_idle n (tells Start rest) s tree idle m off = idle_alike (with_control n rest s) (heard n (tells Start rest) s) (alike_resumed (shoen_at n (with_control n rest s).shoens) n (with_control n rest s)) (rest_idle n rest s idle) m
heard_idle n (tells Abort rest) s tree idle m off =
    let t = with_control n rest s in
    abort_idle n m t (kept_tree s t (keeps_change n (λ h. record h { control = rest }) s (λ h. refl) (λ h. refl)) tree) (rest_idle n rest s idle) (sym (ap (λ ps. is_among m (path_within n ps n)) (keeps_abort n t).parents) ∙ off)
heard_idle n (tells (Allow extra) rest) s tree idle m off = idle_alike (with_control n rest s) (heard n (tells (Allow extra) rest) s) (alike_change n (allowed_more extra) (with_control n rest s) (λ h. refl)) (rest_idle n rest s idle) m
heard_idle n (tells_other t rest) s tree idle m off = idle_alike (with_control n rest s) (heard n (tells_other t rest) s) (alike_report n (exception illegal_input t) (with_control n rest s)) (rest_idle n rest s idle) m
heard_idle n ends s tree idle m off = monitor_idle n s idle m
heard_idle n (breaks_off t) s tree idle m off = idle_alike (without_monitor n s) (heard n (breaks_off t) s) (alike_report n (exception illegal_input t) (without_monitor n s)) (monitor_idle n s idle) m

read_idle : (n : ℕ) (c : Control) (s : State) → IsTree s → Idle s → Idle (settle n (heard n c s))
read_idle n c s tree idle m =
    let done = heard n c s in
    settle_none_due (λ k. Unit {0}) n done (kept_tree s done (keeps_heard n c s) tree) (λ k u off. heard_idle n c s tree idle k off) m tt

-- ---- events

-- goals are counted, and no shoen is due
record IsBusy (s : State) : Type 0 where
  counted : Of AreCounted s
  idle : Idle s

start_busy : (s : State) (allowance low high : ℕ) (t : Term) → has_room_to_start s t ≡ true → IsBusy s → IsBusy (start_goal s allowance low high t)
start_busy s allowance low high t room b =
    let h = begun_shoen s allowance low high t in
    let goal = with_next_variables s.last_variable t in record {
      counted = start_counted s allowance low high t room b.counted;
      idle = idle_alike (with_shoen h goal (begun s t)) (start_goal s allowance low high t) (alike_start s allowance low high t) (λ m. open_idle h goal (begun s t) m (λ _. b.idle m));
    }

acted_busy : (s : State) (r : Bool) (n : ℕ) (g : Goal) (t : Term) (m : Move) → IsTree s → goal_at n s.goals ≡ Some g → is_monitor g.task ≡ false → IsBusy s → IsBusy (acted g (moves t m) (with_reduction r s))
acted_busy s r n g t m tree there plain b =
    let own = found_goal n s.goals g there in
    let few = found_within s.last_shoen n s.goals g there tree.owners in
    let entered = kept_tree s (with_reduction r s) (with_reduction_keeps r s) tree in record {
      counted = acted_counted g t m (with_reduction r s) own plain b.counted;
      idle = acted_idle g t m (with_reduction r s) own few entered b.counted b.idle;
    }

gone_child : (c l : Bool) (m : ℕ) (h : Shoen) → is_living h.life ≡ l → is_living_child m (if not l && c then empty_place h else h) ≡ is_living_child m h
gone_child true true m h f = refl
gone_child false true m h f = refl
gone_child true false m h f = ap (λ x. h.parent == m && x) (sym f)
gone_child false false m h f = refl

-- living children stay
children_gone : (all : List Shoen) (n m : ℕ) (hs : List Shoen) → list_any (is_living_child m) (map (gone_below all n) hs) ≡ list_any (is_living_child m) hs
children_gone all n m [] = refl
children_gone all n m (h ∷ hs) = ap₂ (λ (x : Bool) (y : Bool). x || y) (gone_child (is_on_path all n h.number) (is_living h.life) m h refl) (children_gone all n m hs)

-- no shoen is due after a letting go
gone_idle : (s : State) (n count : ℕ) (o : Origin) → Idle s → Idle (with_entry (gone n count o s))
gone_idle s n zero o i = λ m.
    ap₂ (λ (l : Bool) (c : Bool). l && not (has_goal m s) && not c)
    (marked_lives m (map (gone_below s.shoens n) s.shoens) ∙ lives_gone s.shoens n s.shoens m ∙ sym (marked_lives m s.shoens)) (children_gone s.shoens n m s.shoens) ∙ i m
gone_idle s n (suc count) o i = idle_alike s (gone n (suc count) o s) (alike_change n (with_origin (without_reports (suc count) o)) s (λ h. refl)) i

keeping : Keeping IsBusy
keeping = record {
  fresh = λ rules name names sessions. record { counted = fresh_counted (limits_of rules).goals; idle = λ m. refl };
  seats = λ s n b. record { counted = b.counted; idle = b.idle };
  loads = λ s source m is b. record { counted = b.counted; idle = b.idle };
  starts = λ s allowance low high t tree may room b. let d = start_busy s allowance low high t room b in record { counted = d.counted; idle = d.idle };
  sends = λ s n m h o tree there is b.
      let k = alike_sent n m o.control s in record { counted = of_alike AreCounted s (sent_on n m o.control s) k b.counted; idle = idle_alike s (sent_on n m o.control s) k b.idle };
  moving = λ s r n clause g t m tree there task is enabled b. acted_busy s r n g t m tree there (ap is_monitor task) b;
  substituting = λ s r n g t m tree there task is enabled b. acted_busy s r n g t m tree there (ap is_monitor task) b;
  answers = λ s n number v t h o tree there origin may room is b.
      let g = given s (Some v) t in let k = alike_answered v.new g t s in record { counted = of_alike AreCounted s (answered v.new g t s) k b.counted; idle = idle_alike s (answered v.new g t s) k b.idle };
  forgets = λ s n count h o tree there origin may b. record { counted = gone_counted s n count o b.counted; idle = gone_idle s n count o b.idle };
  reading = λ s r n g h c tree there found is b.
      let entered = kept_tree s (with_reduction r s) (with_reduction_keeps r s) tree in record {
        counted = of_settle AreCounted counted_fewer g.shoen (heard g.shoen c (with_reduction r s)) (of_heard AreCounted counted_fewer g.shoen c (with_reduction r s) b.counted);
        idle = read_idle g.shoen c (with_reduction r s) entered b.idle;
      };
}

has_one : (l g c : Bool) → l ≡ true → l && not g && not c ≡ false → g || c ≡ true
has_one l true c e f = refl
has_one l false true e f = refl
has_one true false false e f = absurd (false≢true (sym f))
has_one false false false e f = absurd (false≢true e)

pub living_have_goals : LivingHaveGoals
living_have_goals rules name es n living =
    let s = reached rules name es in
    let b = holds_reached IsBusy keeping rules name es in
    has_one (lives n s) (has_goal n s) (has_living_child n s) living (b.idle n)
