-- Each event leaves the shoens of an account a tree, and charges just the path of the goal that it reduces.
use Rattle.std.proofs.Common.{not, ◌||◌, ◌≡◌, ◌≤◌, ◌<◌, ℕ, zero, suc, ◌+◌, ◌==◌, Bool, true, false, if◌then◌else◌, List, [], ◌∷◌, ◌++◌, refl, sym, ap, ap₂, ◌∙◌, subst, arith}
use Rattle.std.specs.Prelude.{◌&&◌, length, get_or, count_by, cond, Option, Some, None}
use Rattle.std.specs.List.{AllByRecursion, list_any}
use Rattle.std.proofs.Math.Bool.{or-true}
use Rattle.std.proofs.lemmas.Bool.{false≢true, eqb-true}
use Rattle.std.proofs.lemmas.List.{get_or_append_left, append-nil}
use Rattle.std.proofs.lemmas.List.Sums.{sum_by-cons}
use Rattle.std.proofs.lemmas.Option.{none-some, same_Some}
use Rattle.kl1_model.specs.Term.{Term, variable, atom, Replacement}
use Rattle.kl1_model.specs.Unify.{mgu}
use Rattle.kl1_model.specs.Module.{is_among}
use Rattle.kl1_model.specs.Match.{Candidate}
use Rattle.kl1_model.specs.State.{Task, reduces, substitutes, Goal, Shoen, State, has_substitutes, shoen_at, goal_at, without_goal, with_name}
use Rattle.kl1_model.specs.Tree.{parents_of, path_within, path, is_on_path, charged_of, charge, is_blocking_at}
use Rattle.kl1_model.specs.Control.{Control}
use Rattle.kl1_model.specs.Event.{are_too_many, with_entry, with_reduction}
use Rattle.kl1_model.specs.Report.{report, is_reported, exception, exception_with, failure, exhaustion, started_report, exhausted_report}
use Rattle.kl1_model.specs.Ending.{settle, after_reduction}
use Rattle.kl1_model.specs.Opening.{with_shoen, open_shoen, has_room_for_child, child_shoen, open_child}
use Rattle.kl1_model.specs.code.Steps.{opening_goals}
use Rattle.kl1_model.specs.Reduction.{Move, commits, raises, unifies, names, opens, goes, gives_way, moves, reads, goals_from, has_room_for, committed, replaced_by, substituted_by, raised, unified, equation, or_exhaustion, moved, heard, acted}
use Rattle.kl1_model.specs.laws.TreeLaws.{AreNumbered, PathsFollowParents, ParentsAreLower, PathsGoOn, AreWithin, IsTree, ChargesPath, HeldBackBelow}
use Rattle.kl1_model.proofs.TreeKeeps.{Keeps, keeps_same, keeps_both, kept_tree, keeps_if, keeps_all, keeps_report, keeps_fewer, keeps_settle, keeps_settle_charged, keeps_heard}

-- ---- paths

-- any fuel from the number on gives the same path
path_enough : (parents : List ℕ) → ParentsAreLower parents → (m k n : ℕ) → n ≤ m → n ≤ k → path_within m parents n ≡ path_within k parents n
unfolding path_within
path_enough parents lower zero zero n a b = refl
path_enough parents lower zero (suc k) zero a b = refl
path_enough parents lower zero (suc k) (suc n) a b = absurd (omega (arith, a))
path_enough parents lower (suc m) zero zero a b = refl
path_enough parents lower (suc m) zero (suc n) a b = absurd (omega (arith, b))
path_enough parents lower (suc m) (suc k) zero a b = refl
path_enough parents lower (suc m) (suc k) (suc n) a b =
    ap (λ (ps : List ℕ). suc n ∷ ps) (path_enough parents lower m k (get_or parents n 0) (omega (arith, a, lower n)) (omega (arith, b, lower n)))

path_step : (parents : List ℕ) (n : ℕ) → path_within (suc n) parents (suc n) ≡ suc n ∷ path_within n parents (get_or parents n 0)
unfolding path_within
path_step parents n = refl

pub paths_go_on : PathsGoOn
paths_go_on shoens n lower =
    let parents = parents_of shoens in
    path_step parents n ∙ ap (λ (ps : List ℕ). suc n ∷ ps) (path_enough parents lower n (get_or parents n 0) (get_or parents n 0) (lower n) (omega arith))

-- the place of the shoen that has a number
record IsAt (b n : ℕ) (hs : List Shoen) (h : Shoen) : Type 0 where
  place : ℕ
  number : n ≡ suc (b + place)
  parent : get_or (parents_of hs) place 0 ≡ h.parent

at_case : (c : Bool) (b n : ℕ) (k : Shoen) (hs : List Shoen) (h : Shoen) → k.number == n ≡ c → k.number ≡ suc b → (if c then Some k else shoen_at n hs) ≡ Some h → (shoen_at n hs ≡ Some h → IsAt (suc b) n hs h) → IsAt b n (k ∷ hs) h
at_case true b n k hs h d e f g =
    let same = eqb-true k.number n d in
    record { place = 0; number = omega (arith, same, e); parent = ap (λ (x : Shoen). x.parent) (same_Some k h f) }
at_case false b n k hs h d e f g =
    let later = g f in
    let more = later.number in
    record { place = suc later.place; number = omega (arith, more); parent = later.parent }

found_at : (b n : ℕ) (hs : List Shoen) (h : Shoen) → AreNumbered b hs → shoen_at n hs ≡ Some h → IsAt b n hs h
found_at b n [] h a e = absurd (none-some h e)
found_at b n (k ∷ hs) h a e = at_case (k.number == n) b n k hs h refl a.0 e (λ f. found_at (suc b) n hs h a.1 f)

pub paths_follow_parents : PathsFollowParents
paths_follow_parents s n h tree e =
    let at = found_at 0 n s.shoens h tree.numbered e in
    let is : n ≡ suc at.place = omega (arith, at.number) in
    ap (path s.shoens) is ∙ paths_go_on s.shoens at.place tree.lower ∙ ap₂ (λ (m p : ℕ). m ∷ path s.shoens p) (sym is) at.parent

-- a path among known shoens doesn't change if more are opened
path_among : (ps qs : List ℕ) → ParentsAreLower ps → (m n : ℕ) → n ≤ length ps → path_within m (ps ++ qs) n ≡ path_within m ps n
unfolding path_within
path_among ps qs lower zero n few = refl
path_among ps qs lower (suc m) zero few = refl
path_among ps qs lower (suc m) (suc n) few =
    let l : n < length ps = omega (arith, few) in
    ap (λ (k : ℕ). suc n ∷ path_within m (ps ++ qs) k) (get_or_append_left ps qs 0 n l)
    ∙ ap (λ (ks : List ℕ). suc n ∷ ks) (path_among ps qs lower m (get_or ps n 0) (omega (arith, lower n, l)))

among_case : (p : ℕ → Bool) (a n : ℕ) (ns : List ℕ) (c : Bool) → a == n ≡ c → (is_among a ns ≡ true → list_any p ns ≡ true) → (c || is_among a ns) ≡ true → p a ≡ true → (p n || list_any p ns) ≡ true
among_case p a n ns true d f e h = ap (λ b. b || list_any p ns) (ap p (sym (eqb-true a n d)) ∙ h)
among_case p a n ns false d f e h = ap (λ b. p n || b) (f e) ∙ or-true (p n)

-- a test that holds for a number among others holds for one of them
among_any : (p : ℕ → Bool) (a : ℕ) (ns : List ℕ) → is_among a ns ≡ true → p a ≡ true → list_any p ns ≡ true
among_any p a [] e h = absurd (false≢true e)
among_any p a (n ∷ ns) e h = among_case p a n ns (a == n) refl (λ f. among_any p a ns f h) e h

pub held_back_below : HeldBackBelow
held_back_below s n a on blocks = ap not (among_any (is_blocking_at s) a (path s.shoens n) on blocks)

-- ---- charges

pub charges_path : ChargesPath
charges_path s n a = sum_by-cons (λ worked. cond (is_on_path s.shoens a worked) 1 0) n s.work

count_same : (p q : ℕ → Bool) (most : ℕ) → ((w : ℕ) → w ≤ most → p w ≡ q w) → (ws : List ℕ) → AllByRecursion (λ w. w ≤ most) ws → count_by p ws ≡ count_by q ws
count_same p q most e [] a = refl
count_same p q most e (w ∷ ws) a =
    sum_by-cons (λ x. cond (p x) 1 0) w ws ∙ ap₂ (λ b (n : ℕ). cond b 1 0 + n) (e w a.0) (count_same p q most e ws a.1) ∙ sym (sum_by-cons (λ x. cond (q x) 1 0) w ws)

-- what charged reductions come to if shoens were opened
pub charged_among : (s t : State) (more : List ℕ) (a : ℕ) → IsTree s → parents_of t.shoens ≡ parents_of s.shoens ++ more → t.work ≡ s.work → charged_of t a ≡ charged_of s a
charged_among s t more a tree parents work =
    ap (λ ps. count_by (λ w. is_among a (path_within w ps w)) t.work) parents
    ∙ ap (count_by (λ w. is_among a (path_within w (parents_of s.shoens ++ more) w))) work
    ∙ count_same (λ w. is_among a (path_within w (parents_of s.shoens ++ more) w)) (λ w. is_among a (path_within w (parents_of s.shoens) w)) s.last_shoen
    (λ w few. ap (is_among a) (path_among (parents_of s.shoens) more tree.lower w w (subst (λ n. w ≤ n) (sym tree.count) few))) s.work tree.worked

-- ---- openings

lower_after : (b p : ℕ) (ps : List ℕ) → ((k : ℕ) → get_or ps k 0 ≤ b + k) → p ≤ b + length ps → (k : ℕ) → get_or (ps ++ p ∷ []) k 0 ≤ b + k
lower_after b p [] lower few zero = few
lower_after b p [] lower few (suc k) = omega arith
lower_after b p (q ∷ qs) lower few zero = lower zero
lower_after b p (q ∷ qs) lower few (suc k) =
    let l = lower_after (suc b) p qs (λ j. let m = lower (suc j) in omega (arith, m)) (omega (arith, few)) k in
    omega (arith, l)

parents_after : (hs : List Shoen) (h : Shoen) → parents_of (hs ++ h ∷ []) ≡ parents_of hs ++ h.parent ∷ []
parents_after [] h = refl
parents_after (k ∷ hs) h = ap (λ (ps : List ℕ). k.parent ∷ ps) (parents_after hs h)

length_after : (ps : List ℕ) (p : ℕ) → length (ps ++ p ∷ []) ≡ suc (length ps)
length_after [] p = refl
length_after (q ∷ ps) p = ap suc (length_after ps p)

wider : (n m : ℕ) → n ≤ m → (gs : List Goal) → AreWithin n gs → AreWithin m gs
wider n m few [] a = tt
wider n m few (g ∷ gs) a = (omega (arith, few, a.0), wider n m few gs a.1)

wider_work : (n m : ℕ) → n ≤ m → (ws : List ℕ) → AllByRecursion (λ w. w ≤ n) ws → AllByRecursion (λ w. w ≤ m) ws
wider_work n m few [] a = tt
wider_work n m few (w ∷ ws) a = (omega (arith, few, a.0), wider_work n m few ws a.1)

both_within : (n : ℕ) (gs hs : List Goal) → AreWithin n gs → AreWithin n hs → AreWithin n (gs ++ hs)
both_within n [] hs a b = b
both_within n (g ∷ gs) hs a b = (a.0, both_within n gs hs a.1 b)

numbered_after : (n : ℕ) (hs : List Shoen) (h : Shoen) → AreNumbered n hs → h.number ≡ suc (n + length (parents_of hs)) → AreNumbered n (hs ++ h ∷ [])
numbered_after n [] h a e = (omega (arith, e), tt)
numbered_after n (k ∷ hs) h a e = (a.0, numbered_after (suc n) hs h a.1 (omega (arith, e)))

opened_tree : (h : Shoen) (goal : Term) (s : State) → h.number ≡ suc s.last_shoen → h.parent ≤ s.last_shoen → IsTree s → IsTree (with_shoen h goal s)
opened_tree h goal s number parent tree =
    let less : s.last_shoen ≤ h.number = omega (arith, number) in
    let few : h.number ≤ h.number = omega arith in record {
      numbered = numbered_after 0 s.shoens h tree.numbered (omega (arith, number, tree.count));
      lower = subst ParentsAreLower (sym (parents_after s.shoens h)) (λ k. let l = lower_after 0 h.parent (parents_of s.shoens) (λ j. let m = tree.lower j in omega (arith, m)) (omega (arith, parent, tree.count)) k in omega (arith, l));
      count = ap length (parents_after s.shoens h) ∙ length_after (parents_of s.shoens) h.parent ∙ ap suc tree.count ∙ sym number;
      owners = both_within h.number s.goals (opening_goals s.last_goal h goal) (wider s.last_shoen h.number less s.goals tree.owners) (few, (few, tt));
      worked = wider_work s.last_shoen h.number less s.work tree.worked;
    }

-- ---- effects that may open a shoen

-- what follows an effect of a goal in a shoen: perhaps more shoens, and the same charged reductions
pub record Follows (owner : ℕ) (s t : State) : Type 0 where
  pub more : List ℕ
  pub parents : parents_of t.shoens ≡ parents_of s.shoens ++ more
  pub work : t.work ≡ s.work
  pub tree : owner ≤ s.last_shoen → IsTree s → IsTree t

pub follows_kept : (owner : ℕ) (s t : State) → Keeps s t → Follows owner s t
follows_kept owner s t k = record { more = []; parents = k.parents ∙ sym (append-nil (parents_of s.shoens)); work = k.work; tree = λ few tree. kept_tree s t k tree }

pub follows_then : (owner : ℕ) (s t u : State) → Follows owner s t → Keeps t u → Follows owner s u
follows_then owner s t u f k = record { more = f.more; parents = k.parents ∙ f.parents; work = k.work ∙ f.work; tree = λ few tree. kept_tree t u k (f.tree few tree) }

opened_keeps : (h : Shoen) (goal : Term) (s : State) → Keeps (with_shoen h goal s) (open_shoen h goal s)
opened_keeps h goal s =
    let a = with_shoen h goal s in
    let b = report h.number started_report a in
    let k = keeps_report h.number started_report a in
    keeps_if (h.allowance == 0) a (report h.number exhausted_report b) b (keeps_both a b (report h.number exhausted_report b) k (keeps_report h.number exhausted_report b)) k

pub opening_follows : (owner : ℕ) (h : Shoen) (goal : Term) (s : State) → h.number ≡ suc s.last_shoen → (owner ≤ s.last_shoen → h.parent ≤ s.last_shoen) → Follows owner s (open_shoen h goal s)
opening_follows owner h goal s number parent =
    let f : Follows owner s (with_shoen h goal s) = record { more = h.parent ∷ []; parents = parents_after s.shoens h; work = refl; tree = λ few tree. opened_tree h goal s number (parent few) tree } in
    follows_then owner s (with_shoen h goal s) (open_shoen h goal s) f (opened_keeps h goal s)

from_within : (n last shoen : ℕ) (ps : List ℕ) (ts : List Term) → shoen ≤ n → AreWithin n (goals_from last shoen ps ts)
from_within n last shoen [] [] few = tt
from_within n last shoen [] (t ∷ ts) few = tt
from_within n last shoen (p ∷ ps) [] few = tt
from_within n last shoen (p ∷ ps) (t ∷ ts) few = (few, from_within n (suc last) shoen ps ts few)

commit_follows : (g : Goal) (k : Candidate) (s : State) → Follows g.shoen s (committed g k s)
commit_follows g k s = record {
  more = [];
  parents = sym (append-nil (parents_of s.shoens));
  work = refl;
  tree = λ few tree. record {
    numbered = tree.numbered;
    lower = tree.lower;
    count = tree.count;
    owners = both_within s.last_shoen s.goals _ tree.owners (from_within s.last_shoen s.last_goal g.shoen _ _ few);
    worked = tree.worked;
  };
}

-- a goal in the place of another follows what comes before it
replaced_follows : (g : Goal) (task : Task) (s t : State) → Keeps s t → Follows g.shoen s (replaced_by g task t)
replaced_follows g task s t k = record {
  more = [];
  parents = k.parents ∙ sym (append-nil (parents_of s.shoens));
  work = k.work;
  tree = λ few tree.
      let kept = kept_tree s t k tree in
      record {
        numbered = kept.numbered;
        lower = kept.lower;
        count = kept.count;
        owners = both_within t.last_shoen t.goals _ kept.owners (subst (λ n. g.shoen ≤ n) (sym k.last) few, tt);
        worked = kept.worked;
      };
}

follows_if : (c : Bool) (owner : ℕ) (s t u : State) → Follows owner s t → Follows owner s u → Follows owner s (if c then t else u)
follows_if true owner s t u f h = f
follows_if false owner s t u f h = h

raised_follows : (g : Goal) (kind : List ℕ) (t : Term) (s u : State) → Keeps s u → Follows g.shoen s (raised g kind t u)
raised_follows g kind t s u k =
    let new = suc u.last_variable in
    let told = exception_with kind t (variable new) in
    let v = record u { last_variable = new } in
    let j : Keeps s v = record { parents = k.parents; work = k.work; last = k.last; owners = k.owners; numbered = k.numbered } in
    follows_if (has_substitutes u.rules && is_reported g.shoen (exception kind t) u) g.shoen s (substituted_by g kind t u) (report g.shoen (exception kind t) u)
    (replaced_follows g (substitutes (variable new)) s (report g.shoen told v) (keeps_both s v (report g.shoen told v) j (keeps_report g.shoen told v)))
    (follows_kept g.shoen s (report g.shoen (exception kind t) u) (keeps_both s u (report g.shoen (exception kind t) u) k (keeps_report g.shoen (exception kind t) u)))

follows_or : (c : Bool) (g : Goal) (t : Term) (s u : State) → Follows g.shoen s u → Follows g.shoen s (or_exhaustion c g t u s)
follows_or true g t s u f = f
follows_or false g t s u f = raised_follows g exhaustion t s s (keeps_same s)

unified_follows : (g : Goal) (t : Term) (o : Option (List Replacement)) (s u : State) → Keeps s u → Follows g.shoen s (unified g t o u)
unified_follows g t None s u k = raised_follows g failure t s u k
unified_follows g t (Some rs) s u k = follows_then g.shoen s u (unified g t (Some rs) u) (follows_kept g.shoen s u k) (keeps_all rs u)

move_follows : (g : Goal) (t : Term) (m : Move) (s : State) → Follows g.shoen s (moved g t m s)
move_follows g t (commits k) s = follows_or (has_room_for s k.clause) g t s (committed g k s) (commit_follows g k s)
move_follows g t (raises kind) s = raised_follows g kind t s s (keeps_same s)
move_follows g t (unifies a b) s = unified_follows g t (mgu (equation a b)) s s (keeps_same s)
move_follows g t (names text a) s =
    let u = record s { names = with_name s.names text } in
    let k : Keeps s u = record { parents = refl; work = refl; last = refl; owners = λ n w. w; numbered = λ n w. w } in
    follows_or (not (are_too_many s.rules (with_name s.names text))) g t s (unified g t (mgu (equation a (atom text))) u) (unified_follows g t (mgu (equation a (atom text))) s u k)
move_follows g t (opens o) s =
    follows_or (has_room_for_child s g.shoen) g t s (open_child s g.shoen o) (opening_follows g.shoen (child_shoen s g.shoen o) o.goal s refl (λ few. few))
move_follows g t goes s = follows_kept g.shoen s s (keeps_same s)
move_follows g t gives_way s = replaced_follows g (reduces t) s s (keeps_same s)

charged_tree : (n : ℕ) (s : State) → n ≤ s.last_shoen → IsTree s → IsTree (charge n s)
charged_tree n s few tree = record { numbered = tree.numbered; lower = tree.lower; count = tree.count; owners = tree.owners; worked = (few, tree.worked) }

-- ---- reductions

-- a goal's move leaves a tree, and charges the path of its shoen
pub acted_move : (g : Goal) (t : Term) (m : Move) (s : State) → g.shoen ≤ s.last_shoen → IsTree s →
    IsTree (acted g (moves t m) s) × ((a : ℕ) → charged_of (acted g (moves t m) s) a ≡ (if is_on_path s.shoens a g.shoen then 1 else 0) + charged_of s a)
acted_move g t m s few tree =
    let removed = without_goal g.number s in
    let worked = charge g.shoen removed in
    let done = moved g t m worked in
    let settled = after_reduction g.shoen done in
    let before = charged_tree g.shoen removed few (kept_tree s removed (keeps_fewer _ s) tree) in
    let f = follows_then g.shoen worked done settled (move_follows g t m worked) (keeps_settle_charged g.shoen done) in
    (f.tree few before, λ a. charged_among worked settled f.more a before f.parents f.work ∙ charges_path removed g.shoen a)

-- what a monitor reads leaves a tree, and charges nobody
pub acted_reading : (g : Goal) (c : Control) (s : State) → Keeps s (acted g (reads c) s)
acted_reading g c s = keeps_both s (heard g.shoen c s) (settle g.shoen (heard g.shoen c s)) (keeps_heard g.shoen c s) (keeps_settle g.shoen (heard g.shoen c s))

pub charged_kept : (s t : State) (a : ℕ) → Keeps s t → charged_of t a ≡ charged_of s a
charged_kept s t a k = ap₂ (λ ps ws. count_by (λ w. is_among a (path_within w ps w)) ws) k.parents k.work

pub with_entry_keeps : (s : State) → Keeps s (with_entry s)
with_entry_keeps s = record { parents = refl; work = refl; last = refl; owners = λ n a. a; numbered = λ n a. a }

pub with_reduction_keeps : (in_run : Bool) (s : State) → Keeps s (with_reduction in_run s)
with_reduction_keeps in_run s = record { parents = refl; work = refl; last = refl; owners = λ n a. a; numbered = λ n a. a }

found_case : (c : Bool) (n : ℕ) (g h : Goal) (o : Option Goal) → (if c then Some g else o) ≡ Some h → g.shoen ≤ n → (o ≡ Some h → h.shoen ≤ n) → h.shoen ≤ n
found_case true n g h o e few f = subst (λ (k : Goal). k.shoen ≤ n) (same_Some g h e) few
found_case false n g h o e few f = f e

pub found_within : (n m : ℕ) (gs : List Goal) (h : Goal) → goal_at m gs ≡ Some h → AreWithin n gs → h.shoen ≤ n
found_within n m [] h e a = absurd (none-some h e)
found_within n m (g ∷ gs) h e a = found_case (g.number == m) n g h (goal_at m gs) e a.0 (λ f. found_within n m gs h f a.1)
