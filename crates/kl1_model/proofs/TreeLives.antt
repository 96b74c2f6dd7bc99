-- Goals and monitors are of living shoens, after each event.
use Rattle.std.proofs.Common.{◌≡◌, ℕ, ◌==◌, ◌||◌, not, ◌&&◌, Bool, true, false, if◌then◌else◌, List, [], ◌∷◌, refl, sym, ap, ap₂, ◌∙◌, subst}
use Rattle.std.specs.Prelude.{map, filter, Option, Some, option_map, unwrap_or}
use Rattle.std.specs.List.{AllByRecursion, list_any}
use Rattle.std.proofs.lemmas.Bool.{false≢true, eqb-true}
use Rattle.kl1_model.specs.declared.life.Life.TheVariants.{Terminated, Aborted}
use Rattle.kl1_model.specs.declared.rules.Rules.{Rules}
use Rattle.kl1_model.specs.State.{Goal, Shoen, State, shoen_at, is_monitor, is_living}
use Rattle.kl1_model.specs.Tree.{path, is_on_path}
use Rattle.kl1_model.specs.Report.{report, report_each, close, exhausted_report, terminated_report}
use Rattle.kl1_model.specs.Ending.{has_goal, lives, without_monitor, ended_as, ended_at, terminate, terminate_each, ending_of, settle, newly_exhausted, after_reduction, ended_below, abort}
use Rattle.kl1_model.specs.code.Steps.{aborted_below}
use Rattle.kl1_model.specs.laws.TreeLaws.{AreOfLiving, owners_of}
use Rattle.kl1_model.proofs.TreeEndings.{Mark, mark_of, marks_of, Post, post_of, posts_of, Leaves, leaves_both, leaves_report, leaves_report_each, leaves_close, abort_leaves, ended_mark, ended_marks, ending_have_no_goals}

-- whether shoen `n` lives, by marks
abbrev pub lives_in : List Mark → ℕ → Bool
lives_in [] n = false
lives_in (m ∷ ms) n = if m.number == n then is_living m.life else lives_in ms n

-- posts of living shoens
abbrev pub Posted : List Mark → List Post → Type 0
Posted ms ps = AllByRecursion (λ (p : Post). lives_in ms p.shoen ≡ true) ps

found_lives : (c : Bool) (h : Shoen) (o : Option Shoen) (b : Bool) → unwrap_or (option_map (λ (k : Shoen). is_living k.life) o) false ≡ b →
    unwrap_or (option_map (λ (k : Shoen). is_living k.life) (if c then Some h else o)) false ≡ (if c then is_living h.life else b)
found_lives true h o b e = refl
found_lives false h o b e = e

pub marked_lives : (n : ℕ) (hs : List Shoen) → unwrap_or (option_map (λ (h : Shoen). is_living h.life) (shoen_at n hs)) false ≡ lives_in (marks_of hs) n
marked_lives n [] = refl
marked_lives n (h ∷ hs) = found_lives (h.number == n) h (shoen_at n hs) (lives_in (marks_of hs) n) (marked_lives n hs)

posted_to : (s : State) (gs : List Goal) → AllByRecursion (λ n. lives n s ≡ true) (owners_of gs) → Posted (marks_of s.shoens) (posts_of gs)
posted_to s [] a = tt
posted_to s (g ∷ gs) a = (sym (marked_lives g.shoen s.shoens) ∙ a.0, posted_to s gs a.1)

posted_from : (s : State) (gs : List Goal) → Posted (marks_of s.shoens) (posts_of gs) → AllByRecursion (λ n. lives n s ≡ true) (owners_of gs)
posted_from s [] a = tt
posted_from s (g ∷ gs) a = (marked_lives g.shoen s.shoens ∙ a.0, posted_from s gs a.1)

-- goals of living shoens, by marks and posts
abbrev pub IsPosted : State → Type 0
IsPosted s = Posted (marks_of s.shoens) (posts_of s.goals)

pub to_posted : (s : State) → AreOfLiving s → IsPosted s
to_posted s a = posted_to s s.goals a

pub from_posted : (s : State) → IsPosted s → AreOfLiving s
from_posted s a = posted_from s s.goals a

pub posted_left : (s t : State) → Leaves s t → IsPosted s → IsPosted t
posted_left s t k a = subst (λ ms. Posted ms (posts_of t.goals)) (sym k.marks) (subst (Posted (marks_of s.shoens)) (sym k.posts) a)

-- ---- fewer goals

if_post : (c : Bool) (P : Post → Type 0) (g : Goal) (gs : List Goal) → P (post_of g) → AllByRecursion P (posts_of gs) → AllByRecursion P (posts_of (if c then g ∷ gs else gs))
if_post true P g gs e a = (e, a)
if_post false P g gs e a = a

pub fewer_posts : (P : Post → Type 0) (p : Goal → Bool) (gs : List Goal) → AllByRecursion P (posts_of gs) → AllByRecursion P (posts_of (filter p gs))
fewer_posts P p [] a = tt
fewer_posts P p (g ∷ gs) a = if_post (p g) P g (filter p gs) a.0 (fewer_posts P p gs a.1)

-- ---- terminations

-- whether some post is of a shoen, and no monitor's
abbrev has_post : ℕ → List Post → Bool
has_post n ps = list_any (λ (p : Post). p.shoen == n && not p.is_monitor) ps

posted_goal : (n : ℕ) (gs : List Goal) → list_any (λ (g : Goal). g.shoen == n && not (is_monitor g.task)) gs ≡ has_post n (posts_of gs)
posted_goal n [] = refl
posted_goal n (g ∷ gs) = ap (λ b. g.shoen == n && not (is_monitor g.task) || b) (posted_goal n gs)

or_false : (x y : Bool) → (x || y) ≡ false → (x ≡ false) × (y ≡ false)
or_false true y e = absurd (false≢true (sym e))
or_false false y e = (refl, e)

none_case : (c : Bool) (n : ℕ) (g : Goal) (gs : List Goal) → (g.shoen == n && not (is_monitor g.task)) ≡ false → has_post n (posts_of gs) ≡ false → has_post n (posts_of (if c then g ∷ gs else gs)) ≡ false
none_case true n g gs e f = ap₂ (λ x y. x || y) e f
none_case false n g gs e f = f

none_fewer : (n : ℕ) (p : Goal → Bool) (gs : List Goal) → has_post n (posts_of gs) ≡ false → has_post n (posts_of (filter p gs)) ≡ false
none_fewer n p [] e = refl
none_fewer n p (g ∷ gs) e =
    let parts = or_false (g.shoen == n && not (is_monitor g.task)) (has_post n (posts_of gs)) e in
    none_case (p g) n g (filter p gs) parts.0 (none_fewer n p gs parts.1)

ended_case : (c : Bool) (k : Mark) (n m : ℕ) (x y : Bool) → k.number == m ≡ c → m == n ≡ false → x ≡ y → (if c then is_living (if k.number == n || false then Terminated else k.life) else x) ≡ (if c then is_living k.life else y)
ended_case true k n m x y d e f = ap (λ b. is_living (if b || false then Terminated else k.life)) (ap (λ j. j == n) (eqb-true k.number m d) ∙ e)
ended_case false k n m x y d e f = f

-- the end of a shoen leaves the lives of others
ended_other : (n m : ℕ) (ms : List Mark) → m == n ≡ false → lives_in (map (ended_mark (n ∷ [])) ms) m ≡ lives_in ms m
ended_other n m [] e = refl
ended_other n m (k ∷ ms) e = ended_case (k.number == m) k n m (lives_in (map (ended_mark (n ∷ [])) ms) m) (lives_in ms m) refl e (ended_other n m ms e)

monitor_case : (c d : Bool) (n : ℕ) (ms : List Mark) (g : Goal) (gs : List Goal) → g.shoen == n ≡ c → is_monitor g.task ≡ d → (c && not d) ≡ false → lives_in ms g.shoen ≡ true →
    Posted (map (ended_mark (n ∷ [])) ms) (posts_of gs) → Posted (map (ended_mark (n ∷ [])) ms) (posts_of (if not (c && d) then g ∷ gs else gs))
monitor_case true true n ms g gs e f x l a = a
monitor_case true false n ms g gs e f x l a = absurd (false≢true (sym x))
monitor_case false d n ms g gs e f x l a = (ended_other n g.shoen ms e ∙ l, a)

without_case : (n : ℕ) (ms : List Mark) (gs : List Goal) → has_post n (posts_of gs) ≡ false → Posted ms (posts_of gs) →
    Posted (map (ended_mark (n ∷ [])) ms) (posts_of (filter (λ g. not (g.shoen == n && is_monitor g.task)) gs))
without_case n ms [] e a = tt
without_case n ms (g ∷ gs) e a =
    let parts = or_false (g.shoen == n && not (is_monitor g.task)) (has_post n (posts_of gs)) e in
    monitor_case (g.shoen == n) (is_monitor g.task) n ms g (filter (λ g. not (g.shoen == n && is_monitor g.task)) gs) refl refl parts.0 a.0 (without_case n ms gs parts.1 a.1)

terminate_leaves : (n : ℕ) (s : State) → Leaves (without_monitor n (ended_at n s)) (terminate n s)
terminate_leaves n s =
    let a = without_monitor n (ended_at n s) in
    let b = report n terminated_report a in
    leaves_both a b (close n b) (leaves_report n terminated_report a) (leaves_close n b)

terminate_posted : (n : ℕ) (s : State) → has_goal n s ≡ false → IsPosted s → IsPosted (terminate n s)
terminate_posted n s e a =
    let b = without_case n (marks_of s.shoens) s.goals (sym (posted_goal n s.goals) ∙ e) a in
    posted_left (without_monitor n (ended_at n s)) (terminate n s) (terminate_leaves n s)
    (subst (λ ms. Posted ms (posts_of (filter (λ g. not (g.shoen == n && is_monitor g.task)) s.goals))) (sym (ended_marks s.rules n s.shoens)) b)

terminate_none : (n m : ℕ) (s : State) → has_goal m s ≡ false → has_goal m (terminate n s) ≡ false
terminate_none n m s e =
    posted_goal m (terminate n s).goals ∙ ap (has_post m) (terminate_leaves n s).posts ∙ none_fewer m (λ g. not (g.shoen == n && is_monitor g.task)) s.goals (sym (posted_goal m s.goals) ∙ e)

all_none : (n : ℕ) (s : State) (ns : List ℕ) → AllByRecursion (λ m. has_goal m s ≡ false) ns → AllByRecursion (λ m. has_goal m (terminate n s) ≡ false) ns
all_none n s [] a = tt
all_none n s (m ∷ ns) a = (terminate_none n m s a.0, all_none n s ns a.1)

each_posted : (ns : List ℕ) (s : State) → AllByRecursion (λ m. has_goal m s ≡ false) ns → IsPosted s → IsPosted (terminate_each ns s)
each_posted [] s e a = a
each_posted (n ∷ ns) s e a = each_posted ns (terminate n s) (all_none n s ns e.1) (terminate_posted n s e.0 a)

pub settle_posted : (n : ℕ) (s : State) → IsPosted s → IsPosted (settle n s)
settle_posted n s a = each_posted (ending_of (path s.shoens n) s) s (ending_have_no_goals (path s.shoens n) s) a

none_left : (s t : State) → Leaves s t → (ns : List ℕ) → AllByRecursion (λ m. has_goal m s ≡ false) ns → AllByRecursion (λ m. has_goal m t ≡ false) ns
none_left s t k [] a = tt
none_left s t k (m ∷ ns) a = (posted_goal m t.goals ∙ ap (has_post m) k.posts ∙ sym (posted_goal m s.goals) ∙ a.0, none_left s t k ns a.1)

pub settle_charged_posted : (n : ℕ) (s : State) → IsPosted s → IsPosted (after_reduction n s)
settle_charged_posted n s a =
    let ns = path s.shoens n in
    let ending = ending_of ns s in
    let told = newly_exhausted s ending ns in
    let t = report_each told exhausted_report s in
    let k = leaves_report_each told exhausted_report s in
    each_posted ending t (none_left s t k ending (ending_have_no_goals ns s)) (posted_left s t k a)

-- ---- aborts

aborted_life : (rules : Rules) (b : Bool) (h : Shoen) → b ≡ false → mark_of (if is_living h.life && b then ended_as rules Aborted h else h) ≡ mark_of h
aborted_life rules b h e = ap (λ c. mark_of (if is_living h.life && c then ended_as rules Aborted h else h)) e ∙ no_abort (is_living h.life) h
  where
    no_abort : (c : Bool) (h : Shoen) → mark_of (if c && false then ended_as rules Aborted h else h) ≡ mark_of h
    no_abort true h = refl
    no_abort false h = refl

if_aborted : (rules : Rules) (c : Bool) (h : Shoen) → (if c then ended_as rules Aborted h else h).number ≡ h.number
if_aborted rules true h = refl
if_aborted rules false h = refl

other_case : (c : Bool) (h k : Shoen) (m : ℕ) (x y : Bool) → k.number ≡ h.number → h.number == m ≡ c → (h.number ≡ m → mark_of k ≡ mark_of h) → x ≡ y → (if k.number == m then is_living k.life else x) ≡ (if c then is_living h.life else y)
other_case true h k m x y n d e f =
    ap (λ (j : Mark). if j.number == m then is_living j.life else x) (e (eqb-true h.number m d)) ∙ ap (λ b. if b then is_living h.life else x) d
other_case false h k m x y n d e f = ap (λ j. if j == m then is_living k.life else x) n ∙ ap (λ b. if b then is_living k.life else x) d ∙ f

-- an abort leaves the lives of shoens that aren't below
aborted_other : (rules : Rules) (all : List Shoen) (n m : ℕ) (hs : List Shoen) → is_on_path all n m ≡ false → lives_in (marks_of (map (aborted_below rules all n) hs)) m ≡ lives_in (marks_of hs) m
aborted_other rules all n m [] e = refl
aborted_other rules all n m (h ∷ hs) e =
    other_case (h.number == m) h (aborted_below rules all n h) m (lives_in (marks_of (map (aborted_below rules all n) hs)) m) (lives_in (marks_of hs) m)
    (if_aborted rules (is_living h.life && is_on_path all n h.number) h) refl (λ same. aborted_life rules (is_on_path all n h.number) h (ap (is_on_path all n) same ∙ e)) (aborted_other rules all n m hs e)

below_case : (rules : Rules) (c : Bool) (all : List Shoen) (n : ℕ) (hs : List Shoen) (g : Goal) (gs : List Goal) → is_on_path all n g.shoen ≡ c → lives_in (marks_of hs) g.shoen ≡ true →
    Posted (marks_of (map (aborted_below rules all n) hs)) (posts_of gs) → Posted (marks_of (map (aborted_below rules all n) hs)) (posts_of (if not c then g ∷ gs else gs))
below_case rules true all n hs g gs e l a = a
below_case rules false all n hs g gs e l a = (aborted_other rules all n g.shoen hs e ∙ l, a)

not_below : (rules : Rules) (all : List Shoen) (n : ℕ) (hs : List Shoen) (gs : List Goal) → Posted (marks_of hs) (posts_of gs) →
    Posted (marks_of (map (aborted_below rules all n) hs)) (posts_of (filter (λ g. not (is_on_path all n g.shoen)) gs))
not_below rules all n hs [] a = tt
not_below rules all n hs (g ∷ gs) a = below_case rules (is_on_path all n g.shoen) all n hs g (filter (λ g. not (is_on_path all n g.shoen)) gs) refl a.0 (not_below rules all n hs gs a.1)

pub abort_posted : (n : ℕ) (s : State) → IsPosted s → IsPosted (abort n s)
abort_posted n s a = posted_left (ended_below n s) (abort n s) (abort_leaves n s) (not_below s.rules s.shoens n s.shoens s.goals a)
