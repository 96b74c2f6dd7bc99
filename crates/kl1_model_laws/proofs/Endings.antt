-- Which shoens end, and that none is left that is due.
use Rattle.std.proofs.Common.{◌≡◌, ◌≤◌, inl, inr, ℕ, zero, suc, ◌+◌, ◌==◌, ◌||◌, not, ◌&&◌, Bool, true, false, if◌then◌else◌, List, [], ◌∷◌, refl, sym, ap, ap₂, ◌∙◌, subst, arith}
use Rattle.std.specs.Prelude.{map, filter, get_or}
use Rattle.std.specs.List.{AllByRecursion}
use Rattle.std.proofs.Math.Bool.{or-true}
use Rattle.std.proofs.lemmas.Bool.{false≢true, and_parts, not-true, eqb-true, eq-eqb, ne_eqb, cases_eq, or_cases}
use Rattle.kl1_model.specs.declared.rules.Rules.{Rules}
use Rattle.kl1_model.specs.declared.life.Life.TheVariants.{Terminated}
use Rattle.kl1_model.specs.Module.{is_among}
use Rattle.kl1_model.specs.State.{Goal, Shoen, State, is_monitor, is_living}
use Rattle.kl1_model.specs.Tree.{parents_of, path_within, path, is_on_path}
use Rattle.kl1_model.specs.Report.{report_each, exhausted_report, terminated_report}
use Rattle.kl1_model.specs.Ending.{has_goal, has_living_child, lives, ends_now, ended_at, ending_of, without_monitor, terminate, terminate_each, settle, newly_exhausted, after_reduction, ended_as}
use Rattle.kl1_model.specs.laws.TreeLaws.{AreNumbered, ParentsAreLower, IsTree}
use Rattle.kl1_model.proofs.TreeKeeps.{keeps_ended}
use Rattle.kl1_model_laws.specs.EndingLaws.{AreDue, EndingAreDue, DueTerminate, DueTerminateAlone, NoneIsLeftDue, NoneIsLeftDueAlone}
use Rattle.kl1_model_laws.proofs.Alike.{Node, node_of, nodes_of, duties_of, Alike, alike_same, alike_report_each, alike_closing, lives_in, has_duty, has_child, lives_by, goal_by, child_by}

-- ---- the end of a shoen, by nodes

-- a node after shoen n has ended
abbrev pub ended_node : ℕ → Node → Node
ended_node n m = if m.number == n then record m { life = Terminated } else m

ended_nodes : (rules : Rules) (n : ℕ) (hs : List Shoen) → nodes_of (map (λ (h : Shoen). if h.number == n then ended_as rules Terminated h else h) hs) ≡ map (ended_node n) (nodes_of hs)
ended_nodes rules n [] = refl
ended_nodes rules n (h ∷ hs) = ap₂ (λ (m : Node) (ms : List Node). m ∷ ms) (by_number (h.number == n) h) (ended_nodes rules n hs)
  where
    by_number : (c : Bool) (h : Shoen) → node_of (if c then ended_as rules Terminated h else h) ≡ (if c then record (node_of h) { life = Terminated } else node_of h)
    by_number true h = refl
    by_number false h = refl

dead_case : (c : Bool) (n : ℕ) (m : Node) (x : Bool) → m.number == n ≡ c → x ≡ false →
    (if (if c then record m { life = Terminated } else m).number == n then is_living (if c then record m { life = Terminated } else m).life else x) ≡ false
dead_case true n m x e p = ap (λ b. if b then false else x) e
dead_case false n m x e p = ap (λ b. if b then is_living m.life else x) e ∙ p

dead : (n : ℕ) (ms : List Node) → lives_in (map (ended_node n) ms) n ≡ false
dead n [] = refl
dead n (m ∷ ms) = dead_case (m.number == n) n m (lives_in (map (ended_node n) ms) n) refl (dead n ms)

lived_case : (c d : Bool) (m : Node) (k : ℕ) (x y : Bool) → m.number == k ≡ d → (x ≡ true → y ≡ true) →
    (if (if c then record m { life = Terminated } else m).number == k then is_living (if c then record m { life = Terminated } else m).life else x) ≡ true → (if d then is_living m.life else y) ≡ true
lived_case true true m k x y e f p = absurd (false≢true (sym (ap (λ b. if b then false else x) e) ∙ p))
lived_case true false m k x y e f p = f (sym (ap (λ b. if b then false else x) e) ∙ p)
lived_case false true m k x y e f p = sym (ap (λ b. if b then is_living m.life else x) e) ∙ p
lived_case false false m k x y e f p = f (sym (ap (λ b. if b then is_living m.life else x) e) ∙ p)

-- who lives after the end of a shoen lived before it
lived : (n k : ℕ) (ms : List Node) → lives_in (map (ended_node n) ms) k ≡ true → lives_in ms k ≡ true
lived n k [] p = p
lived n k (m ∷ ms) p = lived_case (m.number == n) (m.number == k) m k (lives_in (map (ended_node n) ms) k) (lives_in ms k) refl (lived n k ms) p

-- no node of this number has this parent
abbrev NoChild : ℕ → ℕ → List Node → Type 0
NoChild n p ms = AllByRecursion (λ (m : Node). m.number ≡ n → m.parent ≡ p → ⊥) ms

child_case : (c : Bool) (n p : ℕ) (m : Node) → m.number == n ≡ c → (m.number ≡ n → m.parent ≡ p → ⊥) →
    ((if c then record m { life = Terminated } else m).parent == p && is_living (if c then record m { life = Terminated } else m).life) ≡ (m.parent == p && is_living m.life)
child_case true n p m e f =
    let no = ne_eqb m.parent p (λ same. f (eqb-true m.number n e) same) in ap (λ b. b && false) no ∙ sym (ap (λ b. b && is_living m.life) no)
child_case false n p m e f = refl

-- the end of a shoen leaves the children of all but its parent
child_stays : (n p : ℕ) (ms : List Node) → NoChild n p ms → has_child (map (ended_node n) ms) p ≡ has_child ms p
child_stays n p [] a = refl
child_stays n p (m ∷ ms) a = ap₂ (λ x y. x || y) (child_case (m.number == n) n p m refl a.0) (child_stays n p ms a.1)

was_child_case : (c x y : Bool) → ((if c then (x && false) else (x && y)) ≡ true) → (x && y) ≡ true
was_child_case true true y p = absurd (false≢true p)
was_child_case true false y p = p
was_child_case false x y p = p

was_child : (n p : ℕ) (ms : List Node) → has_child (map (ended_node n) ms) p ≡ true → has_child ms p ≡ true
was_child n p [] e = e
was_child n p (m ∷ ms) e =
    elim (or_cases ((ended_node n m).parent == p && is_living (ended_node n m).life) (has_child (map (ended_node n) ms) p) e) [
      | inl here ↦ ap (λ b. b || has_child ms p) (by_number (m.number == n) m here)
      | inr there ↦ ap (λ b. m.parent == p && is_living m.life || b) (was_child n p ms there) ∙ or-true (m.parent == p && is_living m.life)
    ]
  where
    by_number : (c : Bool) (m : Node) → ((if c then record m { life = Terminated } else m).parent == p && is_living (if c then record m { life = Terminated } else m).life) ≡ true → (m.parent == p && is_living m.life) ≡ true
    by_number true m h = was_child_case true (m.parent == p) (is_living m.life) h
    by_number false m h = h

-- ---- who is due before and after

-- what keeps a shoen from being due stays: if it lives after, it lived before, and its goals and children stay
pub record Stays (s t : State) (m : ℕ) : Type 0 where
  pub lives : lives m t ≡ true → lives m s ≡ true
  pub goals : has_goal m s ≡ true → has_goal m t ≡ true
  pub children : has_living_child m s ≡ true → has_living_child m t ≡ true

stays_case : (l' l g' g c' c : Bool) → (l' ≡ true → l ≡ true) → (g ≡ true → g' ≡ true) → (c ≡ true → c' ≡ true) → (l && not g && not c) ≡ false → (l' && not g' && not c') ≡ false
stays_case false l g' g c' c p q r e = refl
stays_case true l true g c' c p q r e = refl
stays_case true l false g true c p q r e = refl
stays_case true l false true false c p q r e = absurd (false≢true (q refl))
stays_case true l false false false true p q r e = absurd (false≢true (r refl))
stays_case true true false false false false p q r e = absurd (false≢true (sym e))
stays_case true false false false false false p q r e = absurd (false≢true (p refl))

pub not_due : (s t : State) (m : ℕ) → Stays s t m → ends_now m s ≡ false → ends_now m t ≡ false
not_due s t m k e = stays_case (lives m t) (lives m s) (has_goal m t) (has_goal m s) (has_living_child m t) (has_living_child m s) k.lives k.goals k.children e

pub stays_both : (s t u : State) (m : ℕ) → Stays s t m → Stays t u m → Stays s u m
stays_both s t u m p q = record { lives = λ e. p.lives (q.lives e); goals = λ e. q.goals (p.goals e); children = λ e. q.children (p.children e) }

pub stays_alike : (s t : State) → Alike s t → (m : ℕ) → Stays s t m
stays_alike s t k m = record {
  lives = λ e. lives_by m s ∙ sym (ap (λ ms. lives_in ms m) k.nodes) ∙ sym (lives_by m t) ∙ e;
  goals = λ e. goal_by m t ∙ ap (λ ds. has_duty ds m) k.duties ∙ sym (goal_by m s) ∙ e;
  children = λ e. child_by m t ∙ ap (λ ms. has_child ms m) k.nodes ∙ sym (child_by m s) ∙ e;
}

pub dead_at : (n : ℕ) (s : State) → lives n (ended_at n s) ≡ false
dead_at n s = lives_by n (ended_at n s) ∙ ap (λ ms. lives_in ms n) (ended_nodes s.rules n s.shoens) ∙ dead n (nodes_of s.shoens)

lived_at : (n m : ℕ) (s : State) → lives m (ended_at n s) ≡ true → lives m s ≡ true
lived_at n m s e = lives_by m s ∙ lived n m (nodes_of s.shoens) (sym (ap (λ ms. lives_in ms m) (ended_nodes s.rules n s.shoens)) ∙ sym (lives_by m (ended_at n s)) ∙ e)

was_child_at : (n m : ℕ) (s : State) → has_living_child m (ended_at n s) ≡ true → has_living_child m s ≡ true
was_child_at n m s e = child_by m s ∙ was_child n m (nodes_of s.shoens) (sym (ap (λ ms. has_child ms m) (ended_nodes s.rules n s.shoens)) ∙ sym (child_by m (ended_at n s)) ∙ e)

stays_at : (n m : ℕ) (s : State) → NoChild n m (nodes_of s.shoens) → Stays s (ended_at n s) m
stays_at n m s none = record {
  lives = lived_at n m s;
  goals = λ e. e;
  children = λ e. child_by m (ended_at n s) ∙ ap (λ ms. has_child ms m) (ended_nodes s.rules n s.shoens) ∙ child_stays n m (nodes_of s.shoens) none ∙ sym (child_by m s) ∙ e;
}

-- no shoen is due
abbrev pub Idle : State → Type 0
Idle s = (m : ℕ) → ends_now m s ≡ false

-- ---- what terminations come to

-- shoens ended one after another, and nothing else
abbrev pub ended_each : List ℕ → State → State
ended_each [] s = s
ended_each (n ∷ ns) s = ended_each ns (ended_at n s)

-- an account with equal nodes, whose goals are of equal shoens; its monitors may differ
record Follows (s t : State) : Type 0 where
  nodes : nodes_of t.shoens ≡ nodes_of s.shoens
  goals : (m : ℕ) → has_goal m t ≡ has_goal m s

follows_alike : (s t : State) → Alike s t → Follows s t
follows_alike s t k = record { nodes = k.nodes; goals = λ m. goal_by m t ∙ ap (λ ds. has_duty ds m) k.duties ∙ sym (goal_by m s) }

no_duty : (x y : Bool) → (x && not true || y) ≡ y
no_duty true y = refl
no_duty false y = refl

aside_case : (c d : Bool) (m : ℕ) (g : Goal) (gs fs : List Goal) → is_monitor g.task ≡ d → has_duty (duties_of fs) m ≡ has_duty (duties_of gs) m → has_duty (duties_of (if not (c && d) then g ∷ fs else fs)) m ≡ has_duty (duties_of (g ∷ gs)) m
aside_case true true m g gs fs is e = e ∙ sym (ap (λ b. g.shoen == m && not b || has_duty (duties_of gs) m) is ∙ no_duty (g.shoen == m) (has_duty (duties_of gs) m))
aside_case true false m g gs fs is e = ap (λ b. g.shoen == m && not (is_monitor g.task) || b) e
aside_case false d m g gs fs is e = ap (λ b. g.shoen == m && not (is_monitor g.task) || b) e

-- monitors don't count
aside : (n m : ℕ) (gs : List Goal) → has_duty (duties_of (filter (λ g. not (g.shoen == n && is_monitor g.task)) gs)) m ≡ has_duty (duties_of gs) m
aside n m [] = refl
aside n m (g ∷ gs) = aside_case (g.shoen == n) (is_monitor g.task) m g gs (filter (λ g. not (g.shoen == n && is_monitor g.task)) gs) refl (aside n m gs)

pub goal_aside : (n m : ℕ) (s : State) → has_goal m (without_monitor n s) ≡ has_goal m s
goal_aside n m s = goal_by m (without_monitor n s) ∙ aside n m s.goals ∙ sym (goal_by m s)

follows_end : (n : ℕ) (s t : State) → Follows s t → Follows (ended_at n s) (terminate n t)
follows_end n s t k =
    let u = without_monitor n (ended_at n t) in
    let a = alike_closing n terminated_report u in record {
      nodes = a.nodes ∙ ended_nodes t.rules n t.shoens ∙ ap (map (ended_node n)) k.nodes ∙ sym (ended_nodes s.rules n s.shoens);
      goals = λ m. (follows_alike u (terminate n t) a).goals m ∙ goal_aside n m (ended_at n t) ∙ k.goals m;
    }

follows_each : (ns : List ℕ) (s t : State) → Follows s t → Follows (ended_each ns s) (terminate_each ns t)
follows_each [] s t k = k
follows_each (n ∷ ns) s t k = follows_each ns (ended_at n s) (terminate n t) (follows_end n s t k)

follows_settle : (n : ℕ) (s : State) → Follows (ended_each (ending_of (path s.shoens n) s) s) (settle n s)
follows_settle n s = follows_each (ending_of (path s.shoens n) s) s s (follows_alike s s (alike_same s))

follows_settle_charged : (n : ℕ) (s : State) → Follows (ended_each (ending_of (path s.shoens n) s) s) (after_reduction n s)
follows_settle_charged n s =
    let ns = path s.shoens n in
    let ending = ending_of ns s in
    let told = newly_exhausted s ending ns in
    follows_each ending s (report_each told exhausted_report s) (follows_alike s (report_each told exhausted_report s) (alike_report_each told exhausted_report s))

follows_lives : (s t : State) → Follows s t → (m : ℕ) → lives m t ≡ lives m s
follows_lives s t k m = lives_by m t ∙ ap (λ ms. lives_in ms m) k.nodes ∙ sym (lives_by m s)

follows_due : (s t : State) → Follows s t → (m : ℕ) → ends_now m t ≡ ends_now m s
follows_due s t k m = ap₂ (λ x y. x && not y) (ap₂ (λ x y. x && not y) (follows_lives s t k m) (k.goals m)) (child_by m t ∙ ap (λ ms. has_child ms m) k.nodes ∙ sym (child_by m s))

-- ---- none is left due

-- no shoen n has parent p, if the place of n has none
no_child : (b n p : ℕ) (hs : List Shoen) → AreNumbered b hs → ((k : ℕ) → suc (b + k) ≡ n → get_or (parents_of hs) k 0 ≡ p → ⊥) → NoChild n p (nodes_of hs)
no_child b n p [] a f = tt
no_child b n p (h ∷ hs) a f = (λ is same. f 0 (omega (arith, is, a.0)) same, no_child (suc b) n p hs a.1 (λ k is same. f (suc k) (omega (arith, is)) same))

none_lives : (b : ℕ) (hs : List Shoen) → AreNumbered b hs → lives_in (nodes_of hs) 0 ≡ false
none_lives b [] a = refl
none_lives b (h ∷ hs) a = ap (λ c. if c then is_living h.life else lives_in (nodes_of hs) 0) (ne_eqb h.number 0 (λ same. omega (arith, same, a.0))) ∙ none_lives (suc b) hs a.1

not_lives : (n : ℕ) (s : State) → lives n s ≡ false → ends_now n s ≡ false
not_lives n s e = ap (λ b. b && not (has_goal n s) && not (has_living_child n s)) e

-- the number 0 is no shoen's
pub zero_not_due : (s : State) → AreNumbered 0 s.shoens → ends_now 0 s ≡ false
zero_not_due s a = not_lives 0 s (lives_by 0 s ∙ none_lives 0 s.shoens a)

-- a path begins with its number
pub path_begins : (parents : List ℕ) (most m : ℕ) → suc m ≤ most → is_among (suc m) (path_within most parents (suc m)) ≡ true
unfolding path_within
path_begins parents zero m few = absurd (omega (arith, few))
path_begins parents (suc most) m few = ap (λ b. b || is_among (suc m) (path_within most parents (get_or parents m 0))) (eq-eqb (suc m) (suc m) refl)

-- a shoen other than the first of a path, and not among the rest, isn't due after the first has ended
rest_stays : (parents : List ℕ) (most n m : ℕ) (s : State) → get_or parents n 0 ≤ most → parents_of s.shoens ≡ parents → AreNumbered 0 s.shoens →
    is_among m (path_within most parents (get_or parents n 0)) ≡ false → ends_now m s ≡ false → ends_now m (ended_at (suc n) s) ≡ false
rest_stays parents most n zero s few is a aside e = zero_not_due (ended_at (suc n) s) ((keeps_ended (suc n) s).numbered 0 a)
rest_stays parents most n (suc m) s few is a aside e =
    not_due s (ended_at (suc n) s) (suc m) (stays_at (suc n) (suc m) s (no_child 0 (suc n) (suc m) s.shoens a (λ k same parent.
    let at : n ≡ k = omega (arith, same) in
    let up : get_or parents n 0 ≡ suc m = ap (λ (ps : List ℕ). get_or ps n 0) (sym is) ∙ ap (λ (j : ℕ). get_or (parents_of s.shoens) j 0) at ∙ parent in
    false≢true (sym aside ∙ ap (λ (p : ℕ). is_among (suc m) (path_within most parents p)) up ∙ path_begins parents most m (subst (λ (p : ℕ). p ≤ most) up few))))) e

-- when the first of a path has ended, if it was due, none is due that isn't among the rest; if then none is when the rest have ended
first_ended : (Q : ℕ → Type 0) (parents : List ℕ) (most n m : ℕ) (s : State) → get_or parents n 0 ≤ most → parents_of s.shoens ≡ parents → AreNumbered 0 s.shoens →
    ((j : ℕ) → Q j → is_among j (suc n ∷ path_within most parents (get_or parents n 0)) ≡ false → ends_now j s ≡ false) →
    ((t : State) → parents_of t.shoens ≡ parents → AreNumbered 0 t.shoens → ((j : ℕ) → Q j → is_among j (path_within most parents (get_or parents n 0)) ≡ false → ends_now j t ≡ false) →
    ends_now m (ended_each (ending_of (path_within most parents (get_or parents n 0)) t) t) ≡ false) →
    (c : Bool) → ends_now (suc n) s ≡ c →
    ends_now m (ended_each (if c then suc n ∷ ending_of (path_within most parents (get_or parents n 0)) (ended_at (suc n) s) else ending_of (path_within most parents (get_or parents n 0)) s) s) ≡ false
first_ended Q parents most n m s up is a f rest true e =
    let t = ended_at (suc n) s in
    let k = keeps_ended (suc n) s in
    rest t (k.parents ∙ is) (k.numbered 0 a) (λ j r aside. elim (cases_eq j (suc n)) [
      | inl same ↦ subst (λ (i : ℕ). ends_now i t ≡ false) (sym same) (not_lives (suc n) t (dead_at (suc n) s))
      | inr other ↦ rest_stays parents most n j s up is a aside (f j r (ap (λ b. b || is_among j (path_within most parents (get_or parents n 0))) (ne_eqb j (suc n) other) ∙ aside))
    ])
first_ended Q parents most n m s up is a f rest false e =
    rest s is a (λ j r aside. elim (cases_eq j (suc n)) [
      | inl same ↦ subst (λ (i : ℕ). ends_now i s ≡ false) (sym same) e
      | inr other ↦ f j r (ap (λ b. b || is_among j (path_within most parents (get_or parents n 0))) (ne_eqb j (suc n) other) ∙ aside)
    ])

-- if no shoen of which Q holds is due but on a path, none is due when those of the path that are due have ended
none_is_due : (Q : ℕ → Type 0) (parents : List ℕ) → ParentsAreLower parents → (most n : ℕ) → n ≤ most → (s : State) → parents_of s.shoens ≡ parents → AreNumbered 0 s.shoens →
    ((m : ℕ) → Q m → is_among m (path_within most parents n) ≡ false → ends_now m s ≡ false) → (m : ℕ) → Q m → ends_now m (ended_each (ending_of (path_within most parents n) s) s) ≡ false
unfolding path_within
none_is_due Q parents lower zero n few s is a f m q = f m q refl
none_is_due Q parents lower (suc most) zero few s is a f m q = f m q refl
none_is_due Q parents lower (suc most) (suc n) few s is a f m q =
    let up : get_or parents n 0 ≤ most = let low = lower n in omega (arith, low, few) in
    first_ended Q parents most n m s up is a f (λ t same b g. none_is_due Q parents lower most (get_or parents n 0) up t same b g m q) (ends_now (suc n) s) refl

ended_none_due : (Q : ℕ → Type 0) (n : ℕ) (s : State) → IsTree s → ((m : ℕ) → Q m → is_on_path s.shoens m n ≡ false → ends_now m s ≡ false) → (m : ℕ) → Q m → ends_now m (ended_each (ending_of (path s.shoens n) s) s) ≡ false
ended_none_due Q n s tree f m q = none_is_due Q (parents_of s.shoens) tree.lower n n (omega arith) s refl tree.numbered f m q

-- after terminations on a path no shoen of which Q holds is due, if none was but on the path
pub settle_none_due : (Q : ℕ → Type 0) (n : ℕ) (s : State) → IsTree s → ((m : ℕ) → Q m → is_on_path s.shoens m n ≡ false → ends_now m s ≡ false) → (m : ℕ) → Q m → ends_now m (settle n s) ≡ false
settle_none_due Q n s tree f m q = follows_due (ended_each (ending_of (path s.shoens n) s) s) (settle n s) (follows_settle n s) m ∙ ended_none_due Q n s tree f m q

pub settle_charged_none_due : (Q : ℕ → Type 0) (n : ℕ) (s : State) → IsTree s → ((m : ℕ) → Q m → is_on_path s.shoens m n ≡ false → ends_now m s ≡ false) → (m : ℕ) → Q m → ends_now m (after_reduction n s) ≡ false
settle_charged_none_due Q n s tree f m q =
    follows_due (ended_each (ending_of (path s.shoens n) s) s) (after_reduction n s) (follows_settle_charged n s) m ∙ ended_none_due Q n s tree f m q

-- ---- the laws

each_among : (P : ℕ → Type 0) (ns : List ℕ) → ((m : ℕ) → is_among m ns ≡ true → P m) → AllByRecursion P ns
each_among P [] f = tt
each_among P (n ∷ ns) f =
    (f n (ap (λ b. b || is_among n ns) (eq-eqb n n refl)), each_among P ns (λ m e. f m (ap (λ b. m == n || b) e ∙ or-true (m == n))))

-- of the shoens of a path none off it is due
none_off : (n : ℕ) (s : State) (m : ℕ) → is_on_path s.shoens m n ≡ true → is_on_path s.shoens m n ≡ false → ends_now m s ≡ false
none_off n s m on off = absurd (false≢true (sym off ∙ on))

pub none_is_left_due : NoneIsLeftDue
none_is_left_due n s tree =
    each_among (λ m. ends_now m (after_reduction n s) ≡ false) (path s.shoens n) (settle_charged_none_due (λ m. is_on_path s.shoens m n ≡ true) n s tree (none_off n s))

pub none_is_left_due_alone : NoneIsLeftDueAlone
none_is_left_due_alone n s tree =
    each_among (λ m. ends_now m (settle n s) ≡ false) (path s.shoens n) (settle_none_due (λ m. is_on_path s.shoens m n ≡ true) n s tree (none_off n s))

ended_goals : (ns : List ℕ) (s : State) (m : ℕ) → has_goal m (ended_each ns s) ≡ has_goal m s
ended_goals [] s m = refl
ended_goals (n ∷ ns) s m = ended_goals ns (ended_at n s) m

ended_children : (ns : List ℕ) (s : State) (m : ℕ) → has_living_child m (ended_each ns s) ≡ true → has_living_child m s ≡ true
ended_children [] s m e = e
ended_children (n ∷ ns) s m e = was_child_at n m s (ended_children ns (ended_at n s) m e)

dies_case : (l' l g' g c' c : Bool) → g' ≡ g → (c' ≡ true → c ≡ true) → (l && not g && not c) ≡ true → (l' && not g' && not c') ≡ false → l' ≡ false
dies_case false l g' g c' c p q e f = refl
dies_case true true false false false false p q e f = f
dies_case true true false false true false p q e f = sym (q refl)
dies_case true true true false c' false p q e f = p
dies_case true true g' true c' c p q e f = absurd (false≢true e)
dies_case true true g' false c' true p q e f = absurd (false≢true e)
dies_case true false g' g c' c p q e f = absurd (false≢true e)

-- a shoen that was due, and isn't any more when others have ended, has ended
dies : (s t : State) (ns : List ℕ) → Follows (ended_each ns s) t → (m : ℕ) → ends_now m s ≡ true → ends_now m t ≡ false → lives m t ≡ false
dies s t ns k m e f =
    dies_case (lives m t) (lives m s) (has_goal m t) (has_goal m s) (has_living_child m t) (has_living_child m s) (k.goals m ∙ ended_goals ns s m)
    (λ c. ended_children ns s m (child_by m (ended_each ns s) ∙ sym (ap (λ ms. has_child ms m) k.nodes) ∙ sym (child_by m t) ∙ c)) e f

pub due_terminate : DueTerminate
due_terminate n m s tree on due =
    dies s (after_reduction n s) (ending_of (path s.shoens n) s) (follows_settle_charged n s) m due (settle_charged_none_due (λ k. is_on_path s.shoens k n ≡ true) n s tree (none_off n s) m on)

pub due_terminate_alone : DueTerminateAlone
due_terminate_alone n m s tree on due =
    dies s (settle n s) (ending_of (path s.shoens n) s) (follows_settle n s) m due (settle_none_due (λ k. is_on_path s.shoens k n ≡ true) n s tree (none_off n s) m on)

due_case : (c : Bool) (n : ℕ) (ns : List ℕ) (s : State) → ends_now n s ≡ c → AreDue (ending_of ns (ended_at n s)) (ended_at n s) → AreDue (ending_of ns s) s → AreDue (if c then n ∷ ending_of ns (ended_at n s) else ending_of ns s) s
due_case true n ns s e p q =
    let parts = and_parts (lives n s && not (has_goal n s)) (not (has_living_child n s)) e in
    let both = and_parts (lives n s) (not (has_goal n s)) parts.0 in
    (both.0, not-true (has_goal n s) both.1, not-true (has_living_child n s) parts.1, p)
due_case false n ns s e p q = q

pub ending_are_due : EndingAreDue
ending_are_due [] s = tt
ending_are_due (n ∷ ns) s = due_case (ends_now n s) n ns s refl (ending_are_due ns (ended_at n s)) (ending_are_due ns s)
