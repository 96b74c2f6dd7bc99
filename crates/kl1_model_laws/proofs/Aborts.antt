-- An abort leaves no shoen due but on its path.
use Rattle.std.proofs.Common.{◌≡◌, inl, inr, ℕ, zero, suc, ◌+◌, ◌==◌, ◌||◌, not, ◌&&◌, Bool, true, false, if◌then◌else◌, List, [], ◌∷◌, refl, sym, ap, ap₂, ◌∙◌, arith}
use Rattle.std.specs.Prelude.{map, filter, get_or}
use Rattle.std.specs.List.{AllByRecursion}
use Rattle.std.proofs.Math.Bool.{or-true}
use Rattle.std.proofs.lemmas.Bool.{false≢true, eqb-true, ne_eqb, cases_Bool, or_cases}
use Rattle.kl1_model.specs.declared.rules.Rules.{Rules}
use Rattle.kl1_model.specs.declared.life.Life.TheVariants.{Aborted}
use Rattle.kl1_model.specs.Module.{is_among}
use Rattle.kl1_model.specs.State.{Shoen, State, is_living}
use Rattle.kl1_model.specs.Tree.{parents_of, path, is_on_path}
use Rattle.kl1_model.specs.Report.{aborted_report}
use Rattle.kl1_model.specs.Ending.{has_goal, has_living_child, lives, ends_now, ended_below, abort, ended_as}
use Rattle.kl1_model.specs.code.Steps.{aborted_below}
use Rattle.kl1_model.specs.laws.TreeLaws.{AreNumbered, IsTree}
use Rattle.kl1_model.proofs.TreeKeeps.{keeps_abort}
use Rattle.kl1_model.proofs.TreeGrows.{paths_go_on}
use Rattle.kl1_model_laws.proofs.Alike.{Node, node_of, nodes_of, Duty, duties_of, alike_closing, lives_in, has_duty, has_child, lives_by, goal_by, child_by}
use Rattle.kl1_model_laws.proofs.Duties.{filtered}
use Rattle.kl1_model_laws.proofs.Endings.{Idle, Stays, not_due, stays_alike, zero_not_due, path_begins}

-- a node after those that a test names were aborted
abbrev aborted_node : (ℕ → Bool) → Node → Node
aborted_node below m = if is_living m.life && below m.number then record m { life = Aborted } else m

aborted_nodes : (rules : Rules) (all : List Shoen) (n : ℕ) (hs : List Shoen) → nodes_of (map (aborted_below rules all n) hs) ≡ map (aborted_node (is_on_path all n)) (nodes_of hs)
aborted_nodes rules all n [] = refl
aborted_nodes rules all n (h ∷ hs) = ap₂ (λ (m : Node) (ms : List Node). m ∷ ms) (by_test (is_living h.life && is_on_path all n h.number) h) (aborted_nodes rules all n hs)
  where
    by_test : (c : Bool) (h : Shoen) → node_of (if c then ended_as rules Aborted h else h) ≡ (if c then record (node_of h) { life = Aborted } else node_of h)
    by_test true h = refl
    by_test false h = refl

-- whether a node lives after that
after_life : (c : Bool) (m : Node) → is_living (if is_living m.life && c then record m { life = Aborted } else m).life ≡ (is_living m.life && not c)
after_life c m = by_both (is_living m.life) c m refl
  where
    by_both : (b c : Bool) (m : Node) → is_living m.life ≡ b → is_living (if b && c then record m { life = Aborted } else m).life ≡ (b && not c)
    by_both true true m e = refl
    by_both true false m e = e
    by_both false c m e = e

after_number : (c : Bool) (m : Node) → (if c then record m { life = Aborted } else m).number ≡ m.number
after_number true m = refl
after_number false m = refl

after_parent : (c : Bool) (m : Node) → (if c then record m { life = Aborted } else m).parent ≡ m.parent
after_parent true m = refl
after_parent false m = refl

kill_case : (d : Bool) (below : ℕ → Bool) (m : Node) (k : ℕ) (x y : Bool) → m.number == k ≡ d → x ≡ (y && not (below k)) →
    (if d then (is_living m.life && not (below m.number)) else x) ≡ ((if d then is_living m.life else y) && not (below k))
kill_case true below m k x y e f = ap (λ (j : ℕ). is_living m.life && not (below j)) (eqb-true m.number k e)
kill_case false below m k x y e f = f

-- those live after an abort that lived and aren't below
killed : (below : ℕ → Bool) (k : ℕ) (ms : List Node) → lives_in (map (aborted_node below) ms) k ≡ (lives_in ms k && not (below k))
killed below k [] = refl
killed below k (m ∷ ms) =
    ap₂ (λ (j : ℕ) (b : Bool). if j == k then b else lives_in (map (aborted_node below) ms) k) (after_number (is_living m.life && below m.number) m) (after_life (below m.number) m)
    ∙ kill_case (m.number == k) below m k (lives_in (map (aborted_node below) ms) k) (lives_in ms k) refl (killed below k ms)

spared_case : (d : Bool) (below : ℕ → Bool) (p : ℕ) (m : Node) → m.parent == p ≡ d → (m.parent ≡ p → below m.number ≡ true → ⊥) → (d && (is_living m.life && not (below m.number))) ≡ (d && is_living m.life)
spared_case true below p m e f = by_test (below m.number) (is_living m.life) (f (eqb-true m.parent p e))
  where
    by_test : (c x : Bool) → (c ≡ true → ⊥) → (x && not c) ≡ x
    by_test true x g = absurd (g refl)
    by_test false true g = refl
    by_test false false g = refl
spared_case false below p m e f = refl

-- children that aren't below stay
spared : (below : ℕ → Bool) (p : ℕ) (ms : List Node) → AllByRecursion (λ (m : Node). m.parent ≡ p → below m.number ≡ true → ⊥) ms → has_child (map (aborted_node below) ms) p ≡ has_child ms p
spared below p [] a = refl
spared below p (m ∷ ms) a = ap₂ (λ x y. x || y)
    (ap₂ (λ (j : ℕ) (b : Bool). j == p && b) (after_parent (is_living m.life && below m.number) m) (after_life (below m.number) m) ∙ spared_case (m.parent == p) below p m refl a.0)
    (spared below p ms a.1)

away_case : (c : Bool) (below : ℕ → Bool) (m : ℕ) (d : Duty) (ds es : List Duty) → below d.shoen ≡ c → below m ≡ false → has_duty es m ≡ has_duty ds m → has_duty (if not c then d ∷ es else es) m ≡ has_duty (d ∷ ds) m
away_case true below m d ds es e f q =
    q ∙ sym (ap (λ b. b && not d.is_monitor || has_duty ds m) (ne_eqb d.shoen m (λ same. false≢true (sym f ∙ ap below (sym same) ∙ e))))
away_case false below m d ds es e f q = ap (λ b. d.shoen == m && not d.is_monitor || b) q

-- goals that aren't below stay
away : (below : ℕ → Bool) (m : ℕ) (ds : List Duty) → below m ≡ false → has_duty (filter (λ d. not (below d.shoen)) ds) m ≡ has_duty ds m
away below m [] e = refl
away below m (d ∷ ds) e = away_case (below d.shoen) below m d ds (filter (λ d. not (below d.shoen)) ds) refl e (away below m ds e)

-- a child of a shoen that is neither below nor on the path of one that is aborted isn't below that
aside : (b n p : ℕ) (all hs : List Shoen) → AreNumbered b hs → ((k : ℕ) → get_or (parents_of hs) k 0 ≡ p → is_on_path all n (suc (b + k)) ≡ true → ⊥) → AllByRecursion (λ (m : Node). m.parent ≡ p → is_on_path all n m.number ≡ true → ⊥) (nodes_of hs)
aside b n p all [] a f = tt
aside b n p all (h ∷ hs) a f = (
  λ is below. f 0 is (ap (is_on_path all n) (let x = a.0 in let e : suc (b + 0) ≡ h.number = omega (arith, x) in e) ∙ below),
  aside (suc b) n p all hs a.1 (λ k is below. f (suc k) is (ap (is_on_path all n) (let e : suc (b + suc k) ≡ suc (suc b + k) = omega arith in e) ∙ below)),
)

aside_at : (s : State) (n p k : ℕ) → IsTree s → is_on_path s.shoens n (suc p) ≡ false → is_on_path s.shoens (suc p) n ≡ false → get_or (parents_of s.shoens) k 0 ≡ suc p → is_on_path s.shoens n (suc (0 + k)) ≡ true → ⊥
aside_at s n p k tree not_below off is below =
    let number : suc (0 + k) ≡ suc k = omega arith in
    let longer = paths_go_on s.shoens k tree.lower ∙ ap (λ (q : ℕ). suc k ∷ path s.shoens q) is in
    let on = sym (ap (is_among n) (ap (path s.shoens) number ∙ longer)) ∙ below in
    elim (or_cases (n == suc k) (is_among n (path s.shoens (suc p))) on) [
      | inl same ↦
          let at = eqb-true n (suc k) same in
          let own = path_begins (parents_of s.shoens) (suc p) p (omega arith) in
          let up = ap (is_among (suc p)) (ap (path s.shoens) at ∙ longer) ∙ ap (λ b. suc p == suc k || b) own ∙ or-true (suc p == suc k) in
          false≢true (sym off ∙ up)
      | inr there ↦ false≢true (sym not_below ∙ there)
    ]

dead_case : (c l x y : Bool) → c ≡ true → (l && not c) && x && y ≡ false
dead_case c l x y e = ap (λ b. (l && not b) && x && y) e ∙ by_life l
  where
    by_life : (l : Bool) → ((l && not true) && x && y) ≡ false
    by_life true = refl
    by_life false = refl

lives_after : (n m : ℕ) (s : State) → lives m (ended_below n s) ≡ (lives m s && not (is_on_path s.shoens n m))
lives_after n m s =
    lives_by m (ended_below n s) ∙ ap (λ ms. lives_in ms m) (aborted_nodes s.rules s.shoens n s.shoens) ∙ killed (is_on_path s.shoens n) m (nodes_of s.shoens)
    ∙ ap (λ b. b && not (is_on_path s.shoens n m)) (sym (lives_by m s))

below_stays : (n p : ℕ) (s : State) → IsTree s → is_on_path s.shoens n (suc p) ≡ false → is_on_path s.shoens (suc p) n ≡ false → Stays s (ended_below n s) (suc p)
below_stays n p s tree not_below off = record {
  lives = λ e. was (lives (suc p) s) (is_on_path s.shoens n (suc p)) (sym (lives_after n (suc p) s) ∙ e);
  goals = λ e. goal_by (suc p) (ended_below n s) ∙ ap (λ ds. has_duty ds (suc p)) (filtered (λ d. not (is_on_path s.shoens n d.shoen)) s.goals)
      ∙ away (is_on_path s.shoens n) (suc p) (duties_of s.goals) not_below ∙ sym (goal_by (suc p) s) ∙ e;
  children = λ e. child_by (suc p) (ended_below n s) ∙ ap (λ ms. has_child ms (suc p)) (aborted_nodes s.rules s.shoens n s.shoens)
      ∙ spared (is_on_path s.shoens n) (suc p) (nodes_of s.shoens) (aside 0 n (suc p) s.shoens s.shoens tree.numbered (λ k is below. aside_at s n p k tree not_below off is below)) ∙ sym (child_by (suc p) s) ∙ e;
}
  where
    was : (x c : Bool) → (x && not c) ≡ true → x ≡ true
    was true c e = refl
    was false c e = e

-- an abort leaves no shoen due but on the path of the one that is aborted
pub abort_idle : (n m : ℕ) (s : State) → IsTree s → Idle s → is_on_path s.shoens m n ≡ false → ends_now m (abort n s) ≡ false
abort_idle n zero s tree idle off = zero_not_due (abort n s) ((keeps_abort n s).numbered 0 tree.numbered)
abort_idle n (suc p) s tree idle off =
    let t = ended_below n s in
    not_due t (abort n s) (suc p) (stays_alike t (abort n s) (alike_closing n aborted_report t) (suc p))
    (elim (cases_Bool (is_on_path s.shoens n (suc p))) [
      | inl below ↦ ap (λ b. b && not (has_goal (suc p) t) && not (has_living_child (suc p) t)) (lives_after n (suc p) s) ∙ dead_case (is_on_path s.shoens n (suc p)) (lives (suc p) s) (not (has_goal (suc p) t)) (not (has_living_child (suc p) t)) below
      | inr not_below ↦ not_due s t (suc p) (below_stays n p s tree not_below off) (idle (suc p))
    ])
