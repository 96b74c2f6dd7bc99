-- Goals of a machine that are looked at, each by its number.
use Rattle.kl1_machine.proofs.Words.{◌≡◌, ℕ, suc, ◌≤◌, ◌==◌, Bool, false, if◌then◌else◌, List, [], ◌∷◌, length, map, refl, sym, ap, ◌∙◌, arith, subst, Some, None, find, AllByRecursion, ne_eqb, eq-eqb, eqb-true, eqb-false, cases_eq, CellName, Kept, HasGrown, HasGrown-same, HasGrown-trans, grown_among, Goal, Standing, Waits, number_of, Ascend, AreInOrder, Program, Reading, IsTaskIn, IsOwned, IsSettled, Machine, IsMachine, ready_at, IsReadyAt, unready, unlooked, Looks, AreSettledBut, settled_more, inl, inr, cases_Bool, all_then}
use Rattle.kl1_goals.specs.Lists.{has_number}
use Rattle.kl1_machine.proofs.Sincing.{each_both}

-- ---- what holds of each goal

pub each_changed : (P Q R : Goal CellName → Type 0) (F : Goal CellName → Goal CellName) (gs : List (Goal CellName)) → ((g : Goal CellName) → P g → Q g → R (F g)) → AllByRecursion P gs → AllByRecursion Q gs → AllByRecursion R (map F gs)
each_changed P Q R F [] f p q = tt
each_changed P Q R F (g ∷ gs) f p q = (f g p.0 q.0, each_changed P Q R F gs f p.1 q.1)

-- what holds of goals however they stand, and whether they may step or not, holds of them when they were looked at
pub looked_hold : (P : Goal CellName → Type 0) → ((g : Goal CellName) (s : Standing) (b : Bool) → P g → P (record g { standing = s; is_enabled = b })) → (after before : List (Goal CellName)) → map unlooked after ≡ map unlooked before → AllByRecursion P before → AllByRecursion P after
looked_hold P all [] before e h = tt
looked_hold P all (a ∷ after) [] e h = absurd (cc)
looked_hold P all (a ∷ after) (b ∷ before) e h =
    let first : unlooked a ≡ unlooked b = cc in
    let rest : map unlooked after ≡ map unlooked before = cc in
    (all (unlooked a) a.standing a.is_enabled (subst P (sym first) (all b Waits false h.0)), looked_hold P all after before rest h.1)

-- what holds of them however they stand holds of them when only those were looked at
pub unready_hold : (P : Goal CellName → Type 0) → ((g : Goal CellName) (s : Standing) → P g → P (record g { standing = s })) → (after before : List (Goal CellName)) → map unready after ≡ map unready before → AllByRecursion P before → AllByRecursion P after
unready_hold P all [] before e h = tt
unready_hold P all (a ∷ after) [] e h = absurd (cc)
unready_hold P all (a ∷ after) (b ∷ before) e h =
    let first : unready a ≡ unready b = cc in
    let rest : map unready after ≡ map unready before = cc in
    (all (unready a) a.standing (subst P (sym first) (all b Waits h.0)), unready_hold P all after before rest h.1)

-- ---- goals by their numbers

pub same_goal : (a b : Goal CellName) → Some a ≡ Some b → a ≡ b
same_goal a b e = cc

pub above_from : (from : ℕ) (gs : List (Goal CellName)) → Ascend from (map number_of gs) → AllByRecursion (λ g. from ≤ g.number) gs
above_from from [] up = tt
above_from from (g ∷ gs) up = (up.0, all_then (λ (k : Goal CellName). suc g.number ≤ k.number) (λ k. from ≤ k.number) (λ k le. let a = up.0 in omega (arith, a, le)) gs (above_from (suc g.number) gs up.1))

-- a goal of a number is of this one's shoen, and has its task
abbrev pub IsFor : ℕ → Goal CellName → Goal CellName → Type 0
IsFor n goal g = g.number ≡ n → (g.shoen ≡ goal.shoen) × (g.task ≡ goal.task)

-- goals numbered as the one that is found are of its shoen, and have its task
pub one_of : (n from : ℕ) (gs : List (Goal CellName)) (goal : Goal CellName) → Ascend from (map number_of gs) → Some goal ≡ find (has_number n) gs → AllByRecursion (IsFor n goal) gs
one_of n from [] goal up e = tt
one_of n from (g ∷ gs) goal up e = elim (cases_Bool (g.number == n)) [
  | inl is ↦
      let s = same_goal goal g (rw is at e) in
      let number = eqb-true g.number n is in (
        (λ q. (ap (λ (a : Goal CellName). a.shoen) (sym s), ap (λ (a : Goal CellName). a.task) (sym s))),
        all_then (λ (a : Goal CellName). suc g.number ≤ a.number) (IsFor n goal) (λ a le q. absurd (omega (arith, le, q, number))) gs (above_from (suc g.number) gs up.1),
      )
  | inr is ↦ ((λ q. absurd (eqb-false g.number n is q)), one_of n (suc g.number) gs goal up.1 (rw is at e))
]

-- no goal has a number that isn't found
pub none_of : (n : ℕ) (gs : List (Goal CellName)) → None ≡ find (has_number n) gs → AllByRecursion (λ g. g.number ≡ n → ⊥) gs
none_of n [] e = tt
none_of n (g ∷ gs) e = elim (cases_Bool (g.number == n)) [
  | inl is ↦ let found : None ≡ Some g = rw is at e in absurd (cc)
  | inr is ↦ (eqb-false g.number n is, none_of n gs (rw is at e))
]

-- what holds of goals holds of one that is found
pub found_holds : (P : Goal CellName → Type 0) (p : Goal CellName → Bool) (gs : List (Goal CellName)) (goal : Goal CellName) → AllByRecursion P gs → Some goal ≡ find p gs → P goal
found_holds P p [] goal a e = absurd (cc)
found_holds P p (g ∷ gs) goal a e = elim (cases_Bool (p g)) [
  | inl is ↦ rw (same_goal goal g (rw is at e)) a.0
  | inr is ↦ found_holds P p gs goal a.1 (rw is at e)
]

-- ---- one look after another

pub looks_same : (m : Machine) → Looks m m
looks_same m = record { goals = refl; held = refl; grown = HasGrown-same m.store; rest = refl }

pub looks_then : (m n o : Machine) → Looks m n → Looks n o → Looks m o
looks_then m n o p q = record {
  goals = q.goals ∙ p.goals;
  held = q.held ∙ p.held;
  grown = HasGrown-trans m.store n.store o.store p.grown q.grown;
  rest = q.rest ∙ ap (λ (x : Machine). let z : Machine = record x { store = o.store; goals = record x.goals { goals = o.goals.goals } } in z) p.rest;
}

-- a machine whose goals were looked at is one
pub looks_machine : (m n : Machine) → Looks m n → IsMachine m → IsMachine n
looks_machine m n l i =
    let w = i.inside in
    rw l.rest (record {
      inside = rw l.held (record {
        some = w.some;
        goals = looked_hold (λ g. IsTaskIn m.store.held g.task) (λ g o b p. p) n.goals.goals m.goals.goals l.goals w.goals;
        shoens = w.shoens;
        owned = looked_hold (IsOwned (length m.shoens.shoens)) (λ g o b p. record { low = p.low; high = p.high }) n.goals.goals m.goals.goals l.goals w.owned;
      });
      last = looked_hold (λ g. g.number ≤ m.counts.last_goal) (λ g o b p. p) n.goals.goals m.goals.goals l.goals i.last;
      placed = i.placed;
      known = i.known;
    })

-- ---- one goal is settled, and all others are as they were

-- the goal with the number of `x`, which is like it, was looked at, and others were settled: each is settled in a store on which more hangs
pub one_settled : (f : Reading) (program : Program) (m : Machine) (k : Kept CellName) (x : Goal CellName) (o : Standing) → HasGrown m.store k → IsSettled f k.hooks m.store.held program m.shoens.shoens (ready_at x.number x.shoen x.task o) →
    (g : Goal CellName) (b : Bool) → IsFor x.number x g → ((g.number ≡ x.number → ⊥) → IsSettled f m.store.hooks m.store.held program m.shoens.shoens g) →
    IsSettled f k.hooks m.store.held program m.shoens.shoens (record g { standing = if g.number == x.number then o else g.standing; is_enabled = b })
one_settled f program m k x o up found g b is was = elim (cases_eq g.number x.number) [
  | inl same ↦
      let s : IsSettled f k.hooks m.store.held program m.shoens.shoens (ready_at g.number g.shoen g.task o) = rw (← same, ← (is same).0, ← (is same).1) at found in
      rw (eq-eqb g.number x.number same) (record { standing = s.standing; does = s.does; hung = s.hung })
  | inr other ↦
      let s = settled_more f m.store.hooks k.hooks m.store.held program m.shoens.shoens g (grown_among m.store k up) (was other) in
      rw (ne_eqb g.number x.number other) (record { standing = s.standing; does = s.does; hung = s.hung })
]

-- goal `n` of a machine is found, and stands so, in a store that holds the same and on which more hangs
pub record IsLook (program : Program) (m : Machine) (k : Kept CellName) (n : ℕ) (goal : Goal CellName) (o : Standing) : Type 0 where
  pub order : AreInOrder m.goals.goals
  pub found : Some goal ≡ find (has_number n) m.goals.goals
  pub number : goal.number ≡ n
  pub held : k.held ≡ m.store.held
  pub grown : HasGrown m.store k
  pub ready : IsReadyAt program m.shoens.shoens m.store.held k.hooks goal.number goal.shoen goal.task o

pub look_ready : (program : Program) (m : Machine) (k : Kept CellName) (n : ℕ) (goal : Goal CellName) (o : Standing) → IsLook program m k n goal o → IsReadyAt program m.shoens.shoens m.store.held k.hooks n goal.shoen goal.task o
look_ready program m k n goal o look = let R : ℕ → Type 0 = λ i. IsReadyAt program m.shoens.shoens m.store.held k.hooks i goal.shoen goal.task o in subst R look.number look.ready

-- goals that are settled but for those of some numbers are so but for those of more
pub settled_but_more : (f : Reading) (program : Program) (m : Machine) (r q : ℕ → Bool) → ((k : ℕ) → q k ≡ false → r k ≡ false) → AreSettledBut r f program m → AreSettledBut q f program m
settled_but_more f program m r q less all =
    all_then (λ (g : Goal CellName). r g.number ≡ false → IsSettled f m.store.hooks m.store.held program m.shoens.shoens g) (λ g. q g.number ≡ false → IsSettled f m.store.hooks m.store.held program m.shoens.shoens g) (λ g s e. s (less g.number e)) m.goals.goals all

-- if none has the number, the same but for it
pub settled_but_none : (f : Reading) (program : Program) (m : Machine) (n : ℕ) (r q : ℕ → Bool) → None ≡ find (has_number n) m.goals.goals → ((k : ℕ) → q k ≡ false → (k ≡ n → ⊥) → r k ≡ false) → AreSettledBut r f program m → AreSettledBut q f program m
settled_but_none f program m n r q none others all =
    each_both (λ g. g.number ≡ n → ⊥) (λ g. r g.number ≡ false → IsSettled f m.store.hooks m.store.held program m.shoens.shoens g) (λ g. q g.number ≡ false → IsSettled f m.store.hooks m.store.held program m.shoens.shoens g) (λ g other s e. s (others g.number e other))
    m.goals.goals (none_of n m.goals.goals none) all
