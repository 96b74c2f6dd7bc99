-- Shoens that open, with their monitors and goals, and the children that goals open.
use Rattle.kl1_machine.proofs.Words.{◌≡◌, ℕ, suc, ◌-◌, ◌<◌, ◌==◌, ◌&&◌, ◌||◌, Bool, true, false, if◌then◌else◌, List, [], ◌∷◌, ◌++◌, length, map, length-append, refl, sym, ap, ◌∙◌, subst, arith, nat_lt, find, Option, Some, list_any, ne_eqb, map-append, MONITOR_PRIORITY, number_of_term, State, limits_of, report, exhaustion, started_report, exhausted_report, clipped_to, open_child, clipped, opens, or_exhaustion, raised, moved, CellName, Cell, Qualified, ExecuteArguments, order_at, IsOrder, Monitor, Reduces, Goal, is_monitor, is_monitor_of, Shoen, has_number, path_in, Reading, meaning, goal_with, shoen_with, aim, whole, AreOwned, worked, finds, path_read, child_of, Machine, made, IsMachine, goal_at, with_goal, with_shoen, Becomes, Puts, TurnsAs, JoinsAs, OpensAs, OpensChild}
use Rattle.std.proofs.lemmas.List.{append_assoc}
use Rattle.kl1_model.specs.State as model
use Rattle.kl1_model.specs.Opening as opening
use Rattle.kl1_machine.proofs.Ending.{as_then, as_same}

-- ---- a shoen that joins

-- no goal of other shoens is the monitor of this one
pub no_monitor : (count n : ℕ) (gs : List (Goal CellName)) → count < n → AreOwned count gs → list_any (is_monitor_of n) gs ≡ false
no_monitor count n [] lt o = refl
no_monitor count n (g ∷ gs) lt o =
    let high = o.0.high in
    ap (λ b. (b && is_monitor g) || list_any (is_monitor_of n) gs) (ne_eqb g.shoen n (λ e. omega (arith, e, high, lt)))
    ∙ no_monitor count n gs lt o.1

-- the monitor of a shoen, and its goal, which is a cell
abbrev pub monitor_for : ℕ → Shoen CellName → Goal CellName
monitor_for last h = goal_at (suc last) h.number MONITOR_PRIORITY Monitor

abbrev pub goal_for : ℕ → Shoen CellName → Cell CellName → Goal CellName
goal_for last h x = goal_at (suc last) h.number h.high (Reduces (whole x))

-- a machine with a shoen more, its monitor and its goal
abbrev pub with_opened : Shoen CellName → Cell CellName → ℕ → Machine → Machine
with_opened h x room m = with_goal (goal_for (suc m.counts.last_goal) h x) (with_goal (monitor_for m.counts.last_goal h) (with_shoen h room m))

-- one shoen more is there
pub one_more : (h : Shoen CellName) (room : ℕ) (m u : Machine) → Becomes (with_shoen h room m) u → length u.shoens.shoens ≡ suc (length m.shoens.shoens)
one_more h room m u b = ap (λ (y : Machine). length y.shoens.shoens) b.is ∙ length-append m.shoens.shoens (h ∷ []) ∙ omega arith

-- a shoen was taken in, then its monitor, and then its goal
pub record Joins (h : Shoen CellName) (x : Cell CellName) (room : ℕ) (m u v w : Machine) : Type 0 where
  pub number : h.number ≡ suc (length m.shoens.shoens)
  pub taken : Becomes (with_shoen h room m) u
  pub monitor : Puts h.number MONITOR_PRIORITY Monitor u v
  pub goal : Puts h.number h.high (Reduces (whole x)) v w

pub joined_is : (h : Shoen CellName) (x : Cell CellName) (room : ℕ) (m u v w : Machine) → Joins h x room m u v w → w ≡ with_opened h x room m
joined_is h x room m u v w j =
    let F : Machine → Machine = λ y. with_goal (monitor_for y.counts.last_goal h) y in
    let G : Machine → Machine = λ y. with_goal (goal_for y.counts.last_goal h x) y in
    j.goal.is ∙ ap G j.monitor.is ∙ ap (λ y. G (F y)) j.taken.is

pub joined : (h : Shoen CellName) (x : Cell CellName) (room : ℕ) (m u v w : Machine) → Joins h x room m u v w → JoinsAs h x m w
joined h x room m u v w j =
    let P : Machine → Type 0 = λ y. IsMachine y → JoinsAs h x m y in
    subst P (sym (joined_is h x room m u v w j))
    (λ machine. record {
      turns = λ ms. record {
        inside = machine.inside;
        states = λ f knows s.
            let t = meaning f m.store.held in
            let S = worked f s m.store.held (made m) in
            let gs = m.goals.goals in
            let hs = m.shoens.shoens in
            let last = m.counts.last_goal in
            let first = monitor_for last h in
            let second = goal_for (suc last) h x in
            let count : length (hs ++ h ∷ []) ≡ suc (length hs) = length-append hs (h ∷ []) ∙ omega arith in
            let Z : List model.Goal → List model.Shoen → ℕ → State = λ xs ys c. record S { goals = xs; shoens = ys; last_goal = suc (suc last); last_shoen = c } in
            ap (λ xs. Z xs (S.shoens ++ shoen_with t h ∷ []) h.number) (sym (map-append (goal_with t) gs (first ∷ second ∷ [])))
            ∙ ap (λ (xs : List (Goal CellName)). Z (map (goal_with t) xs) (S.shoens ++ shoen_with t h ∷ []) h.number) (sym (append_assoc gs (first ∷ []) (second ∷ [])))
            ∙ ap (λ ys. Z (map (goal_with t) ((gs ++ first ∷ []) ++ second ∷ [])) ys h.number) (sym (map-append (shoen_with t) hs (h ∷ [])))
            ∙ ap (λ c. Z (map (goal_with t) ((gs ++ first ∷ []) ++ second ∷ [])) (map (shoen_with t) (hs ++ h ∷ [])) c) (j.number ∙ sym count);
      };
      machine = machine;
      named = record { name = refl; spelled = refl };
    })
    j.goal.machine

-- ---- a shoen that opens

-- a shoen has joined, and then this was done: it has opened, if that is what its allowance asks for
pub opened : (h : Shoen CellName) (x : Cell CellName) (m u v : Machine) (b : Bool) → (h.allowance == 0) ≡ b → JoinsAs h x m u →
    TurnsAs (λ f s. let said = report h.number started_report s in if b then report h.number exhausted_report said else said) u v → OpensAs h x m v
opened h x m u v b is p q =
    let after : Bool → State → State = λ c s. (let said = report h.number started_report s in if c then report h.number exhausted_report said else said) in
    let change : Reading → State → State = λ f. opening.with_shoen (shoen_with (meaning f m.store.held) h) (meaning f m.store.held x) in
    as_same (λ f s. after b (change f s)) (λ f. opening.open_shoen (shoen_with (meaning f m.store.held) h) (meaning f m.store.held x)) m v (λ f s. ap (λ c. after c (change f (worked f s m.store.held (made m)))) is) (as_then change (λ f. after b) m u v p q)

-- ---- children

-- whether a shoen may open a child
abbrev pub has_room_in : Machine → ℕ → Bool
has_room_in m parent = nat_lt (length m.shoens.shoens) (limits_of m.rules).shoens && nat_lt (length (path_in m.shoens.shoens parent)) (limits_of m.rules).depth

-- a goal of a shoen that may open no child
pub child_refused : (s : ℕ) (goal : Goal CellName) (x : Qualified CellName) (m n : Machine) → has_room_in m goal.shoen ≡ false → TurnsAs (λ f. raised (goal_with (meaning f m.store.held) goal) exhaustion (aim f m.store.held x)) m n → OpensChild s goal x m n
child_refused s goal x m n full a = record {
  turns = λ o order. (as_same (λ f. raised (goal_with (meaning f m.store.held) goal) exhaustion (aim f m.store.held x)) (λ f. moved (goal_with (meaning f m.store.held) goal) (aim f m.store.held x) (opens (order_at f m.store.held o))) m n
      (λ f z.
      let S = worked f z m.store.held (made m) in
      let G = goal_with (meaning f m.store.held) goal in
      let A = aim f m.store.held x in
      let O = order_at f m.store.held o in
      ap (λ (ns : List ℕ). or_exhaustion (nat_lt (length m.shoens.shoens) (limits_of m.rules).shoens && nat_lt (length ns) (limits_of m.rules).depth) G A (open_child S goal.shoen O) S) (path_read (meaning f m.store.held) m.shoens.shoens goal.shoen)
      ∙ ap (λ b. or_exhaustion b G A (open_child S goal.shoen O) S) full)
      a).turns;
  machine = a.machine;
  named = a.named;
}

-- a child is told by what a goal's arguments say, clipped to the range of the shoen that it is opened in
pub record IsChild (s : ℕ) (goal : Goal CellName) (m : Machine) (parent : Shoen CellName) (o : ExecuteArguments CellName) (h : Shoen CellName) : Type 0 where
  pub room : has_room_in m goal.shoen ≡ true
  pub there : find (has_number goal.shoen) m.shoens.shoens ≡ Some parent
  pub allowance : (f : Reading) → h.allowance ≡ number_of_term (meaning f m.store.held o.allowance)
  pub low : (f : Reading) → h.low ≡ clipped parent.low parent.high (number_of_term (meaning f m.store.held o.low))
  pub high : (f : Reading) → h.high ≡ clipped parent.low parent.high (number_of_term (meaning f m.store.held o.high))
  pub is : h ≡ child_of m.shoens.shoens goal o h.allowance h.low h.high
  pub one : (p : ExecuteArguments CellName) → IsOrder m.store.held s p → p ≡ o

-- a child that is opened
pub child_opened : (s : ℕ) (goal : Goal CellName) (x : Qualified CellName) (m n : Machine) (parent : Shoen CellName) (o : ExecuteArguments CellName) (h : Shoen CellName) → IsChild s goal m parent o h → OpensAs h o.goal m n → OpensChild s goal x m n
child_opened s goal x m n parent o h c opened = record {
  turns = λ p order. (as_same (λ f. opening.open_shoen (shoen_with (meaning f m.store.held) h) (meaning f m.store.held o.goal)) (λ f. moved (goal_with (meaning f m.store.held) goal) (aim f m.store.held x) (opens (order_at f m.store.held p))) m n
      (λ f z.
      let t = meaning f m.store.held in
      let S = worked f z m.store.held (made m) in
      let O = order_at f m.store.held o in
      let G = goal_with t goal in
      let A = aim f m.store.held x in
      let hs = m.shoens.shoens in
      let most = limits_of m.rules in
      let child : Option model.Shoen → model.Shoen = λ y. record (shoen_with t (child_of hs goal o (number_of_term (t o.allowance)) 0 0)) { low = clipped_to y (number_of_term (t o.low)); high = clipped_to y (number_of_term (t o.high)) } in
      let kept : ℕ → ℕ → ℕ → State = λ n l k. opening.open_shoen (shoen_with t (child_of hs goal o n l k)) (t o.goal) S in
      ap (λ (y : ExecuteArguments CellName). moved G A (opens (order_at f m.store.held y)) S) (c.one p order)
      ∙ ap (λ (ns : List ℕ). or_exhaustion (nat_lt (length hs) most.shoens && nat_lt (length ns) most.depth) G A (open_child S goal.shoen O) S) (path_read t hs goal.shoen)
      ∙ ap (λ y. or_exhaustion y G A (open_child S goal.shoen O) S) c.room
      ∙ ap (λ (y : Option model.Shoen). opening.open_shoen (child y) (t o.goal) S) (finds z t (m.store.held.variables - 1) (made m) goal.shoen (Some parent) c.there)
      ∙ ap (λ n. kept n (clipped parent.low parent.high (number_of_term (t o.low))) (clipped parent.low parent.high (number_of_term (t o.high)))) (sym (c.allowance f))
      ∙ ap (λ n. kept h.allowance n (clipped parent.low parent.high (number_of_term (t o.high)))) (sym (c.low f))
      ∙ ap (λ n. kept h.allowance h.low n) (sym (c.high f))
      ∙ ap (λ (y : Shoen CellName). opening.open_shoen (shoen_with t y) (t o.goal) S) (sym c.is))
      opened).turns;
  machine = opened.machine;
  named = opened.named;
}
