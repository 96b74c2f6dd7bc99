-- What stays of a machine, and that it stays one.
use Rattle.kl1_machine.proofs.Words.{◌≡◌, ℕ, suc, ◌+◌, Bool, false, ◌++◌, ◌∷◌, [], List, length, refl, sym, ap, ◌∙◌, arith, Vec, CellName, Grown, Kept, point_of, HasGrown-same, HasGrown-trans, Task, Goal, Tree, Spelled, IsTaskIn, IsOwned, grown_made, Tabled, Counts, Machine, made, IsMachine, Trail, trail_of, Keeps, IsBegun, IsBack, goal_at, with_goal, Puts, Option, None, all_append, all_then, ◌≤◌}

-- ---- what stays

pub keeps_same : (m : Machine) → Keeps m m
keeps_same m = record { grown = HasGrown-same m.store; trail = refl }

pub keeps_then : (m n o : Machine) → Keeps m n → Keeps n o → Keeps m o
keeps_then m n o p q = record { grown = HasGrown-trans m.store n.store o.store p.grown q.grown; trail = q.trail ∙ p.trail }

-- a machine's store has grown, by no hook
pub record Grows (m : Machine) (k : Kept CellName) : Type 0 where
  pub grown : Grown m.store.held k.held
  pub hooks : k.hooks ≡ m.store.hooks

-- if of a table only goals are others
pub keeps_goals : (m : Machine) (r : Tabled CellName) (c : Counts) → r ≡ record m.goals { goals = r.goals } → Keeps m (record m { goals = r; counts = c })
keeps_goals m r c e = record { grown = HasGrown-same m.store; trail = ap (λ (x : Tabled CellName). let z : Machine = record m { goals = x; counts = c } in trail_of z) e }

-- ---- that it is a machine

pub grown_machine : (m : Machine) (k : Kept CellName) → Grows m k → IsMachine m → IsMachine (record m { store = k })
grown_machine m k g i = record { inside = grown_made m.store.held k.held (made m) g.grown i.inside; last = i.last; placed = i.placed; known = i.known }

put_machine : (m : Machine) (g : Goal CellName) → g.number ≡ suc m.counts.last_goal → IsTaskIn m.store.held g.task → IsOwned (length m.shoens.shoens) g → IsMachine m → IsMachine (with_goal g m)
put_machine m g number task own w =
    let i = w.inside in
    record {
      inside = record {
        some = i.some;
        goals = all_append (λ (k : Goal CellName). IsTaskIn m.store.held k.task) m.goals.goals (g ∷ []) i.goals (task, tt);
        shoens = i.shoens;
        owned = all_append (IsOwned (length m.shoens.shoens)) m.goals.goals (g ∷ []) i.owned (own, tt);
      };
      last = all_append (λ (k : Goal CellName). k.number ≤ g.number) m.goals.goals (g ∷ []) (all_then (λ (k : Goal CellName). k.number ≤ m.counts.last_goal) (λ k. k.number ≤ g.number) (λ k le. omega (arith, le, number)) m.goals.goals w.last) (omega arith, tt);
      placed = omega arith;
      known = w.known;
    }

-- a table to which a goal was put, with the number after the last
pub record IsPut (m : Machine) (r : Tabled CellName) (g : Goal CellName) : Type 0 where
  pub number : g.number ≡ m.counts.last_goal + 1
  pub goals : r.goals ≡ m.goals.goals ++ g ∷ []
  pub last : r.last ≡ g.number
  pub rest : r ≡ record m.goals { goals = r.goals; last = r.last }

pub puts_one : (m : Machine) (r : Tabled CellName) (shoen priority n : ℕ) (task : Task CellName) → IsMachine m → IsTaskIn m.store.held task → IsOwned (length m.shoens.shoens) (goal_at 0 shoen priority task) → IsPut m r (goal_at n shoen priority task) →
    Puts shoen priority task m (record m { goals = r; counts = record m.counts { last_goal = n } })
puts_one m r shoen priority n task i inside own put =
    let number = put.number in
    let next : n ≡ suc m.counts.last_goal = omega (arith, number) in
    let T : List (Goal CellName) → ℕ → Tabled CellName = λ gs l. record m.goals { goals = gs; last = l } in
    let table : r ≡ T (m.goals.goals ++ goal_at n shoen priority task ∷ []) n = put.rest ∙ ap (λ gs. T gs r.last) put.goals ∙ ap (T (m.goals.goals ++ goal_at n shoen priority task ∷ [])) put.last in
    rw (table, next)
    (record { is = refl; machine = put_machine m (goal_at (suc m.counts.last_goal) shoen priority task) refl inside (record { low = own.low; high = own.high }) i })

-- ---- back to where an event began

pub begun_mark : (b m : Machine) → IsBegun b → Keeps b m → m.mark ≡ point_of b.store
begun_mark b m i k = ap (λ (x : Trail). x.mark) k.trail ∙ i.mark

-- parts of a machine that went back
pub record WentBack (b m : Machine) (k : Kept CellName) (r : Tabled CellName) (t : Tree CellName) (u : Vec ℕ) : Type 0 where
  pub held : k.held ≡ b.store.held
  pub hooks : k.hooks ≡ b.store.hooks
  pub goals : r ≡ record m.goals { goals = m.goals.begun; shoens = m.goals.begun_shoens; last = m.goals.begun_last }
  pub shoens : t.shoens ≡ m.shoens.kept
  pub work : t.work ≡ m.shoens.kept_work
  pub told : u.items ≡ []

pub went_back : (b m : Machine) (k : Kept CellName) (r : Tabled CellName) (t : Tree CellName) (u : Vec ℕ) → IsBegun b → Keeps b m → WentBack b m k r t u → IsBack b (record m { store = k; goals = r; shoens = t; counts = m.begun; name = None; spelled = None; told = u; shifts = false })
went_back b m k r t u i p w =
    let begun : m.goals.begun ≡ b.goals.goals = ap (λ (x : Trail). x.goals) p.trail ∙ i.goals in
    let known : m.goals.begun_shoens ≡ b.goals.shoens = ap (λ (x : Trail). x.goal_shoens) p.trail ∙ i.goal_shoens in
    let last : m.goals.begun_last ≡ b.goals.last = ap (λ (x : Trail). x.goal_last) p.trail ∙ i.goal_last in
    let table : List (Goal CellName) → ℕ → ℕ → List (Goal CellName) → ℕ → ℕ → Tabled CellName = λ gs n l bs o k. record { goals = gs; shoens = n; last = l; begun = bs; begun_shoens = o; begun_last = k } in
    let stands : Trail → Counts → Option (List ℕ) → Option Spelled → Bool → Machine =
    λ x c name spelled s. record { rules = x.rules; store = k; goals = r; shoens = t; names = x.names; name = name; spelled = spelled; counts = c; mark = x.mark; begun = x.begun; told = u; shifts = s } in
    record {
      held = w.held;
      hooks = w.hooks;
      goals = w.goals
          ∙ ap (λ (x : Trail). table m.goals.begun m.goals.begun_shoens m.goals.begun_last x.goals x.goal_shoens x.goal_last) p.trail
          ∙ ap (λ gs. table gs m.goals.begun_shoens m.goals.begun_last b.goals.begun b.goals.begun_shoens b.goals.begun_last) begun
          ∙ ap (λ n. table b.goals.goals n m.goals.begun_last b.goals.begun b.goals.begun_shoens b.goals.begun_last) known
          ∙ ap (λ l. table b.goals.goals b.goals.shoens l b.goals.begun b.goals.begun_shoens b.goals.begun_last) last;
      shoens = w.shoens ∙ ap (λ (x : Trail). x.shoens) p.trail ∙ i.shoens;
      work = w.work ∙ ap (λ (x : Trail). x.work) p.trail ∙ i.work;
      told = w.told;
      rest = ap (λ (x : Trail). stands x x.begun None None false) p.trail
          ∙ ap (λ c. stands (trail_of b) c None None false) i.counts
          ∙ ap (λ o. stands (trail_of b) b.counts o None false) (sym i.name)
          ∙ ap (λ o. stands (trail_of b) b.counts b.name o false) (sym i.spelled)
          ∙ ap (λ s. stands (trail_of b) b.counts b.name b.spelled s) (sym i.shifts);
    }
