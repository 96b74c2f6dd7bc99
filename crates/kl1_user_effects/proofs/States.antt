-- States made of goals and shoens whose cells are read in one way or another.
use Rattle.kl1_user_effects.proofs.Words.{◌≡◌, ℕ, ◌==◌, if◌then◌else◌, List, [], ◌∷◌, length, map, refl, ap, ap₂, ◌∙◌, arith, length-take, subst, inl, inr, Option, Some, None, option_map, find, Term, replace, Replacement, replaced, State, replace_in_goal, replace_in_shoen, replace_in_state, replace_all, shoen_at, CellName, Qualified, Cell, Variable, Atom, Structure, Held, IsIn, Grown, Task, Monitor, Reduces, Substitutes, Goal, Origin, Shoen, has_number, changed, Means, task_with, goal_with, origin_with, shoen_with, state_with, told_in, aim_with, IsTaskIn, AreGoalsIn, IsOriginIn, IsShoenIn, AreShoensIn, cases_Bool, map-map, length-map, IsKind, IsLater, Kind, Reading, aim, codes, in_module, meaning, more, none, qualified_later, qualified_term, structure, sym, term_of-Atom}
use Rattle.kl1_model.specs.State as model
use Rattle.kl1_user_effects.proofs.Lists.{maps_as, maps_both, find_by, all_then}

-- ---- one way of reading in place of another

-- cells of a store are read in two ways as the same
abbrev pub Agree : Held CellName → Means → Means → Type 0
Agree h t u = (x : Cell CellName) → IsIn h x → t x ≡ u x

pub aims_same : (h : Held CellName) (t u : Means) → Agree h t u → (q : Qualified CellName) → IsIn h q.cell → aim_with t q ≡ aim_with u q
aims_same h t u a q i = by_module q.module_name
  where
    by_module : (m : Option CellName) → told_in t m (t q.cell) ≡ told_in u m (u q.cell)
    by_module None = a q.cell i
    by_module (Some m) = rw (a (Atom m) tt, a q.cell i)

same_goal : (h : Held CellName) (t u : Means) → Agree h t u → (g : Goal CellName) → IsTaskIn h g.task → goal_with t g ≡ goal_with u g
same_goal h t u a g i = ap (λ (k : model.Task). let r : model.Goal = record { number = g.number; task = k; shoen = g.shoen; priority = g.priority } in r) (by_task g.task i)
  where
    by_task : (k : Task CellName) → IsTaskIn h k → task_with t k ≡ task_with u k
    by_task Monitor i = refl
    by_task (Reduces q) i = ap model.reduces (aims_same h t u a q i)
    by_task (Substitutes x) i = ap model.substitutes (a x i)

pub same_goals : (h : Held CellName) (t u : Means) → Agree h t u → (gs : List (Goal CellName)) → AreGoalsIn h gs → map (goal_with t) gs ≡ map (goal_with u) gs
same_goals h t u a [] i = refl
same_goals h t u a (g ∷ gs) i = ap₂ (λ (k : model.Goal) (ks : List model.Goal). k ∷ ks) (same_goal h t u a g i.0) (same_goals h t u a gs i.1)

same_origin : (h : Held CellName) (t u : Means) → Agree h t u → (o : Option (Origin CellName)) → IsOriginIn h o → option_map (origin_with t) o ≡ option_map (origin_with u) o
same_origin h t u a None i = refl
same_origin h t u a (Some o) i = rw (a o.goal i.goal, a o.reports i.reports, a o.control i.control)

same_shoen : (h : Held CellName) (t u : Means) → Agree h t u → (s : Shoen CellName) → IsShoenIn h s → shoen_with t s ≡ shoen_with u s
same_shoen h t u a s i = rw (a s.control i.control, a s.tail i.tail, same_origin h t u a s.origin i.origin)

pub same_shoens : (h : Held CellName) (t u : Means) → Agree h t u → (ss : List (Shoen CellName)) → AreShoensIn h ss → map (shoen_with t) ss ≡ map (shoen_with u) ss
same_shoens h t u a [] i = refl
same_shoens h t u a (s ∷ ss) i = ap₂ (λ (k : model.Shoen) (ks : List model.Shoen). k ∷ ks) (same_shoen h t u a s i.0) (same_shoens h t u a ss i.1)

pub same_state : (s : State) (h : Held CellName) (t u : Means) (last : ℕ) (gs : List (Goal CellName)) (ss : List (Shoen CellName)) → Agree h t u → AreGoalsIn h gs → AreShoensIn h ss → state_with s t last gs ss ≡ state_with s u last gs ss
same_state s h t u last gs ss a i j =
    ap₂ (λ (ks : List model.Goal) (hs : List model.Shoen). let r : State = record s { goals = ks; shoens = hs; last_variable = last } in r) (same_goals h t u a gs i) (same_shoens h t u a ss j)

-- ---- replacements everywhere

replaced_goals : (v : ℕ) (b : Term) (t : Means) (gs : List (Goal CellName)) → map (replace_in_goal v b) (map (goal_with t) gs) ≡ map (goal_with (λ x. replace v b (t x))) gs
replaced_goals v b t gs = map-map (replace_in_goal v b) (goal_with t) gs ∙ maps_as (λ g. replace_in_goal v b (goal_with t g)) (goal_with (λ x. replace v b (t x))) (λ g. ap (λ (k : model.Task). let r : model.Goal = record { number = g.number; task = k; shoen = g.shoen; priority = g.priority } in r) (by_task g.task)) gs
  where
    by_aim : (m : Option CellName) (u : Term) → replace v b (told_in t m u) ≡ told_in (λ x. replace v b (t x)) m (replace v b u)
    by_aim None u = refl
    by_aim (Some m) u = refl

    by_task : (k : Task CellName) → model.replace_in_task v b (task_with t k) ≡ task_with (λ x. replace v b (t x)) k
    by_task (Reduces q) = ap model.reduces (by_aim q.module_name (t q.cell))
    by_task _ = refl

replaced_shoens : (v : ℕ) (b : Term) (t : Means) (ss : List (Shoen CellName)) → map (replace_in_shoen v b) (map (shoen_with t) ss) ≡ map (shoen_with (λ x. replace v b (t x))) ss
replaced_shoens v b t ss = map-map (replace_in_shoen v b) (shoen_with t) ss ∙ maps_as (λ s. replace_in_shoen v b (shoen_with t s)) (shoen_with (λ x. replace v b (t x))) (λ s. ap (λ (o : Option model.Origin). let r : model.Shoen = record (shoen_with (λ x. replace v b (t x)) s) { origin = o } in r) (by_origin s.origin)) ss
  where
    by_origin : (o : Option (Origin CellName)) → option_map (model.replace_in_origin v b) (option_map (origin_with t) o) ≡ option_map (origin_with (λ x. replace v b (t x))) o
    by_origin None = refl
    by_origin (Some o) = refl

pub replaced_state : (s : State) (v : ℕ) (b : Term) (t : Means) (last : ℕ) (gs : List (Goal CellName)) (ss : List (Shoen CellName)) → replace_in_state v b (state_with s t last gs ss) ≡ state_with s (λ x. replace v b (t x)) last gs ss
replaced_state s v b t last gs ss =
    ap₂ (λ (ks : List model.Goal) (hs : List model.Shoen). let r : State = record s { goals = ks; shoens = hs; last_variable = last } in r) (replaced_goals v b t gs) (replaced_shoens v b t ss)

pub all_replaced : (rs : List Replacement) (s : State) (t : Means) (last : ℕ) (gs : List (Goal CellName)) (ss : List (Shoen CellName)) → replace_all rs (state_with s t last gs ss) ≡ state_with s (λ x. replaced rs (t x)) last gs ss
all_replaced [] s t last gs ss = refl
all_replaced (r ∷ rs) s t last gs ss = ap (replace_all rs) (replaced_state s r.number r.by t last gs ss) ∙ all_replaced rs s (λ x. replace r.number r.by (t x)) last gs ss

-- ---- shoens by number

-- shoen `n` is the one that is found
pub found_in : (t : Means) (n : ℕ) (ss : List (Shoen CellName)) → shoen_at n (map (shoen_with t) ss) ≡ option_map (shoen_with t) (find (has_number n) ss)
found_in t n ss = find_by (shoen_with t) (λ h. h.number == n) (has_number n) (λ h. refl) ss

-- a change of shoen `n` is one of the definitions'
pub changed_in : (t : Means) (n : ℕ) (f : Shoen CellName → Shoen CellName) (g : model.Shoen → model.Shoen) → ((h : Shoen CellName) → g (shoen_with t h) ≡ shoen_with t (f h)) → (ss : List (Shoen CellName)) →
    map (λ (h : model.Shoen). if h.number == n then g h else h) (map (shoen_with t) ss) ≡ map (shoen_with t) (changed n f ss)
changed_in t n f g e ss = maps_both (λ (h : model.Shoen). if h.number == n then g h else h) (shoen_with t) (shoen_with t) (λ h. if has_number n h then f h else h) (λ h. elim (cases_Bool (h.number == n)) [ inl p ↦ simp p (e h) | inr p ↦ simp p ]) ss

-- and leaves as many
pub changed_count : (n : ℕ) (f : Shoen CellName → Shoen CellName) (ss : List (Shoen CellName)) → length (changed n f ss) ≡ length ss
changed_count n f ss = length-map ss (λ h. if has_number n h then f h else h)

-- ---- cells of a store that has grown

pub in_grown : (h k : Held CellName) → Grown h k → (x : Cell CellName) → IsIn h x → IsIn k x
in_grown h k g (Variable v) i = let le = g.variables in omega arith
in_grown h k g (Structure s) i = let e = ap length g.structures in omega (arith, e, length-take (length h.structures) k.structures)
in_grown h k g _ i = tt

-- goals of a store are goals of another in which each of its cells is
pub goals_in_by : (h k : Held CellName) → ((x : Cell CellName) → IsIn h x → IsIn k x) → (gs : List (Goal CellName)) → AreGoalsIn h gs → AreGoalsIn k gs
goals_in_by h k up gs i = all_then (λ (g : Goal CellName). IsTaskIn h g.task) (λ g. IsTaskIn k g.task) (λ g j. by_task g.task j) gs i
  where
    by_task : (t : Task CellName) → IsTaskIn h t → IsTaskIn k t
    by_task Monitor j = tt
    by_task (Reduces q) j = up q.cell j
    by_task (Substitutes x) j = up x j

-- and so is a shoen
pub shoen_in_by : (h k : Held CellName) → ((x : Cell CellName) → IsIn h x → IsIn k x) → (s : Shoen CellName) → IsShoenIn h s → IsShoenIn k s
shoen_in_by h k up s i = record { control = up s.control i.control; tail = up s.tail i.tail; origin = by_origin s.origin i.origin; low = i.low; high = i.high }
  where
    by_origin : (o : Option (Origin CellName)) → IsOriginIn h o → IsOriginIn k o
    by_origin None j = tt
    by_origin (Some o) j = record { goal = up o.goal j.goal; reports = up o.reports j.reports; control = up o.control j.control }

pub shoens_in_by : (h k : Held CellName) → ((x : Cell CellName) → IsIn h x → IsIn k x) → (ss : List (Shoen CellName)) → AreShoensIn h ss → AreShoensIn k ss
shoens_in_by h k up ss i = all_then (IsShoenIn h) (IsShoenIn k) (shoen_in_by h k up) ss i

-- shoens of which one is changed to one with cells of the store
pub shoens_changed : (h : Held CellName) (n : ℕ) (f : Shoen CellName → Shoen CellName) → ((s : Shoen CellName) → IsShoenIn h s → IsShoenIn h (f s)) → (ss : List (Shoen CellName)) → AreShoensIn h ss → AreShoensIn h (changed n f ss)
shoens_changed h n f e [] a = tt
shoens_changed h n f e (s ∷ ss) a = elim (cases_Bool (s.number == n)) [ inl p ↦ rw p (e s a.0, shoens_changed h n f e ss a.1) | inr p ↦ rw p (a.0, shoens_changed h n f e ss a.1) ]

-- the shoen that is found has cells of the store
pub found_shoen_in : (h : Held CellName) (n : ℕ) (ss : List (Shoen CellName)) (s : Shoen CellName) → AreShoensIn h ss → find (has_number n) ss ≡ Some s → IsShoenIn h s
found_shoen_in h n [] s a e = absurd (cc)
found_shoen_in h n (r ∷ ss) s a e = elim (cases_Bool (r.number == n)) [
  | inl p ↦ let found : Some r ≡ Some s = rw p at e in let same : r ≡ s = cc in subst (λ (x : Shoen CellName). IsShoenIn h x) same a.0
  | inr p ↦ found_shoen_in h n ss s a.1 (rw p at e)
]

-- ---- what is to be reduced, as an account and as its store tell it

told_is : (f : Reading) (h : Held CellName) (m : Option CellName) (t : Term) → told_in (meaning f h) m t ≡ in_module f m t
told_is f h None t = refl
told_is f h (Some m) t = ap (λ x. structure (codes ":") (more x (more t none))) (term_of-Atom f h m)

-- both tell the same
pub aim_is : (f : Reading) (h : Held CellName) (q : Qualified CellName) → aim f h q ≡ qualified_term f h q
aim_is f h q = told_is f h q.module_name (meaning f h q.cell)

-- in a later store the variables are replaced that were bound since then
pub aim_later : (f : Reading) (old new : Held CellName) (q : Qualified CellName) (l : IsLater f old new) → IsIn old q.cell → aim f new q ≡ replaced l.replacements (aim f old q)
aim_later f old new q l i = aim_is f new q ∙ (qualified_later f old new q l i ∙ ap (replaced l.replacements) (sym (aim_is f old q)))

-- its kind
pub kind_at : (f : Reading) (h : Held CellName) (q : Qualified CellName) (k : Kind CellName) → IsKind f h (qualified_term f h q) k → IsKind f h (aim f h q) k
kind_at f h q k is = let P : Term → Type 0 = λ t. IsKind f h t k in subst P (sym (aim_is f h q)) is
