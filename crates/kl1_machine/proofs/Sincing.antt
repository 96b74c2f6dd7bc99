-- What stays since an event began, whatever is done.
use Rattle.kl1_machine.proofs.Words.{rules, ◌≡◌, ℕ, suc, ◌<◌, ◌&&◌, Bool, true, if◌then◌else◌, List, [], ◌∷◌, ◌++◌, length, refl, sym, ap, ◌∙◌, arith, append_assoc, OnOk, Result, Ok, Err, filter, AllByRecursion, on_ok_weaker, CellName, Kept, Task, Goal, Tabled, Spelled, Machine, IsMachine, Keeps, goal_at, Becomes, Puts, with_goal, having_goals, HasCome, KeepsControl, Since, StillSince, inl, inr, cases_Bool, all_append, all_filter, all_of, Option, Some, filter-append, IsTaskIn, IsOwned, ◌≤◌, length_all, has_grown, HasGrown-trans, Grown-same}
use Rattle.std.proofs.lemmas.List.{append-nil}
use Rattle.kl1_machine.proofs.Keeping.{Grows, keeps_same, keeps_then, keeps_goals}

-- ---- lists

pub each_both : (P Q R : Goal CellName → Type 0) → ((g : Goal CellName) → P g → Q g → R g) → (gs : List (Goal CellName)) → AllByRecursion P gs → AllByRecursion Q gs → AllByRecursion R gs
each_both P Q R f [] a b = tt
each_both P Q R f (g ∷ gs) a b = (f g a.0 b.0, each_both P Q R f gs a.1 b.1)

filter_both : (p q : Goal CellName → Bool) (gs : List (Goal CellName)) → filter p (filter q gs) ≡ filter (λ g. q g && p g) gs
filter_both p q [] = refl
filter_both p q (g ∷ gs) = elim (cases_Bool (q g)) [
  | inl y ↦ rw y (ap (λ (ks : List (Goal CellName)). if p g then g ∷ ks else ks) (filter_both p q gs))
  | inr y ↦ rw y (filter_both p q gs)
]

-- ---- goals that come and go

pub come_same : (b : Machine) → HasCome b b
come_same b = record { left = λ g. true; added = []; goals = sym (append-nil (filter (λ g. true) b.goals.goals) ∙ length_all b.goals.goals); above = tt; last = omega arith }

-- ---- since an event began

pub since_same : (b : Machine) → Since b b
since_same b = record { keeps = keeps_same b; hooks = refl; come = come_same b; shoens = omega arith; controls = all_of (KeepsControl b b) (λ g le monitor told. refl) b.goals.goals; flags = λ e k le. refl; work = omega arith }

-- what was when a call began is kept, by another call after it too
pub kept_after : (m v n : Machine) → (Since m m → Since m v) → Keeps v n → Keeps m n
kept_after m v n since keeps = keeps_then m v n (since (since_same m)).keeps keeps

-- if what an event has done is this, then a call may be refused or not
pub still : {T E : Type 0} (r : Result T E) (b n : Machine) → Since b n → StillSince r b n
still (Ok x) b n s = s
still (Err x) b n s = s.keeps

-- a store that grows, by no hook, changes nothing of it
pub since_store : (b m : Machine) (k : Kept CellName) → Grows m k → Since b m → Since b (record m { store = k })
since_store b m k g s = record {
  keeps = keeps_then b m (record m { store = k }) s.keeps (record { grown = has_grown m.store k g.grown g.hooks; trail = refl });
  hooks = g.hooks ∙ s.hooks;
  come = record { left = s.come.left; added = s.come.added; goals = s.come.goals; above = s.come.above; last = s.come.last };
  shoens = s.shoens;
  controls = s.controls;
  flags = s.flags;
  work = s.work;
}

-- nor do more variables, structures and reports that are counted
pub since_counts : (b m : Machine) (variables nodes reports : ℕ) → Since b m → Since b (record m { counts = record m.counts { variables = variables; nodes = nodes; reports = reports } })
since_counts b m variables nodes reports s = search rules

-- goals that go
pub since_fewer : (b m : Machine) (p : Goal CellName → Bool) → Since b m → Since b (having_goals (filter p m.goals.goals) m)
since_fewer b m p s = record {
  keeps = record { grown = s.keeps.grown; trail = s.keeps.trail };
  hooks = s.hooks;
  come = record {
    left = λ g. s.come.left g && p g;
    added = filter p s.come.added;
    goals = ap (λ (gs : List (Goal CellName)). filter p gs) s.come.goals ∙ filter-append p (filter s.come.left b.goals.goals) s.come.added ∙ ap (λ (gs : List (Goal CellName)). gs ++ filter p s.come.added) (filter_both p s.come.left b.goals.goals);
    above = all_filter (λ (g : Goal CellName). b.counts.last_goal < g.number) p s.come.added s.come.above;
    last = s.come.last;
  };
  shoens = s.shoens;
  controls = all_filter (KeepsControl b m) p m.goals.goals s.controls;
  flags = s.flags;
  work = s.work;
}

-- a goal that comes
pub since_more : (b m : Machine) (g : Goal CellName) → m.counts.last_goal < g.number → Since b m → Since b (with_goal g m)
since_more b m g lt s = record {
  keeps = record { grown = s.keeps.grown; trail = s.keeps.trail };
  hooks = s.hooks;
  come = record {
    left = s.come.left;
    added = s.come.added ++ g ∷ [];
    goals = ap (λ (gs : List (Goal CellName)). gs ++ g ∷ []) s.come.goals ∙ append_assoc (filter s.come.left b.goals.goals) s.come.added (g ∷ []);
    above = all_append (λ (k : Goal CellName). b.counts.last_goal < k.number) s.come.added (g ∷ []) s.come.above (let le = s.come.last in omega (arith, le, lt), tt);
    last = let le = s.come.last in omega (arith, le, lt);
  };
  shoens = s.shoens;
  controls = all_append (KeepsControl b m) m.goals.goals (g ∷ []) s.controls ((λ up monitor told. let le = s.come.last in absurd (omega (arith, le, lt, up))), tt);
  flags = s.flags;
  work = s.work;
}

pub since_put : (b m n : Machine) (shoen priority : ℕ) (task : Task CellName) → Puts shoen priority task m n → Since b m → Since b n
since_put b m n shoen priority task p s = rw p.is (since_more b m (goal_at (suc m.counts.last_goal) shoen priority task) (omega arith) s)

-- a store that went back to what it was before a part of the event
pub since_back : (b m n : Machine) (k : Kept CellName) → k.held ≡ m.store.held → k.hooks ≡ m.store.hooks → Since b m → Since b n → Since b (record n { store = k })
since_back b m n k held hooks s t = record {
  keeps = record { grown = HasGrown-trans b.store m.store k s.keeps.grown (has_grown m.store k (rw held (Grown-same m.store.held)) hooks); trail = t.keeps.trail };
  hooks = hooks ∙ s.hooks;
  come = record { left = t.come.left; added = t.come.added; goals = t.come.goals; above = t.come.above; last = t.come.last };
  shoens = t.shoens;
  controls = t.controls;
  flags = t.flags;
  work = t.work;
}

-- ---- a table of goals of which some have gone

fewer_machine : (m : Machine) (p : Goal CellName → Bool) → IsMachine m → IsMachine (having_goals (filter p m.goals.goals) m)
fewer_machine m p i =
    let w = i.inside in
    record {
      inside = record {
        some = w.some;
        goals = all_filter (λ (g : Goal CellName). IsTaskIn m.store.held g.task) p m.goals.goals w.goals;
        shoens = w.shoens;
        owned = all_filter (IsOwned (length m.shoens.shoens)) p m.goals.goals w.owned;
      };
      last = all_filter (λ (g : Goal CellName). g.number ≤ m.counts.last_goal) p m.goals.goals i.last;
      placed = i.placed;
      known = i.known;
    }

-- a table of which only the goals are others
pub goals_are : (r s : Tabled CellName) (gs : List (Goal CellName)) → s ≡ record r { goals = s.goals } → s.goals ≡ gs → s ≡ record r { goals = gs }
goals_are r s gs rest is = rest ∙ ap (λ (hs : List (Goal CellName)). let z : Tabled CellName = record r { goals = hs } in z) is

pub fewer_becomes : {T E : Type 0} (r : Result T E) (m : Machine) (t : Tabled CellName) (p : Goal CellName → Bool) → IsMachine m → t ≡ record m.goals { goals = t.goals } → OnOk r (t.goals ≡ filter p m.goals.goals) → OnOk r (Becomes (having_goals (filter p m.goals.goals) m) (record m { goals = t }))
fewer_becomes r m t p i rest =
    on_ok_weaker r (λ (is : t.goals ≡ filter p m.goals.goals). rw (goals_are m.goals t (filter p m.goals.goals) rest is) (record { is = refl; machine = fewer_machine m p i }))

pub fewer_since : {T E : Type 0} (r : Result T E) (b m : Machine) (t : Tabled CellName) (p : Goal CellName → Bool) → t ≡ record m.goals { goals = t.goals } → OnOk r (t.goals ≡ filter p m.goals.goals) → Since b m → StillSince r b (record m { goals = t })
fewer_since (Ok x) b m t p rest is s = rw (goals_are m.goals t (filter p m.goals.goals) rest is) (since_fewer b m p s)
fewer_since (Err x) b m t p rest ok s = keeps_then b m (record m { goals = t }) s.keeps (keeps_goals m t m.counts rest)

-- ---- a new name

pub named_machine : (m : Machine) (text : List ℕ) → IsMachine m → Becomes (record m { name = Some text }) (record m { name = Some text })
named_machine m text i = record { is = refl; machine = search rules }

-- ---- the variable that becomes it

pub since_spelled : (b m : Machine) (o : Option Spelled) → Since b m → Since b (record m { spelled = o })
since_spelled b m o s = search rules
