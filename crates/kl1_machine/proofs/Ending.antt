-- Changes of states one after another, goals that go, and shoens that end.
use Rattle.kl1_machine.proofs.Words.{◌≡◌, ℕ, not, Bool, List, ◌∷◌, refl, sym, ap, ◌∙◌, subst, arith, count_by, nat_lt, filter, list_any, State, change_shoen, path, without_monitor, ending_of, newly_exhausted, settle, terminate_each, CellName, Goal, is_monitor_of, Shoen, Tree, changed, path_in, path_zero, Numbered, Reading, meaning, shoen_with, IsShoenIn, worked, ended_each, ended_in, reached_in, terminates_apart, StillEnds, next_end, last_end, monitors_read, path_read, ending_read, reached_read, ends_turn, reached_after, paths_all, turns_then, turns_as, turns_none, changed_turns, Machine, made, IsMachine, Becomes, TurnsAs, having_goals, shifting_shoens, LifeEnds, LivesEnd, inl, inr, cases_Bool, ltb-true, ltb-false, count_none, count_some, None, finished_each_late, [], HasNoMonitor}
use Rattle.kl1_model.specs.State as model
use Rattle.kl1_user_effects.specs.Works as works

-- ---- one after another

pub as_then : (f g : Reading → State → State) (m n o : Machine) → TurnsAs f m n → TurnsAs g n o → TurnsAs (λ r s. g r (f r s)) m o
as_then f g m n o p q = record {
  turns = λ ms. turns_then ms f g m.store.held n.store.held o.store.held (made m) (made n) (made o) (p.turns ms) (q.turns ms);
  machine = q.machine;
  named = record { name = q.named.name ∙ p.named.name; spelled = q.named.spelled ∙ p.named.spelled };
}

-- by a change that is the same for this machine
pub as_same : (f g : Reading → State → State) (m n : Machine) → ((r : Reading) (s : State) → g r (worked r s m.store.held (made m)) ≡ f r (worked r s m.store.held (made m))) → TurnsAs f m n → TurnsAs g m n
as_same f g m n e p = record { turns = λ ms. turns_as ms f g m.store.held n.store.held (made m) (made n) (λ r knows s. e r s) (p.turns ms); machine = p.machine; named = p.named }

pub as_none : (m : Machine) → IsMachine m → TurnsAs (λ f s. s) m m
as_none m i = record { turns = λ ms. turns_none ms (λ f s. s) m.store.held (made m) i.inside (λ f knows s. refl); machine = i; named = record { name = refl; spelled = refl } }

-- ---- goals of a shoen

-- whether there are some by their count
pub any_counted : (p : Goal CellName → Bool) (gs : List (Goal CellName)) → nat_lt 0 (count_by p gs) ≡ list_any p gs
any_counted p gs = elim (cases_Bool (nat_lt 0 (count_by p gs))) [
  | inl e ↦ e ∙ sym (count_some p gs (ltb-true 0 (count_by p gs) e))
  | inr e ↦ let le = ltb-false 0 (count_by p gs) e in e ∙ sym (count_none p gs (omega (arith, le)))
]

-- ---- goals that go

-- a monitor that goes
pub unmonitored : (m n : Machine) (k : ℕ) → Becomes (having_goals (filter (λ g. not (is_monitor_of k g)) m.goals.goals) m) n → TurnsAs (λ f. without_monitor k) m n
unmonitored m n k l =
    let i = rw l.is at l.machine in
    rw l.is (record {
      turns = λ ms. record {
        inside = i.inside;
        states = λ f knows s. ap (λ (gs : List model.Goal). let z : State = record (worked f s m.store.held (made m)) { goals = gs } in z) (monitors_read (meaning f m.store.held) k m.goals.goals);
      };
      machine = i;
      named = record { name = refl; spelled = refl };
    })

-- no monitor is left then
pub none_left : (k : ℕ) (gs : List (Goal CellName)) → HasNoMonitor k (filter (λ g. not (is_monitor_of k g)) gs)
none_left k [] = tt
none_left k (g ∷ gs) = elim (cases_Bool (is_monitor_of k g)) [ inl is ↦ rw is (none_left k gs) | inr other ↦ rw other (other, none_left k gs) ]

-- ---- a shoen that changes

pub changed_as : (m n : Machine) (k : ℕ) (f : Shoen CellName → Shoen CellName) (g : model.Shoen → model.Shoen) → IsMachine m → ((s : Shoen CellName) → IsShoenIn m.store.held s → IsShoenIn m.store.held (f s)) →
    ((r : Reading) (s : Shoen CellName) → g (shoen_with (meaning r m.store.held) s) ≡ shoen_with (meaning r m.store.held) (f s)) → Becomes (shifting_shoens (changed k f m.shoens.shoens) m) n → TurnsAs (λ r. change_shoen k g) m n
changed_as m n k f g i inside same b =
    rw b.is (record { turns = λ ms. changed_turns ms m.store.held (made m) k f g i.inside inside same; machine = rw b.is at b.machine; named = record { name = refl; spelled = refl } })

-- ---- lives that end along a path

-- the shoens on a path so far have been looked at
pub record IsWalked (n at : ℕ) (ending : List ℕ) (m u : Machine) : Type 0 where
  pub ends : StillEnds m.goals.goals m.shoens u.shoens n at ending
  pub rest : u ≡ record m { shoens = u.shoens; shifts = u.shifts }
  pub machine : IsMachine u

pub next_walked : (m u v : Machine) (n at up : ℕ) (before after : List ℕ) → path_in u.shoens.shoens at ≡ at ∷ path_in u.shoens.shoens up → IsWalked n at before m u → LifeEnds at before after u v → IsWalked n up after m v
next_walked m u v n at up before after path i l =
    let goals : u.goals.goals ≡ m.goals.goals = ap (λ (x : Machine). x.goals.goals) i.rest in
    record {
      ends = next_end m.goals.goals m.shoens u.shoens v.shoens n at up before after path i.ends (rw goals at l.one);
      rest = l.rest ∙ ap (λ (x : Machine). let z : Machine = record x { shoens = v.shoens; shifts = v.shifts } in z) i.rest;
      machine = l.machine;
    }

pub last_walked : (m u : Machine) (n at : ℕ) (ending : List ℕ) → at ≡ 0 → IsWalked n at ending m u → LivesEnd n ending m u
last_walked m u n at ending e i = record { ends = last_end m.goals.goals m.shoens u.shoens n at ending (path_zero at u.shoens.shoens e) i.ends; rest = i.rest; machine = i.machine }

-- ---- what comes after effects

-- shoens that have terminated
pub lives_turn : (m u : Machine) (n : ℕ) (ending : List ℕ) → IsMachine m → LivesEnd n ending m u → TurnsAs (λ f. ended_each ending) m u
lives_turn m u n ending i l =
    let T : Machine → Type 0 = λ x. (ms : List Numbered) → works.Turns ms (λ f. ended_each ending) m.store.held x.store.held (made m) (made x) in
    let is = l.rest ∙ ap (λ (t : Tree CellName). let z : Machine = record m { shoens = t; shifts = u.shifts } in z) l.ends.tree_is in
    record { turns = subst T (sym is) (λ ms. ends_turn ms m.store.held ending (made m) i.inside); machine = l.machine; named = record { name = ap (λ (x : Machine). x.name) l.rest; spelled = ap (λ (x : Machine). x.spelled) l.rest } }

-- those that terminate, by the definitions
pub ending_is : (m u : Machine) (n : ℕ) (ending : List ℕ) (f : Reading) (s : State) → LivesEnd n ending m u → ending_of (path (worked f s m.store.held (made m)).shoens n) (worked f s m.store.held (made m)) ≡ ending
ending_is m u n ending f s l =
    let h = m.store.held in
    ap (λ (ns : List ℕ). ending_of ns (worked f s h (made m))) (path_read (meaning f h) m.shoens.shoens n)
    ∙ ending_read f s h (path_in m.shoens.shoens n) (made m)
    ∙ sym l.ends.ending_is

pub settles : (m u v : Machine) (n : ℕ) (ending : List ℕ) → IsMachine m → LivesEnd n ending m u → TurnsAs (λ f. finished_each_late None ending) u v → TurnsAs (λ f. settle n) m v
settles m u v n ending i l p =
    as_same (λ f s. finished_each_late None ending (ended_each ending s)) (λ f. settle n) m v
    (λ f s.
    let S = worked f s m.store.held (made m) in
    ap (λ (ns : List ℕ). terminate_each ns S) (ending_is m u n ending f s l) ∙ terminates_apart ending S)
    (as_then (λ f. ended_each ending) (λ f. finished_each_late None ending) m u v (lives_turn m u n ending i l) p)

-- the shoens on the path of one have reached their allowance, but for those that end
abbrev pub AreReached : ℕ → List ℕ → Machine → List ℕ → Type 0
AreReached n ending u reached = reached ≡ reached_in u.shoens.shoens u.shoens.work ending (path_in u.shoens.shoens n)

-- those that have reached their allowance, by the definitions
pub reached_is : (m u : Machine) (n : ℕ) (ending reached : List ℕ) (f : Reading) (s : State) → LivesEnd n ending m u → AreReached n ending u reached →
    newly_exhausted (worked f s m.store.held (made m)) ending (path (worked f s m.store.held (made m)).shoens n) ≡ reached
reached_is m u n ending reached f s l r =
    let h = m.store.held in
    let t = m.shoens in
    let found : reached ≡ reached_in (ended_in ending t.shoens) t.work ending (path_in (ended_in ending t.shoens) n) = rw l.ends.tree_is at r in
    ap (λ (ns : List ℕ). newly_exhausted (worked f s h (made m)) ending ns) (path_read (meaning f h) t.shoens n)
    ∙ reached_read f s h (made m) ending (path_in t.shoens n)
    ∙ sym (reached_after ending t.shoens t.work ending (path_in t.shoens n))
    ∙ ap (λ (ns : List ℕ). reached_in (ended_in ending t.shoens) t.work ending ns) (sym (paths_all ending n t.shoens))
    ∙ sym found
