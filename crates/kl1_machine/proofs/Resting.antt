-- A machine rests after its goals were looked at again.
use Rattle.kl1_machine.proofs.Words.{rules, ⊎_elim, ◌≡◌, ℕ, zero, suc, ◌<◌, ◌≤◌, ◌==◌, ◌||◌, Bool, true, false, if◌then◌else◌, List, [], ◌∷◌, ◌++◌, length, map, drop, refl, sym, ap, ◌∙◌, arith, Contains, filter, AllByRecursion, ltb-false, le-ltb, eq-eqb, or_parts, cases_lt, list_any-append, is_among, State, CellName, Binding, Point, Held, is_bound, Hook, told_by, is_told, HasGrown-same, Goal, Task, is_monitor, is_monitor_task, Tree, is_enabled_at, AreShifts, Program, Reading, Fits, Means, meaning, goal_with, SameFlags, IsTaskIn, IsOwned, IsSettled, AreSettled, IsEnabled, AreEnabled, shifted_by, Knows, worked, among_contains, Machine, Counts, made, Trail, IsMachine, IsBegun, Turns, HasCome, KeepsControl, Since, IsRested, unlooked, Looks, AreSettledBut, Wakes, WasLet, IsLet, AreLet, Schedules, Shifts, all_told, Reschedules, LetsStill, HangsOnNone, StaysAlone, stays_settled, inl, inr, cases_Bool, all_append, all_filter, all_then, map-map, nat_lt, or_right}
use Rattle.kl1_model.specs.State as model
use Rattle.kl1_machine.proofs.Keeping.{begun_mark}
use Rattle.kl1_machine.proofs.Sincing.{each_both}
use Rattle.kl1_machine.proofs.Looking.{looked_hold, unready_hold, looks_then, looks_machine}
use Rattle.kl1_machine.proofs.Shifting.{shifted_unlooked, shifted_settled, IsRightBut, rights_shifted, right_since}

-- ---- who is told

bound_of : (bs : List (Binding CellName)) (v : ℕ) → Contains (map (λ b. b.variable) bs) v → is_bound v bs ≡ true
bound_of [] v (i, lt, e) = absurd (omega arith)
bound_of (b ∷ bs) v (zero, lt, e) = ap (λ c. c || is_bound v bs) (eq-eqb b.variable v e)
bound_of (b ∷ bs) v (suc i, lt, e) = or_right (b.variable == v) (is_bound v bs) (bound_of bs v (i, omega arith, e))

-- a number that isn't told hangs on no variable that was bound
hangs_on_none : (hooks : List Hook) (bs : List (Binding CellName)) (n : ℕ) → is_among n (told_by bs hooks) ≡ false → HangsOnNone hooks n (map (λ b. b.variable) bs)
hangs_on_none hooks bs n e v c k =
    let t = among_contains n (told_by bs hooks) (is_told bs hooks (record { variable = v; number = n }) k (bound_of bs v c)) in
    cc

-- an event began with machine `b`, which has come to be `m` since
record HasBegun (b m : Machine) : Type 0 where
  begun : IsBegun b
  was : IsMachine b
  is : IsMachine m
  since : Since b m

-- a goal that was there when the event began and isn't told is settled as it was
untold_settled : (f : Reading) (program : Program) (b m : Machine) → HasBegun b m → (g : Goal CellName) → g.number ≤ b.counts.last_goal → KeepsControl b m g → IsTaskIn b.store.held g.task → IsSettled f b.store.hooks b.store.held program b.shoens.shoens g → is_among g.number (all_told m) ≡ false →
    IsSettled f m.store.hooks m.store.held program m.shoens.shoens g
untold_settled f program b m event g early keeps inside settled e =
    let begun = event.begun in
    let s = event.since in
    let bound = drop (length b.store.held.bindings) m.store.held.bindings in
    let mark : all_told m ≡ m.told.items ++ told_by bound m.store.hooks = ap (λ (p : Point). m.told.items ++ told_by (drop p.sizes.bindings m.store.held.bindings) m.store.hooks) (begun_mark b m begun s.keeps) in
    let untold : (is_among g.number m.told.items || is_among g.number (told_by bound m.store.hooks)) ≡ false = sym (list_any-append (λ i. g.number == i) m.told.items (told_by bound m.store.hooks)) ∙ sym (ap (is_among g.number) mark) ∙ e in
    let apart = or_parts (is_among g.number m.told.items) (is_among g.number (told_by bound m.store.hooks)) untold in
    let alone : StaysAlone m.store.hooks b.store.held m.store.held b.shoens.shoens m.shoens.shoens g = record {
      formed = begun.formed;
      grown = s.keeps.grown.held;
      inside = event.was.inside.shoens;
      same = λ monitor. keeps early (ap (λ (t : Task CellName). is_monitor_task t) monitor) apart.0;
      free = hangs_on_none m.store.hooks bound g.number apart.1;
    } in
    stays_settled f m.store.hooks b.store.held m.store.held program b.shoens.shoens m.shoens.shoens g alone inside (rw s.hooks settled)

-- ---- what was when the event began

-- what holds of the goals when the event began holds of those that are left, and anything of those that came, of lesser numbers
come_hold : (P : Goal CellName → Type 0) (b m : Machine) → HasCome b m → AllByRecursion P b.goals.goals → ((g : Goal CellName) → b.counts.last_goal < g.number → P g) → AllByRecursion P m.goals.goals
come_hold P b m h a late =
    rw h.goals (all_append P (filter h.left b.goals.goals) h.added (all_filter P h.left b.goals.goals a) (all_then (λ (g : Goal CellName). b.counts.last_goal < g.number) P late h.added h.above))

-- ---- one step after another

-- the steps of a machine `m` that is rescheduled: numbers are told, goals are woken, others scheduled, and shoens let or hold back theirs
pub record Steps (program : Program) (m t u v w : Machine) : Type 0 where
  pub told : (n : ℕ) → is_among n t.told.items ≡ is_among n (all_told m)
  pub tells : t ≡ record m { told = t.told }
  pub wakes : Wakes program t.told.items t u
  pub schedules : Schedules program u.begun.last_goal u.counts.last_goal u v
  pub shifts : Shifts v w

-- goals may step other than before, and nothing else
shifts_looks : (m n : Machine) → Shifts m n → map unlooked n.goals.goals ≡ map unlooked m.goals.goals
shifts_looks m n s = ap (map unlooked) s.goals ∙ elim (cases_Bool m.shifts) [ inl q ↦ rw q (shifted_unlooked s.shifts m.goals.goals) | inr q ↦ rw q ]

-- what is looked at of the machine that was told
told_looks : (program : Program) (m t u v w : Machine) → Steps program m t u v w → Looks t v
told_looks program m t u v w s = looks_then t u v s.wakes.looks s.schedules.looks

-- a machine with other goals that are looked at, as a shift leaves it
shift_machine : (m n : Machine) → Shifts m n → IsMachine m → IsMachine n
shift_machine m n s i =
    let k : Machine = record m { goals = record m.goals { goals = n.goals.goals } } in
    let l : Looks m k = record { goals = shifts_looks m n s; held = refl; grown = HasGrown-same m.store; rest = refl } in
    rw s.rest (looks_machine m k l i)

-- a machine that was told is one
pub told_machine : (m t : Machine) → t ≡ record m { told = t.told } → IsMachine m → IsMachine t
told_machine m t tells i = rw tells (search rules)

pub steps_reschedule : (program : Program) (m t u v w : Machine) → IsMachine m → Steps program m t u v w → Reschedules m w
steps_reschedule program m t u v w i s =
    let l = told_looks program m t u v w s in
    let first : map unlooked t.goals.goals ≡ map unlooked m.goals.goals = ap (λ (x : Machine). map unlooked x.goals.goals) s.tells in
    let held : t.store.held ≡ m.store.held = ap (λ (x : Machine). x.store.held) s.tells in
    let last : w.store ≡ v.store = ap (λ (x : Machine). x.store) s.shifts.rest in
    let told_is : w.told ≡ t.told = ap (λ (x : Machine). x.told) s.shifts.rest ∙ ap (λ (x : Machine). x.told) l.rest in
    record {
      machine = shift_machine v w s.shifts (looks_machine t v l (told_machine m t s.tells i));
      goals = shifts_looks v w s.shifts ∙ l.goals ∙ first;
      held = ap (λ (k : _). k.held) last ∙ l.held ∙ held;
      rest = s.shifts.rest
          ∙ ap (λ (x : Machine). let z : Machine = record x { goals = record x.goals { goals = w.goals.goals } } in z) l.rest
          ∙ ap (λ (x : Machine). let z : Machine = record x { store = v.store; goals = record x.goals { goals = w.goals.goals } } in z) s.tells
          ∙ ap (λ (k : _). let z : Machine = record m { store = k; goals = record m.goals { goals = w.goals.goals }; told = t.told } in z) (sym last)
          ∙ ap (λ (k : _). let z : Machine = record m { store = w.store; goals = record m.goals { goals = w.goals.goals }; told = k } in z) (sym told_is);
    }

-- ---- all goals are settled

-- what was counted when the event began
counts_then : (program : Program) (b m t u v w : Machine) → IsBegun b → Since b m → Steps program m t u v w → u.begun.last_goal ≡ b.counts.last_goal
counts_then program b m t u v w begun s steps =
    ap (λ (x : Machine). x.begun.last_goal) steps.wakes.looks.rest
    ∙ ap (λ (x : Machine). x.begun.last_goal) steps.tells
    ∙ ap (λ (x : Trail). x.begun.last_goal) s.keeps.trail
    ∙ ap (λ (c : Counts). c.last_goal) begun.counts

-- a goal that was there when the event began has the store's cells, and was settled
abbrev WasSettled : Reading → Program → Machine → Goal CellName → Type 0
WasSettled f program b g = g.number ≤ b.counts.last_goal → IsTaskIn b.store.held g.task × IsSettled f b.store.hooks b.store.held program b.shoens.shoens g

were_settled : (f : Reading) (program : Program) (b m : Machine) → IsMachine b → HasCome b m → AreSettled f b.store.hooks b.store.held program b.shoens.shoens b.goals.goals → AllByRecursion (WasSettled f program b) m.goals.goals
were_settled f program b m i come settled =
    come_hold (WasSettled f program b) b m come
    (each_both (λ g. IsTaskIn b.store.held g.task) (IsSettled f b.store.hooks b.store.held program b.shoens.shoens) (WasSettled f program b) (λ g inside s early. (inside, s)) b.goals.goals i.inside.goals settled)
    (λ g late early. absurd (omega (arith, late, early)))

-- all goals are settled but those that are told, and those that came
settled_but_told : (f : Reading) (program : Program) (b m t : Machine) → HasBegun b m → ((n : ℕ) → is_among n t.told.items ≡ is_among n (all_told m)) → AreSettled f b.store.hooks b.store.held program b.shoens.shoens b.goals.goals →
    AreSettledBut (λ k. is_among k t.told.items || nat_lt b.counts.last_goal k) f program m
settled_but_told f program b m t event told settled =
    each_both (KeepsControl b m) (WasSettled f program b) (λ g. (is_among g.number t.told.items || nat_lt b.counts.last_goal g.number) ≡ false → IsSettled f m.store.hooks m.store.held program m.shoens.shoens g) (λ g keeps was e.
    let apart = or_parts (is_among g.number t.told.items) (nat_lt b.counts.last_goal g.number) e in
    let early = ltb-false b.counts.last_goal g.number apart.1 in
    let w = was early in
    untold_settled f program b m event g early keeps w.0 w.1 (sym (told g.number) ∙ apart.0))
    m.goals.goals
    event.since.controls (were_settled f program b m event.was event.since.come settled)

-- goals that are settled are so when others are let to step
shifts_settled : (f : Reading) (program : Program) (m n : Machine) → Shifts m n → AreSettled f m.store.hooks m.store.held program m.shoens.shoens m.goals.goals → AreSettled f n.store.hooks n.store.held program n.shoens.shoens n.goals.goals
shifts_settled f program m n s a = rw (s.rest, s.goals) (elim (cases_Bool m.shifts) [
  | inl q ↦ rw q (shifted_settled f m.store.hooks m.store.held program m.shoens.shoens s.shifts m.goals.goals a)
  | inr q ↦ rw q a
])

-- a shoen lets its goals step as before, if nothing of shoens has changed
pub lets_looked : (m t u : Machine) (n : ℕ) → t ≡ record m { told = t.told } → Looks t u → is_enabled_at m.shoens.shoens m.shoens.work n ≡ true → is_enabled_at u.shoens.shoens u.shoens.work n ≡ true
lets_looked m t u n tells l e = ap (λ (x : Machine). is_enabled_at x.shoens.shoens x.shoens.work n) l.rest ∙ ap (λ (x : Machine). is_enabled_at x.shoens.shoens x.shoens.work n) tells ∙ e

-- all goals are settled that have numbers up to the last
pub last_settled : (f : Reading) (program : Program) (m : Machine) (n : ℕ) → IsMachine m → m.counts.last_goal ≤ n → AreSettledBut (nat_lt n) f program m → AreSettled f m.store.hooks m.store.held program m.shoens.shoens m.goals.goals
last_settled f program m n i le all =
    each_both (λ g. g.number ≤ m.counts.last_goal) (λ g. nat_lt n g.number ≡ false → IsSettled f m.store.hooks m.store.held program m.shoens.shoens g) (IsSettled f m.store.hooks m.store.held program m.shoens.shoens) (λ g up s. s (le-ltb n g.number (omega (arith, up, le))))
    m.goals.goals i.last all

steps_settled : (f : Reading) (program : Program) (b m t u v w : Machine) → Knows program.loaded f → HasBegun b m → Steps program m t u v w → AreSettled f b.store.hooks b.store.held program b.shoens.shoens b.goals.goals →
    AreSettled f w.store.hooks w.store.held program w.shoens.shoens w.goals.goals
steps_settled f program b m t u v w knows event steps settled =
    let told : AreSettledBut (λ k. is_among k t.told.items || nat_lt b.counts.last_goal k) f program t = rw steps.tells (settled_but_told f program b m t event steps.told settled) in
    let woken : AreSettledBut (nat_lt u.begun.last_goal) f program u = rw (counts_then program b m t u v w event.begun event.since steps) (steps.wakes.settles f knows (nat_lt b.counts.last_goal) told) in
    let last : v.counts.last_goal ≡ u.counts.last_goal = ap (λ (x : Machine). x.counts.last_goal) steps.schedules.looks.rest in
    shifts_settled f program v w steps.shifts
    (last_settled f program v u.counts.last_goal (looks_machine t v (told_looks program m t u v w steps) (told_machine m t steps.tells event.is)) (omega (arith, last)) (steps.schedules.settles f knows woken))

-- ---- each goal may step as its shoen lets it

-- the goals that were there may step as they might, and none has come yet
let_then : (b m : Machine) → IsMachine b → HasCome b m → AreEnabled b.shoens.shoens b.shoens.work b.goals.goals → AreLet b b.counts.last_goal m
let_then b m i come enabled =
    let last = b.counts.last_goal in
    come_hold (IsLet b last m) b m come
    (each_both (IsOwned (length b.shoens.shoens)) (IsEnabled b.shoens.shoens b.shoens.work) (IsLet b last m) (λ g o e. ((λ early. (o, e)), (λ late up. absurd (omega (arith, late, up))))) b.goals.goals i.inside.owned enabled)
    (λ g late. ((λ early. absurd (omega (arith, late, early))), (λ more up. absurd (omega (arith, late, up)))))

-- what is woken may step as before
let_woken : (program : Program) (numbers : List ℕ) (b m n : Machine) (k : ℕ) → Wakes program numbers m n → AreLet b k m → AreLet b k n
let_woken program numbers b m n k w a =
    rw w.looks.rest
    (unready_hold (IsLet b k m) (λ g o p. ((λ early. let x = p.0 early in (record { low = x.0.low; high = x.0.high }, x.1)), (λ late up. p.1 late up))) n.goals.goals m.goals.goals w.flags a)

-- goals may step as their shoens let them, after the shifts of a machine
shifts_enabled : (b m n : Machine) → IsMachine m → m.shoens.kept ≡ b.shoens.shoens → m.shoens.kept_work ≡ b.shoens.work → (m.shifts ≡ false → SameFlags b.shoens m.shoens) → Shifts m n → AreLet b m.counts.last_goal m → AreEnabled n.shoens.shoens n.shoens.work n.goals.goals
shifts_enabled b m n i kept work same s a = rw (s.rest, s.goals) (by_case m.shifts refl)
  where
    since : AreShifts m.shoens s.shifts → (g : Goal CellName) → WasLet b g → g.number ≤ b.counts.last_goal → IsRightBut m.shoens s.shifts g
    since right g was early =
        let w = was early in
        right_since m.shoens s.shifts g right (rw kept w.0) (rw (kept, work) w.1)

    by_case : (c : Bool) → m.shifts ≡ c → AreEnabled m.shoens.shoens m.shoens.work (if c then shifted_by s.shifts m.goals.goals else m.goals.goals)
    by_case true q =
        rights_shifted m.shoens s.shifts m.goals.goals (s.right q)
        (each_both (λ g. g.number ≤ m.counts.last_goal) (IsLet b m.counts.last_goal m) (IsRightBut m.shoens s.shifts) (λ g up l. ⊎_elim (λ (late : b.counts.last_goal < g.number) free. l.1 late up) (λ (early : g.number ≤ b.counts.last_goal). since (s.right q) g l.0 early) (cases_lt b.counts.last_goal g.number))
        m.goals.goals i.last a)
    by_case false q =
        each_both (λ g. g.number ≤ m.counts.last_goal) (IsLet b m.counts.last_goal m) (IsEnabled m.shoens.shoens m.shoens.work) (λ g up l.
        ⊎_elim
        (λ (late : b.counts.last_goal < g.number). l.1 late up)
        (λ (early : g.number ≤ b.counts.last_goal). let w = l.0 early in let high = w.0.high in w.1 ∙ ap (λ c. is_monitor g || c) (sym (same q g.shoen (omega (arith, high)))))
        (cases_lt b.counts.last_goal g.number))
        m.goals.goals
        i.last a

steps_enabled : (program : Program) (b m t u v w : Machine) → HasBegun b m → Steps program m t u v w → AreEnabled b.shoens.shoens b.shoens.work b.goals.goals → AreEnabled w.shoens.shoens w.shoens.work w.goals.goals
steps_enabled program b m t u v w event steps enabled =
    let begun = event.begun in
    let s = event.since in
    let last = b.counts.last_goal in
    let same_last = counts_then program b m t u v w begun s steps in
    let told : AreLet b last t = rw steps.tells (let_then b m event.was s.come enabled) in
    let woken : AreLet b u.begun.last_goal u = rw same_last (let_woken program t.told.items b t u last steps.wakes told) in
    let l = told_looks program m t u v w steps in
    let shoens : v.shoens ≡ m.shoens = ap (λ (x : Machine). x.shoens) l.rest ∙ ap (λ (x : Machine). x.shoens) steps.tells in
    let shifts : v.shifts ≡ m.shifts = ap (λ (x : Machine). x.shifts) l.rest ∙ ap (λ (x : Machine). x.shifts) steps.tells in
    let up_to : v.counts.last_goal ≡ u.counts.last_goal = ap (λ (x : Machine). x.counts.last_goal) steps.schedules.looks.rest in
    shifts_enabled b v w (looks_machine t v l (told_machine m t steps.tells event.is))
    (ap (λ (x : Tree CellName). x.kept) shoens ∙ ap (λ (x : Trail). x.shoens) s.keeps.trail ∙ begun.shoens)
    (ap (λ (x : Tree CellName). x.kept_work) shoens ∙ ap (λ (x : Trail). x.work) s.keeps.trail ∙ begun.work)
    (λ q. rw shoens (s.flags (sym shifts ∙ q)))
    steps.shifts
    (rw up_to (steps.schedules.flags b (omega (arith, same_last)) woken))

-- ---- the machine rests

pub steps_rested : (program : Program) (b m t u v w : Machine) → IsBegun b → Since b m → IsMachine m → IsRested program b → Steps program m t u v w → IsRested program w
steps_rested program b m t u v w begun s j r steps =
    let done = steps_reschedule program m t u v w j steps in
    let event : HasBegun b m = record { begun = begun; was = r.machine; is = j; since = s } in
    let names : w.names ≡ b.names = ap (λ (x : Machine). x.names) done.rest ∙ ap (λ (x : Trail). x.names) s.keeps.trail in
    let back : (f : Reading) → Fits w.names.names f → Fits b.names.names f = λ f fits. rw names at fits in
    record {
      machine = done.machine;
      rules = r.rules ∙ sym (ap (λ (x : Machine). x.rules) done.rest ∙ ap (λ (x : Trail). x.rules) s.keeps.trail);
      first = looked_hold (λ g. 0 < g.number) (λ g o c p. p) w.goals.goals m.goals.goals done.goals (come_hold (λ g. 0 < g.number) b m s.come r.first (λ g late. omega (arith, late)));
      rows = λ f fits. r.rows f (back f fits);
      settled = λ f fits. steps_settled f program b m t u v w (record { reads = fits.reads; rows = r.rows f (back f fits) }) event steps (r.settled f (back f fits));
      enabled = steps_enabled program b m t u v w event steps r.enabled;
    }

-- ---- for callers

-- a shoen that let its goals step when an event began, or one of number 0
pub still_lets : (b m : Machine) (n : ℕ) → Since b m → n ≤ length b.shoens.shoens → is_enabled_at b.shoens.shoens b.shoens.work n ≡ true → LetsStill n m
still_lets b m n s le e q = s.flags q n le ∙ e

-- goals that were looked at mean what they meant
pub looked_read : (t : Means) (gs ks : List (Goal CellName)) → map unlooked gs ≡ map unlooked ks → map (goal_with t) gs ≡ map (goal_with t) ks
looked_read t gs ks e = sym (map-map (goal_with t) unlooked gs) ∙ ap (map (goal_with t)) e ∙ map-map (goal_with t) unlooked ks

-- goals that were looked at again mean what they meant, whatever the store holds
pub looked_state : (f : Reading) (s : State) (h : Held CellName) (u v : Machine) → Reschedules u v → worked f s h (made u) ≡ worked f s h (made v)
looked_state f s h u v r =
    let G : List model.Goal → State = λ gs. (let z : State = record (worked f s h (made u)) { goals = gs } in z) in
    ap G (sym (looked_read (meaning f h) v.goals.goals u.goals.goals r.goals)) ∙ ap (λ (x : Machine). worked f s h (made x)) (sym r.rest)

-- a machine that was rescheduled has come on as it had
pub turns_rescheduled : (change : Reading → State → State) (b m n : Machine) → Turns change b m → Reschedules m n → Turns change b n
turns_rescheduled change b m n p r ms =
    let a = p ms in
    record {
      inside = r.machine.inside;
      states = λ f knows s.
          let H : Held CellName → State = λ h. worked f s h (made n) in
          a.states f knows s ∙ looked_state f s m.store.held m n r ∙ ap H (sym r.held);
    }
